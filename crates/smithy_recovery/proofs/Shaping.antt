-- What a value of a body asks of its node, and the parts that are left of a group.
use Rattle.std.proofs.Common.{◌≡◌, suc, ◌≤◌, Bool, true, false, not, ◌&&◌, List, [], ◌∷◌, Option, Some, None, is_some, refl, sym, ap, ◌∙◌, subst, arith}
use Rattle.std.specs.Prelude.{IfOk, Result}
use Rattle.std.proofs.lemmas.Bool.{and_parts}
use Rattle.smithy_ids.specs.declared.shape_type.ShapeType.TheVariants as kind
use Rattle.smithy_types.specs.Texts.{are_distinct}
use Rattle.smithy_schema.specs.Nodes.{Table, Schema, element_of, key_of, value_of}
use Rattle.smithy_serde.specs.declared.value.OneWrite.{OneWrite}
use Rattle.smithy_serde.specs.declared.value.WriteList.{WriteList}
use Rattle.smithy_serde.specs.declared.scalar.Group.{Group}
use Rattle.smithy_serde.specs.declared.scalar.Group.TheVariants as group
use Rattle.smithy_serde.specs.declared.value.ShapeValue.{ShapeValue}
use Rattle.smithy_serde.specs.declared.value.ShapeValue.TheVariants as stored
use Rattle.smithy_serde.specs.Fits.{fits}
use Rattle.smithy_serde.specs.Ranges.{is_in_range, are_writes_in_range}
use Rattle.smithy_serde.specs.Shaped.{is_kind, has_distinct_fields, is_shaped, are_shaped, are_fields_shaped, are_entries_shaped}
use Rattle.smithy_serde.specs.StoredValues.{value_in, writes_in, listed, stored_group, IsDefined, AreDefined, AreListedDefined}
use Rattle.smithy_serde.specs.Told.{grouped}
use Rattle.smithy_serde.proofs.StoredLemmas.{group_value, defined_in_group}
use Rattle.smithy_serde.specs.Values as value
use Rattle.smithy_serde.specs.Values.{Label, Value, scalar, list, structure, Writes, no_writes, write, keys_of}
use Rattle.smithy_recovery.specs.Shallow.{value_nesting, writes_nesting}
use Rattle.smithy_recovery.specs.views.ShapedParts.{takes_map, takes_structure, is_part_shaped, are_parts_shaped}

-- ---- the tests of a group, one by one

-- a value that is out of range follows no node
and_false : (b c : Bool) → b ≡ false → (b && c) ≡ false
and_false b c e = ap (λ x. x && c) e

pub out_of_range : (here : Schema) (v : Value) → is_in_range v ≡ false → false ≡ is_shaped (Some here) v
out_of_range here (scalar value.null) e = absurd (cc e)
out_of_range here (scalar (value.document d)) e = sym (and_false _ _ (and_false _ _ e))
out_of_range here (scalar (value.boolean b)) e = absurd (cc e)
out_of_range here (scalar (value.whole w z)) e = sym (and_false _ _ e)
out_of_range here (scalar (value.big_integer t)) e = sym (and_false _ _ e)
out_of_range here (scalar (value.big_decimal t)) e = sym (and_false _ _ e)
out_of_range here (scalar (value.text t)) e = sym (and_false _ _ e)
out_of_range here (scalar (value.blob bytes)) e = sym (and_false _ _ e)
out_of_range here (scalar (value.timestamp z)) e = sym (and_false _ _ e)
out_of_range here (list ws) e = sym (and_false _ _ (and_false _ _ (and_false _ _ e)))
out_of_range here (value.map ws) e = sym (and_false _ _ (and_false _ _ (and_false _ _ (and_false _ _ (and_false _ _ e)))))
out_of_range here (structure ws) e = sym (and_false _ _ (and_false _ _ (and_false _ _ e)))

module _ (here : Schema) (ws : Writes) (ranges : are_writes_in_range ws ≡ true) where
  list_is : is_shaped (Some here) (list ws) ≡ (fits here.node.kind (list ws) && is_some (element_of here) && are_shaped (element_of here) ws)
  list_is = ap (λ b. b && fits here.node.kind (list ws) && is_some (element_of here) && are_shaped (element_of here) ws) ranges

  pub list_misfit : fits here.node.kind (list ws) ≡ false → false ≡ is_shaped (Some here) (list ws)
  list_misfit e = sym (list_is ∙ ap (λ b. b && is_some (element_of here) && are_shaped (element_of here) ws) e)

  pub list_by : (element : Option Schema) → fits here.node.kind (list ws) ≡ true → element ≡ element_of here → (is_some element && are_shaped element ws) ≡ is_shaped (Some here) (list ws)
  list_by element e is = sym (list_is ∙ ap (λ b. b && is_some (element_of here) && are_shaped (element_of here) ws) e ∙ ap (λ o. is_some o && are_shaped o ws) (sym is))

  map_is : is_shaped (Some here) (value.map ws)
      ≡ (fits here.node.kind (value.map ws) && is_kind kind.String (key_of here) && is_some (value_of here) && are_distinct (keys_of ws) && are_entries_shaped (value_of here) ws)
  map_is =
      ap (λ b. b && fits here.node.kind (value.map ws) && is_kind kind.String (key_of here) && is_some (value_of here) && are_distinct (keys_of ws) && are_entries_shaped (value_of here) ws) ranges

  by_parts : (a b c d e : Bool) → (a && b && d) ≡ false → (a && b && c && d && e) ≡ false
  by_parts true true true false e h = refl
  by_parts true true true true e h = absurd (cc h)
  by_parts true true false d e h = refl
  by_parts true false c d e h = refl
  by_parts false b c d e h = refl

  all_parts : (a b c d e : Bool) → (a && b && d) ≡ true → (a && b && c && d && e) ≡ (c && e)
  all_parts true true true true e h = refl
  all_parts true true true false e h = absurd (cc h)
  all_parts true true false d e h = refl
  all_parts true false c d e h = absurd (cc h)
  all_parts false b c d e h = absurd (cc h)

  pub map_misfit : takes_map here (value.map ws) ws ≡ false → false ≡ is_shaped (Some here) (value.map ws)
  map_misfit e =
      sym (map_is ∙ by_parts (fits here.node.kind (value.map ws)) (is_kind kind.String (key_of here)) (is_some (value_of here)) (are_distinct (keys_of ws)) (are_entries_shaped (value_of here) ws) e)

  pub map_by : (entry : Option Schema) → takes_map here (value.map ws) ws ≡ true → entry ≡ value_of here → (is_some entry && are_entries_shaped entry ws) ≡ is_shaped (Some here) (value.map ws)
  map_by entry e is =
      sym (map_is ∙ all_parts (fits here.node.kind (value.map ws)) (is_kind kind.String (key_of here)) (is_some (value_of here)) (are_distinct (keys_of ws)) (are_entries_shaped (value_of here) ws) e
      ∙ ap (λ o. is_some o && are_entries_shaped o ws) (sym is))

  structure_is : is_shaped (Some here) (structure ws) ≡ (takes_structure here (structure ws) && are_fields_shaped (Some here) ws)
  structure_is = ap (λ b. b && fits here.node.kind (structure ws) && has_distinct_fields (Some here) && are_fields_shaped (Some here) ws) ranges

  pub structure_misfit : takes_structure here (structure ws) ≡ false → false ≡ is_shaped (Some here) (structure ws)
  structure_misfit e = sym (structure_is ∙ ap (λ b. b && are_fields_shaped (Some here) ws) e)

  pub structure_by : takes_structure here (structure ws) ≡ true → are_fields_shaped (Some here) ws ≡ is_shaped (Some here) (structure ws)
  structure_by e = sym (structure_is ∙ ap (λ b. b && are_fields_shaped (Some here) ws) e)

-- the answer to one test is that to another which is the same
pub as_same : {E : Type 0} (r : Result Bool E) (x y : Bool) → x ≡ y → IfOk r (λ b. b ≡ x) → IfOk r (λ b. b ≡ y)
as_same r x y e h = subst (λ z. IfOk r (λ b. b ≡ z)) e h

-- ---- the parts that are left

pub record Still (t : Table) (left : List OneWrite) (all : Writes) : Type 0 where
  pub below : writes_nesting (listed t left) ≤ writes_nesting all
  pub defined : AreListedDefined t left
  pub ranges : are_writes_in_range (listed t left) ≡ true

pub still_all : (t : Table) (left : List OneWrite) (all : Writes) → listed t left ≡ all → AreListedDefined t left → are_writes_in_range all ≡ true → Still t left all
still_all t left all e defined ranges = let depths = ap writes_nesting e in record { below = omega (arith, depths); defined = defined; ranges = ap are_writes_in_range e ∙ ranges }

module _ (t : Table) (left more : List OneWrite) (all : Writes) (x : OneWrite) (first : left ≡ x ∷ more) (s : Still t left all) where
  defined_here : AreListedDefined t (x ∷ more)
  defined_here = subst (AreListedDefined t) first s.defined

  ranges_here : (is_in_range (value_in t x.value) ≡ true) × (are_writes_in_range (listed t more) ≡ true)
  ranges_here = and_parts (is_in_range (value_in t x.value)) (are_writes_in_range (listed t more)) (sym (ap (λ ws. are_writes_in_range (listed t ws)) first) ∙ s.ranges)

  pub part_defined : IsDefined t x.value
  part_defined = defined_here.1

  pub part_ranges : is_in_range (value_in t x.value) ≡ true
  part_ranges = ranges_here.0

  pub part_below : value_nesting (value_in t x.value) ≤ writes_nesting all
  part_below = let depths = ap (λ ws. writes_nesting (listed t ws)) first in omega (arith, depths, s.below)

  pub still_more : Still t more all
  still_more = let depths = ap (λ ws. writes_nesting (listed t ws)) first in record { below = omega (arith, depths, s.below); defined = defined_here.2; ranges = ranges_here.1 }

  -- a test of each part that is left
  module _ (f g : Writes → Bool) (here all_pass : Bool) (shows : f (listed t left) ≡ all_pass) (is : f (listed t (x ∷ more)) ≡ (here && g (listed t more))) where
    pub test_more : here ≡ true → g (listed t more) ≡ all_pass
    test_more h = sym (ap (λ ws. f (listed t ws)) first ∙ is ∙ ap (λ b. b && g (listed t more)) h) ∙ shows

    pub test_past : here ≡ false → false ≡ all_pass
    test_past h = sym (ap (λ ws. f (listed t ws)) first ∙ is ∙ ap (λ b. b && g (listed t more)) h) ∙ shows

pub test_end : (t : Table) (left : List OneWrite) (f : Writes → Bool) (last all_pass : Bool) → left ≡ [] → f (listed t left) ≡ all_pass → f no_writes ≡ last → last ≡ all_pass
test_end t left f last all_pass none shows is = sym is ∙ sym (ap (λ ws. f (listed t ws)) none) ∙ shows

pub part_is : (is_key : Bool) (values : Option Schema) (l : Label) (v : Value) (more : Writes) → are_parts_shaped is_key values (write l v more) ≡ (is_part_shaped is_key values v && are_parts_shaped (not is_key) values more)
part_is true values l v more = refl
part_is false values l v more = refl

pub no_part_is : (is_key : Bool) (values : Option Schema) → are_parts_shaped is_key values no_writes ≡ is_key
no_part_is true values = refl
no_part_is false values = refl

-- a key is a text, and a value is shaped by its node
pub key_shaped : (is_key : Bool) (values : Option Schema) (v : Value) → is_key ≡ true → is_in_range v ≡ true → fits kind.String v ≡ is_part_shaped is_key values v
key_shaped true values v e h = sym (ap (λ b. b && fits kind.String v) h)
key_shaped false values v e h = absurd (cc e)

pub value_shaped : (is_key : Bool) (values : Option Schema) (v : Value) → is_key ≡ false → is_shaped values v ≡ is_part_shaped is_key values v
value_shaped false values v e = refl
value_shaped true values v e = absurd (cc e)

-- ---- a stored list, map or structure

seen : (t : Table) (v : ShapeValue) (g : Group) (ws : WriteList) → v ≡ stored_group g ws → value_in t v ≡ grouped g (writes_in t ws)
seen t v g ws is = ap (value_in t) is ∙ group_value t g ws

group_ranges : (g : Group) (ws : Writes) → is_in_range (grouped g ws) ≡ are_writes_in_range ws
group_ranges group.List ws = refl
group_ranges group.Map ws = refl
group_ranges group.Structure ws = refl

group_nesting : (g : Group) (ws : Writes) → value_nesting (grouped g ws) ≡ suc (writes_nesting ws)
group_nesting group.List ws = refl
group_nesting group.Map ws = refl
group_nesting group.Structure ws = refl

module _ (t : Table) (v : ShapeValue) (g : Group) (ws : WriteList) (is : v ≡ stored_group g ws) where
  pub inside_defined : IsDefined t v → AreDefined t ws
  inside_defined h = defined_in_group t g ws (subst (IsDefined t) is h)

  pub inside_ranges : is_in_range (value_in t v) ≡ true → are_writes_in_range (writes_in t ws) ≡ true
  inside_ranges h = sym (ap is_in_range (seen t v g ws is) ∙ group_ranges g (writes_in t ws)) ∙ h

  pub inside_below : value_nesting (value_in t v) ≡ suc (writes_nesting (writes_in t ws))
  inside_below = ap value_nesting (seen t v g ws is) ∙ group_nesting g (writes_in t ws)

module _ (t : Table) (v : ShapeValue) (ws : WriteList) (here : Schema) (ranges : is_in_range (value_in t v) ≡ true) where
  list_ranges : v ≡ stored.List ws → are_writes_in_range (writes_in t ws) ≡ true
  list_ranges is = inside_ranges t v group.List ws is ranges

  list_fits : (b : Bool) → v ≡ stored.List ws → fits here.node.kind (value_in t v) ≡ b → fits here.node.kind (list (writes_in t ws)) ≡ b
  list_fits b is e = sym (ap (fits here.node.kind) (seen t v group.List ws is)) ∙ e

  pub list_unfit : v ≡ stored.List ws → fits here.node.kind (value_in t v) ≡ false → false ≡ is_shaped (Some here) (value_in t v)
  list_unfit is e = list_misfit here (writes_in t ws) (list_ranges is) (list_fits false is e) ∙ ap (is_shaped (Some here)) (sym (seen t v group.List ws is))

  pub list_without : v ≡ stored.List ws → fits here.node.kind (value_in t v) ≡ true → None ≡ element_of here → false ≡ is_shaped (Some here) (value_in t v)
  list_without is e none = list_by here (writes_in t ws) (list_ranges is) None (list_fits true is e) none ∙ ap (is_shaped (Some here)) (sym (seen t v group.List ws is))

  pub list_with : v ≡ stored.List ws → fits here.node.kind (value_in t v) ≡ true → (element : Schema) → Some element ≡ element_of here → are_shaped (Some element) (writes_in t ws) ≡ is_shaped (Some here) (value_in t v)
  list_with is e element some = list_by here (writes_in t ws) (list_ranges is) (Some element) (list_fits true is e) some ∙ ap (is_shaped (Some here)) (sym (seen t v group.List ws is))

  map_ranges : v ≡ stored.Map ws → are_writes_in_range (writes_in t ws) ≡ true
  map_ranges is = inside_ranges t v group.Map ws is ranges

  map_takes : (b : Bool) → v ≡ stored.Map ws → takes_map here (value_in t v) (writes_in t ws) ≡ b → takes_map here (value.map (writes_in t ws)) (writes_in t ws) ≡ b
  map_takes b is e = sym (ap (λ x. takes_map here x (writes_in t ws)) (seen t v group.Map ws is)) ∙ e

  pub map_unfit : v ≡ stored.Map ws → takes_map here (value_in t v) (writes_in t ws) ≡ false → false ≡ is_shaped (Some here) (value_in t v)
  map_unfit is e = map_misfit here (writes_in t ws) (map_ranges is) (map_takes false is e) ∙ ap (is_shaped (Some here)) (sym (seen t v group.Map ws is))

  pub map_without : v ≡ stored.Map ws → takes_map here (value_in t v) (writes_in t ws) ≡ true → None ≡ value_of here → false ≡ is_shaped (Some here) (value_in t v)
  map_without is e none = map_by here (writes_in t ws) (map_ranges is) None (map_takes true is e) none ∙ ap (is_shaped (Some here)) (sym (seen t v group.Map ws is))

  pub map_with : v ≡ stored.Map ws → takes_map here (value_in t v) (writes_in t ws) ≡ true → (entry : Schema) → Some entry ≡ value_of here → are_entries_shaped (Some entry) (writes_in t ws) ≡ is_shaped (Some here) (value_in t v)
  map_with is e entry some = map_by here (writes_in t ws) (map_ranges is) (Some entry) (map_takes true is e) some ∙ ap (is_shaped (Some here)) (sym (seen t v group.Map ws is))

  structure_ranges : v ≡ stored.Struct ws → are_writes_in_range (writes_in t ws) ≡ true
  structure_ranges is = inside_ranges t v group.Structure ws is ranges

  structure_takes : (b : Bool) → v ≡ stored.Struct ws → takes_structure here (value_in t v) ≡ b → takes_structure here (structure (writes_in t ws)) ≡ b
  structure_takes b is e = sym (ap (takes_structure here) (seen t v group.Structure ws is)) ∙ e

  pub structure_unfit : v ≡ stored.Struct ws → takes_structure here (value_in t v) ≡ false → false ≡ is_shaped (Some here) (value_in t v)
  structure_unfit is e = structure_misfit here (writes_in t ws) (structure_ranges is) (structure_takes false is e) ∙ ap (is_shaped (Some here)) (sym (seen t v group.Structure ws is))

  pub structure_with : v ≡ stored.Struct ws → takes_structure here (value_in t v) ≡ true → are_fields_shaped (Some here) (writes_in t ws) ≡ is_shaped (Some here) (value_in t v)
  structure_with is e = structure_by here (writes_in t ws) (structure_ranges is) (structure_takes true is e) ∙ ap (is_shaped (Some here)) (sym (seen t v group.Structure ws is))

-- ---- a field by the member of its name

pub field_known : (found : Option Schema) (m : Schema) (v : Value) → Some m ≡ found → (is_some found && is_shaped found v) ≡ is_shaped (Some m) v
field_known found m v e = ap (λ o. is_some o && is_shaped o v) (sym e)

pub field_unknown : (found : Option Schema) (v : Value) → None ≡ found → (is_some found && is_shaped found v) ≡ false
field_unknown found v e = ap (λ o. is_some o && is_shaped o v) (sym e)
