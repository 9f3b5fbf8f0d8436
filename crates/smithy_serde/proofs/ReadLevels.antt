-- The value of a held thing by the values of what is in it.
use Rattle.std.proofs.Common.{◌≡◌, ℕ, zero, suc, ◌<◌, Bool, true, false, List, [], ◌∷◌, map, Option, Some, None, Result, Ok, Err, refl, ap, arith}
use Rattle.std.specs.Prelude.{IfOk, flat_map, not, ◌&&◌, ◌++◌, if◌then◌else◌}
use Rattle.std.specs.Option.{option_map_or}
use Rattle.smithy_ids.specs.Kinds.{same_kind}
use Rattle.smithy_types.specs.Documents as doc
use Rattle.smithy_types.specs.Documents.{Document, Items, Members, no_items, item, no_members, member, nesting, items_nesting, members_nesting, list_of_items, list_of_members}
use Rattle.smithy_types.specs.Results.{then_try, then_give}
use Rattle.smithy_ids.specs.declared.shape_type.ShapeType.{ShapeType}
use Rattle.smithy_ids.specs.declared.shape_type.ShapeType.TheVariants as kind
use Rattle.smithy_schema.specs.Nodes.{Schema, element_of, key_of, value_of, shape, member_named}
use Rattle.smithy_serde.specs.Values as value
use Rattle.smithy_serde.specs.Values.{Value, writes_of}
use Rattle.smithy_serde.specs.declared.error.SerdeError.{SerdeError}
use Rattle.smithy_serde.specs.Held as held
use Rattle.smithy_serde.specs.Held.{Held, Prefixed, levels_of, is_null_held}
use Rattle.smithy_serde.specs.HeaderReads.{has_dates}
use Rattle.smithy_serde.specs.IndexOrder.{in_order}
use Rattle.smithy_serde.specs.HeldReads.{elements, entries, fields, known, with_texts}
use Rattle.smithy_serde.specs.ValueRead.{all_read, write_by, entry_by, joined, list_by, map_by, value_of_structure, value_by_kind, value_with, value_within, value_read}

-- P of each
abbrev pub Each : {X : Type 0} → (X → Type 0) → List X → Type 0
Each P [] = Unit {0}
Each P (x ∷ xs) = P x × Each P xs

-- reads that agree on the items
all_same : {A B : Type 0} (P : A → Type 0) (f g : A → Result B SerdeError) (xs : List A) → ((x : A) → P x → f x ≡ g x) → Each P xs → all_read f xs ≡ all_read g xs
all_same P f g [] same all = refl
all_same P f g (x ∷ xs) same all = rw (same x all.0, all_same P f g xs same all.1) refl

read_same : {A B : Type 0} (P : A → Type 0) (f g : A → Result B SerdeError) (r : Result (List A) SerdeError) → ((x : A) → P x → f x ≡ g x) → IfOk r (Each P) → then_try r (all_read f) ≡ then_try r (all_read g)
read_same P f g (Ok xs) same all = all_same P f g xs same all
read_same P f g (Err e) same all = refl

-- what is in a held thing has fewer levels
each_is : {A B : Type 0} (P : B → Type 0) (f : A → B) (xs : List A) → ((x : A) → P (f x)) → Each P (map f xs)
each_is P f [] h = tt
each_is P f (x ∷ xs) h = (h x, each_is P f xs h)

items_below : (n : ℕ) (ds : Items) → items_nesting ds < n → Each (λ x. levels_of x < n) (map (λ d. held.document d) (list_of_items ds))
items_below n no_items h = tt
items_below n (item d ds) h = (omega arith, items_below n ds (omega arith))

entries_below : (n : ℕ) (ms : Members) → members_nesting ms < n → Each (λ (x : List ℕ × Held). levels_of x.1 < n) (map {B = List ℕ × Held} (λ m. (m.0, held.document m.1)) (list_of_members ms))
entries_below n no_members h = tt
entries_below n (member k d ms) h = (omega arith, entries_below n ms (omega arith))

give_below : {A : Type 0} (n : ℕ) (f : A → Held) (r : Result (List A) SerdeError) → ((x : A) → levels_of (f x) < n) → IfOk (then_give r (map f)) (Each (λ x. levels_of x < n))
give_below n f (Ok xs) h = each_is (λ x. levels_of x < n) f xs h
give_below n f (Err e) h = tt

if_below : (b : Bool) (P : Result (List Held) SerdeError → Type 0) (x y : Result (List Held) SerdeError) → P x → P y → P (if b then x else y)
if_below true P x y p q = p
if_below false P x y p q = q

with_texts_below : (r : Result (List (List ℕ)) SerdeError) → IfOk (with_texts r) (Each (λ x. levels_of x < 1))
with_texts_below (Ok texts) = each_is (λ x. levels_of x < 1) (λ text. held.item (Some text)) texts (λ t. omega arith)
with_texts_below (Err e) = tt

elements_below : (node : Schema) (h : Held) → IfOk (elements node h) (Each (λ x. levels_of x < levels_of h))
unfolding elements
elements_below node (held.header name values) =
    if_below (has_dates node) (λ r. IfOk r (Each (λ x. levels_of x < 1))) _ _
    (give_below 1 (λ seconds. held.date seconds) _ (λ x. omega arith))
    (give_below 1 (λ token. held.element token) _ (λ x. omega arith))
elements_below node (held.document (doc.array ds)) = items_below (suc (items_nesting ds)) ds (omega arith)
elements_below node (held.input text is_read) = with_texts_below _
elements_below node _ = tt

map_entries_below : (node : Schema) (h : Held) → IfOk (entries node h) (Each (λ (x : List ℕ × Held). levels_of x.1 < levels_of h))
unfolding entries
map_entries_below node (held.prefixed ps) = each_is (λ (x : List ℕ × Held). levels_of x.1 < 2) (λ (p : Prefixed). (p.key, held.header p.name p.values)) ps (λ p. omega arith)
map_entries_below node (held.document (doc.object ms)) = entries_below (suc (members_nesting ms)) ms (omega arith)
map_entries_below node _ = tt

known_below : (n : ℕ) (found : Option Schema) (d : Document) (rest : List (Schema × Held)) → nesting d < n → Each (λ (x : Schema × Held). levels_of x.1 < n) rest
    → Each (λ (x : Schema × Held). levels_of x.1 < n) (option_map_or (λ m. (m, held.document d) ∷ []) found [] ++ rest)
known_below n None d rest h each = each
known_below n (Some m) d rest h each = (h, each)

fields_of_below : (node : Schema) (n : ℕ) (ms : Members) → members_nesting ms < n → Each (λ (x : Schema × Held). levels_of x.1 < n) (flat_map (known node) (list_of_members ms))
fields_of_below node n no_members h = tt
fields_of_below node n (member k d ms) h = known_below n (member_named node k) d (flat_map (known node) (list_of_members ms)) (omega arith) (fields_of_below node n ms (omega arith))

fields_below : (node : Schema) (h : Held) → IfOk (fields node h) (Each (λ (x : Schema × Held). levels_of x.1 < levels_of h))
unfolding fields
fields_below node (held.document (doc.object ms)) = fields_of_below node (suc (members_nesting ms)) ms (omega arith)
fields_below node _ = tt

-- reads of one level that agree on what has fewer levels
module _ (f g : Schema → Held → Result Value SerdeError) (h : Held) (same : (m : Schema) (x : Held) → levels_of x < levels_of h → f m x ≡ g m x) where
  list_same : (node : Schema) (element : Option Schema) → list_by f node element h ≡ list_by g node element h
  list_same node None = refl
  list_same node (Some e) =
      ap (λ r. then_give r (λ ws. value.list (writes_of ws)))
      (read_same (λ x. levels_of x < levels_of h) (λ x. then_give (f e x) (write_by e)) (λ x. then_give (g e x) (write_by e)) (elements node h) (λ x below. ap (λ r. then_give r (write_by e)) (same e x below)) (elements_below node h))

  map_same : (node : Schema) (key entry : Option Schema) → map_by f node key entry h ≡ map_by g node key entry h
  map_same node None entry = refl
  map_same node (Some k) None = refl
  map_same node (Some k) (Some e) =
      ap (λ r. then_give r (λ es. value.map (writes_of (joined es))))
      (read_same (λ (x : List ℕ × Held). levels_of x.1 < levels_of h) (λ x. then_give (f e x.1) (entry_by k e x.0)) (λ x. then_give (g e x.1) (entry_by k e x.0))
      (entries node h) (λ x below. ap (λ r. then_give r (entry_by k e x.0)) (same e x.1 below)) (map_entries_below node h))

  structure_same : (node : Schema) → value_of_structure f node h ≡ value_of_structure g node h
  structure_same node =
      ap (λ r. then_give r (λ ws. value.structure (writes_of (in_order ws))))
      (read_same (λ (x : Schema × Held). levels_of x.1 < levels_of h) (λ x. then_give (f x.0 x.1) (write_by x.0)) (λ x. then_give (g x.0 x.1) (write_by x.0))
      (fields node h) (λ x below. ap (λ r. then_give r (write_by x.0)) (same x.0 x.1 below)) (fields_below node h))

  kind_same : (k : ShapeType) (node : Schema) → value_by_kind f k node h ≡ value_by_kind g k node h
  kind_same kind.List node = list_same node (element_of node)
  kind_same kind.Map node = map_same node (key_of node) (value_of node)
  kind_same kind.Structure node = structure_same (shape node)
  kind_same kind.Union node = structure_same (shape node)
  kind_same _ node = refl

  with_same : (node : Schema) → value_with f node h ≡ value_with g node h
  with_same node = ap (λ r. if is_null_held h && not (same_kind node.node.kind kind.Document) then Ok (value.scalar value.null) else r) (kind_same node.node.kind node)

-- so many levels are enough
within_same : (n k : ℕ) (node : Schema) (h : Held) → levels_of h < n → levels_of h < k → value_within n node h ≡ value_within k node h
within_same zero k node h below enough = let bad : ⊥ = omega arith in absurd bad
within_same (suc n) zero node h below enough = let bad : ⊥ = omega arith in absurd bad
within_same (suc n) (suc k) node h below enough =
    with_same (value_within n) (value_within k) h (λ m x less. within_same n k m x (omega arith) (omega arith)) node

-- what is read, by what is read of the items
pub value_once : (node : Schema) (h : Held) → value_read node h ≡ value_with value_read node h
unfolding value_read
value_once node h = with_same (value_within (levels_of h)) value_read h (λ m x less. within_same (levels_of h) (suc (levels_of x)) m x less (omega arith)) node
