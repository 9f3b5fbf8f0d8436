-- In a value nothing is found exactly where it follows its node.
use Rattle.smithy_wire.proofs.Common.{◌≡◌, refl, sym, ap, ap₂, ◌∙◌, ℕ, suc, Bool, true, false, ◌&&◌, ◌||◌, if◌then◌else◌, List, Option, Some, None, option_map, ℤ}
use Rattle.std.specs.Prelude.{◌↔◌, is_some, is_none}
use Rattle.std.specs.Option.{option_map_or, option_or}
use Rattle.smithy_ids.specs.Kinds.{is_structure_or_union}
use Rattle.smithy_ids.specs.declared.shape_type.ShapeType.{ShapeType}
use Rattle.smithy_ids.specs.declared.shape_type.ShapeType.TheVariants as kind
use Rattle.smithy_ids.specs.declared.traits.TimestampFormat.{TimestampFormat}
use Rattle.smithy_ids.specs.declared.traits.TimestampFormat.TheVariants as time
use Rattle.smithy_types.specs.Results.{unless}
use Rattle.smithy_types.specs.Timestamps.{calendar_text, is_in_calendar, since_year_one}
use Rattle.smithy_types.specs.declared.date_time.Format.TheVariants.{DateTime, HttpDate}
use Rattle.smithy_schema.specs.Nodes.{Schema, element_of, value_of, shape}
use Rattle.smithy_serde.specs.Fits.{fits, kind_takes}
use Rattle.smithy_serde.specs.Values as value
use Rattle.smithy_serde.specs.Values.{Scalar, Value, scalar, list, structure, Writes, no_writes, write, text_of_key}
use Rattle.smithy_wire.specs.ExactNumbers.{is_integer, is_number}
use Rattle.smithy_wire.specs.Follows.{body_follows, elements_follow, entries_follow, field_follows, field_of, fields_follow, follows, has_json, has_one_if_union, has_text, is_of_kind, values_follow}
use Rattle.smithy_wire.specs.Forms.{either_format, element_form, entries, fields, form_by, form_kind, form_of, form_or_free, free, part_form, time_form, whole_form}
use Rattle.smithy_wire.specs.Laws.{BodyIsExact, ValueIsExact, WholeIsExact}
use Rattle.smithy_wire.specs.Misfits.{behind, body_misfit, body_misfit_told, entry_misfit, field_misfit, in_field, is_outside, item_misfit, misfit, misfit_told, outer_misfit, told_name, value_misfit, whole_misfit, whole_misfit_told, wrong_count, wrong_decimal, wrong_integer, wrong_kind, wrong_name, wrong_scalar, wrong_time}
use Rattle.smithy_wire.specs.Unwire.{item_step, part_step}
use Rattle.smithy_wire.specs.WireNames.{field_named}
use Rattle.smithy_wire.specs.declared.misfit.Misfit.{Misfit}
use Rattle.smithy_wire.specs.declared.side.Side.{Side}

-- ---- nothing is found

abbrev nothing : Option Misfit → Bool
nothing found = is_none found

either_nothing : (a b : Option Misfit) → nothing (option_or a b) ≡ (nothing a && nothing b)
either_nothing None b = refl
either_nothing (Some m) b = refl

behind_nothing : (step : List ℕ) (a : Option Misfit) → nothing (behind step a) ≡ nothing a
behind_nothing step None = refl
behind_nothing step (Some m) = refl

unless_nothing : (b : Bool) (m : Misfit) → nothing (unless b m) ≡ b
unless_nothing true m = refl
unless_nothing false m = refl

-- two tests that agree where a first one holds
and_when : (a b c : Bool) → (a ≡ true → b ≡ c) → (a && b) ≡ (a && c)
and_when true b c same = same refl
and_when false b c same = refl

-- ---- what a form asks is what its node asks

time_kind : (o : Option TimestampFormat) → form_kind (time_form o) ≡ Some kind.Timestamp
time_kind (Some time.DateTime) = refl
time_kind (Some time.HttpDate) = refl
time_kind (Some time.EpochSeconds) = refl
time_kind None = refl

kind_of_form : (n : Schema) → form_kind (form_of n) ≡ Some (shape n).node.kind
kind_of_form n = go (shape n).node.kind refl
  where
    go : (k : ShapeType) → (shape n).node.kind ≡ k → form_kind (form_by k None n) ≡ Some (shape n).node.kind
    go kind.Structure is = refl
    go kind.Union is = refl
    go kind.Timestamp is = time_kind (either_format n) ∙ ap (λ k. Some k) (sym is)
    go _ is = ap (λ k. Some k) (sym is)

kind_is : (n : Schema) (v : Value) → nothing (wrong_kind (form_of n) v) ≡ is_of_kind n v
kind_is n v = unless_nothing _ _ ∙ ap (λ o. option_map_or (λ k. fits k v) o true) (kind_of_form n)

pub element_is : (n : Schema) (ws : Writes) → is_of_kind n (list ws) ≡ true → element_form (form_of n) ≡ form_or_free (element_of (shape n))
element_is n ws takes = go (shape n).node.kind takes
  where
    go : (k : ShapeType) → kind_takes k kind.List ≡ true → element_form (form_by k None n) ≡ form_or_free (element_of (shape n))
    go kind.List e = refl
    go _ e = absurd (cc e)

pub map_is : (n : Schema) (ws : Writes) → is_of_kind n (value.map ws) ≡ true → form_of n ≡ entries (value_of (shape n))
map_is n ws takes = go (shape n).node.kind takes
  where
    go : (k : ShapeType) → kind_takes k kind.Map ≡ true → form_by k None n ≡ entries (value_of (shape n))
    go kind.Map e = refl
    go _ e = absurd (cc e)

pub fields_are : (n : Schema) (ws : Writes) → is_of_kind n (structure ws) ≡ true → form_of n ≡ fields None (shape n)
fields_are n ws takes = go (shape n).node.kind takes
  where
    go : (k : ShapeType) → kind_takes k kind.Structure ≡ true → form_by k None n ≡ fields None (shape n)
    go kind.Structure e = refl
    go kind.Union e = refl
    go _ e = absurd (cc e)

-- ---- scalars

there_if : (text : ℕ → List ℕ) (x : ℕ) (b : Bool) → is_some (option_map text (if b then Some x else None)) ≡ b
there_if text x true = refl
there_if text x false = refl

pub calendar_is : (z : ℤ) (text : ℕ → List ℕ) → is_some (option_map text (since_year_one z)) ≡ is_in_calendar z
calendar_is z text = there_if text _ (is_in_calendar z)

time_is : (o : Option TimestampFormat) (z : ℤ) → nothing (wrong_time (time_form o) z) ≡ has_text o z
time_is (Some time.DateTime) z = unless_nothing _ _ ∙ calendar_is z (calendar_text DateTime)
time_is (Some time.HttpDate) z = unless_nothing _ _ ∙ calendar_is z (calendar_text HttpDate)
time_is (Some time.EpochSeconds) z = refl
time_is None z = refl

scalar_is : (n : Schema) (s : Scalar) → is_of_kind n (scalar s) ≡ true → nothing (wrong_scalar (form_of n) s) ≡ has_json n s
scalar_is n (value.timestamp z) takes = go (shape n).node.kind takes
  where
    go : (k : ShapeType) → kind_takes k kind.Timestamp ≡ true → nothing (wrong_time (form_by k None n) z) ≡ has_text (either_format n) z
    go kind.Timestamp e = time_is (either_format n) z
    go _ e = absurd (cc e)
scalar_is n (value.big_integer text) takes = go (shape n).node.kind takes
  where
    go : (k : ShapeType) → kind_takes k kind.BigInteger ≡ true → nothing (wrong_integer (form_by k None n) text) ≡ is_integer text
    go kind.BigInteger e = unless_nothing _ _
    go _ e = absurd (cc e)
scalar_is n (value.big_decimal text) takes = go (shape n).node.kind takes
  where
    go : (k : ShapeType) → kind_takes k kind.BigDecimal ≡ true → nothing (wrong_decimal (form_by k None n) text) ≡ is_number text
    go kind.BigDecimal e = unless_nothing _ _
    go _ e = absurd (cc e)
scalar_is n (value.boolean b) takes = refl
scalar_is n (value.whole w z) takes = refl
scalar_is n (value.text t) takes = refl
scalar_is n (value.blob bytes) takes = refl
scalar_is n (value.document d) takes = refl
scalar_is n value.null takes = refl

-- a scalar that is no null
told_scalar : (n : Schema) (s : Scalar) → nothing (option_or (wrong_kind (form_of n) (scalar s)) (wrong_scalar (form_of n) s)) ≡ (is_of_kind n (scalar s) && has_json n s)
told_scalar n s =
    either_nothing _ _ ∙ ap (λ b. b && nothing (wrong_scalar (form_of n) s)) (kind_is n (scalar s)) ∙ and_when (is_of_kind n (scalar s)) _ _ (scalar_is n s)

-- ---- where no node stands

free_scalar : (s : Scalar) → misfit free (scalar s) ≡ None
free_scalar (value.boolean b) = refl
free_scalar (value.whole w z) = refl
free_scalar (value.big_integer text) = refl
free_scalar (value.big_decimal text) = refl
free_scalar (value.text t) = refl
free_scalar (value.blob bytes) = refl
free_scalar (value.timestamp z) = refl
free_scalar (value.document d) = refl
free_scalar value.null = refl

mutual
  free_value : (v : Value) → misfit free v ≡ None
  free_value (scalar s) = free_scalar s
  free_value (list ws) = free_items 0 ws
  free_value (value.map ws) = free_entries ws
  free_value (structure ws) = free_fields ws

  free_items : (i : ℕ) (ws : Writes) → item_misfit free i ws ≡ None
  free_items i no_writes = refl
  free_items i (write l v ws) = ap₂ (λ a b. option_or (behind (item_step i) a) b) (free_value v) (free_items (suc i) ws)

  free_entries : (ws : Writes) → entry_misfit free ws ≡ None
  free_entries no_writes = refl
  free_entries (write k key ws) = free_behind (text_of_key key) ws

  free_behind : (key : List ℕ) (ws : Writes) → value_misfit free key ws ≡ None
  free_behind key no_writes = refl
  free_behind key (write l v ws) = ap₂ (λ a b. option_or (behind (part_step free key) a) b) (free_value v) (free_entries ws)

  free_fields : (ws : Writes) → field_misfit free ws ≡ None
  free_fields no_writes = refl
  free_fields (write l v ws) = ap₂ (λ a b. option_or (behind (part_step free (told_name l)) a) b) (free_value v) (free_fields ws)

-- ---- at every depth

-- a write of a member, by what is found in its value
named_is : (side : Option Side) (s : Schema) (name : List ℕ) (found : Option Misfit) → nothing (in_field (fields side s) name found) ≡ (is_some (field_named side s name) && nothing found)
named_is side s name found =
    behind_nothing (part_step (fields side s) name) _ ∙ either_nothing (wrong_name (fields side s) name) found ∙ ap (λ b. b && nothing found) (unless_nothing (is_some (field_named side s name)) _)

mutual
  value_is : (here : Option Schema) (v : Value) → nothing (misfit (form_or_free here) v) ≡ follows here v
  value_is None v = ap nothing (free_value v)
  value_is (Some n) (scalar value.null) = refl
  value_is (Some n) (scalar (value.boolean b)) = told_scalar n (value.boolean b)
  value_is (Some n) (scalar (value.whole w z)) = told_scalar n (value.whole w z)
  value_is (Some n) (scalar (value.big_integer text)) = told_scalar n (value.big_integer text)
  value_is (Some n) (scalar (value.big_decimal text)) = told_scalar n (value.big_decimal text)
  value_is (Some n) (scalar (value.text t)) = told_scalar n (value.text t)
  value_is (Some n) (scalar (value.blob bytes)) = told_scalar n (value.blob bytes)
  value_is (Some n) (scalar (value.timestamp z)) = told_scalar n (value.timestamp z)
  value_is (Some n) (scalar (value.document d)) = told_scalar n (value.document d)
  value_is (Some n) (list ws) =
      either_nothing _ _ ∙ ap (λ b. b && nothing (item_misfit (element_form (form_of n)) 0 ws)) (kind_is n (list ws))
      ∙ and_when (is_of_kind n (list ws)) _ _ (λ takes. ap (λ f. nothing (item_misfit f 0 ws)) (element_is n ws takes) ∙ elements_are (element_of (shape n)) 0 ws)
  value_is (Some n) (value.map ws) =
      either_nothing _ _ ∙ ap (λ b. b && nothing (entry_misfit (form_of n) ws)) (kind_is n (value.map ws))
      ∙ and_when (is_of_kind n (value.map ws)) _ _ (λ takes. ap (λ f. nothing (entry_misfit f ws)) (map_is n ws takes) ∙ entries_are (value_of (shape n)) ws)
  value_is (Some n) (structure ws) =
      either_nothing _ _ ∙ ap (λ b. b && nothing (option_or (wrong_count (form_of n) ws) (field_misfit (form_of n) ws))) (kind_is n (structure ws))
      ∙ and_when (is_of_kind n (structure ws)) _ _ (λ takes. ap (λ f. nothing (option_or (wrong_count f ws) (field_misfit f ws))) (fields_are n ws takes) ∙ either_nothing _ _ ∙ ap₂ (λ a b. a && b) (unless_nothing (has_one_if_union n ws) _) (members_are None (shape n) ws))

  elements_are : (element : Option Schema) (i : ℕ) (ws : Writes) → nothing (item_misfit (form_or_free element) i ws) ≡ elements_follow element ws
  elements_are element i no_writes = refl
  elements_are element i (write l v ws) = either_nothing _ _ ∙ ap₂ (λ a b. a && b) (behind_nothing (item_step i) _ ∙ value_is element v) (elements_are element (suc i) ws)

  entries_are : (values : Option Schema) (ws : Writes) → nothing (entry_misfit (entries values) ws) ≡ entries_follow values ws
  entries_are values no_writes = refl
  entries_are values (write k key ws) = values_are values (text_of_key key) ws

  values_are : (values : Option Schema) (key : List ℕ) (ws : Writes) → nothing (value_misfit (entries values) key ws) ≡ values_follow values ws
  values_are values key no_writes = refl
  values_are values key (write l v ws) = either_nothing _ _ ∙ ap₂ (λ a b. a && b) (behind_nothing (part_step (entries values) key) _ ∙ value_is values v) (entries_are values ws)

  members_are : (side : Option Side) (s : Schema) (ws : Writes) → nothing (field_misfit (fields side s) ws) ≡ fields_follow side s ws
  members_are side s no_writes = refl
  members_are side s (write l v ws) =
      either_nothing _ _
      ∙ ap₂ (λ a b. a && b) (named_is side s (told_name l) _ ∙ ap (λ b. is_some (field_of side s l) && b) (value_is (field_of side s l) v)) (members_are side s ws)

-- ---- inputs

outer_is : (n : Schema) (l : value.Label) (v : Value) → whole_form n ≡ fields None (shape n) → nothing (outer_misfit n l v) ≡ (is_outside n (told_name l) || field_follows None (shape n) l v)
outer_is n l v is = go (is_outside n (told_name l))
  where
    inside : nothing (in_field (whole_form n) (told_name l) (misfit (part_form (whole_form n) (told_name l)) v)) ≡ field_follows None (shape n) l v
    inside =
        ap (λ f. nothing (in_field f (told_name l) (misfit (part_form f (told_name l)) v))) is ∙ named_is None (shape n) (told_name l) _
        ∙ ap (λ b. is_some (field_of None (shape n) l) && b) (value_is (field_of None (shape n) l) v)

    go : (b : Bool) → nothing (if b then None else in_field (whole_form n) (told_name l) (misfit (part_form (whole_form n) (told_name l)) v)) ≡ (b || field_follows None (shape n) l v)
    go true = refl
    go false = inside

body_is : (n : Schema) (ws : Writes) → whole_form n ≡ fields None (shape n) → nothing (body_misfit n ws) ≡ body_follows n ws
body_is n no_writes is = refl
body_is n (write l v ws) is = either_nothing _ _ ∙ ap₂ (λ a b. a && b) (outer_is n l v is) (body_is n ws is)

-- the form of a structure or a union is that of its fields
structured : (n : Schema) → is_structure_or_union (shape n).node.kind ≡ true → whole_form n ≡ fields None (shape n)
structured n e = go (shape n).node.kind e
  where
    go : (k : ShapeType) → is_structure_or_union k ≡ true → form_by k None n ≡ fields None (shape n)
    go kind.Structure e = refl
    go kind.Union e = refl
    go _ e = absurd (cc e)

-- ---- exactly

none_exactly : (o : Option Misfit) (b : Bool) → nothing o ≡ b → (o ≡ None) ↔ (b ≡ true)
none_exactly None b is = (λ e. sym is, λ e. refl)
none_exactly (Some m) b is = (λ e. absurd (cc e), λ e. let both : false ≡ true = is ∙ e in absurd (cc both))

told_exactly : (o : Option Misfit) (b : Bool) → nothing o ≡ b → (option_map misfit_told o ≡ None) ↔ (b ≡ true)
told_exactly None b is = (λ e. sym is, λ e. refl)
told_exactly (Some m) b is = (λ e. absurd (cc e), λ e. let both : false ≡ true = is ∙ e in absurd (cc both))

pub value_is_exact : ValueIsExact
value_is_exact n v = none_exactly (misfit (form_of n) v) (follows (Some n) v) (value_is (Some n) v)

pub whole_is_exact : WholeIsExact
unfolding whole_misfit_told
whole_is_exact n ws structured_here =
    told_exactly (whole_misfit n ws) (fields_follow None (shape n) ws) (ap (λ f. nothing (field_misfit f ws)) (structured n structured_here) ∙ members_are None (shape n) ws)

pub body_is_exact : BodyIsExact
unfolding body_misfit_told
body_is_exact n ws structured_here = told_exactly (body_misfit n ws) (body_follows n ws) (body_is n ws (structured n structured_here))
