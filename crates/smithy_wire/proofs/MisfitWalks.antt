-- The first place of a value that doesn't follow its node, a part at a time.
use Rattle.smithy_wire.proofs.Common.{◌≡◌, refl, sym, ap, subst, ◌∙◌, ℕ, zero, suc, ◌+◌, ◌<◌, ◌≤◌, arith, List, [], ◌∷◌, length, drop, Option, Some, None, Result, Ok, Err}
use Rattle.std.specs.Prelude.{◌≢◌, IsErrAnd, option_map, slice_get}
use Rattle.std.specs.Option.{option_map_or}
use Rattle.std.proofs.Math.ListN.{drop_of_length-le}
use Rattle.smithy_document.proofs.PathLemmas.{drop_first}
use Rattle.smithy_serde.proofs.StoredLemmas.{writes_listed, length-listed}
use Rattle.smithy_schema.specs.Nodes.{Table}
use Rattle.smithy_serde.specs.StoredValues.{label_at, value_in, writes_in, kept_writes, listed}
use Rattle.smithy_serde.specs.Values.{Value, scalar, Writes, list_of, text_of_key}
use Rattle.smithy_serde.specs.declared.value.OneWrite.{OneWrite}
use Rattle.smithy_serde.specs.declared.value.ShapeValue.{ShapeValue}
use Rattle.smithy_serde.specs.declared.value.ShapeValue.TheVariants as stored
use Rattle.smithy_serde.specs.declared.value.WriteList.{WriteList}
use Rattle.smithy_wire.specs.Words.{Schema, SerdeError, option_or}
use Rattle.smithy_wire.specs.Forms.{Form, element_form, part_form}
use Rattle.smithy_wire.specs.Misfits.{behind, body_misfit, body_misfit_told, entry_misfit, field_misfit, in_field, item_misfit, misfit, misfit_told, told_name, value_misfit, whole_misfit, whole_misfit_told, wrong_count, wrong_kind, wrong_scalar}
use Rattle.smithy_serde.specs.Nesting.{value_nesting, writes_nesting}
use Rattle.smithy_wire.specs.Unwire.{item_step, part_step}
use Rattle.smithy_wire.specs.declared.misfit.Misfit.{Misfit}
use Rattle.smithy_wire.specs.declared.misfit.Refused.{Refused}
use Rattle.smithy_wire.specs.declared.misfit.Refused.TheVariants as refused
use Rattle.smithy_wire.specs.views.MisfitView.{Finds, FindsText, TellsFound, TellsMisfit}

-- ---- one after the other

-- of a test, which answers nothing where it finds nothing
abbrev pub FindsNothing : Option Misfit → Result (Unit {0}) Refused → Type 0
FindsNothing found result = Finds found result

-- nothing is found first, so what is found then is all
pub nothing_first : (a b all : Option Misfit) → a ≡ None → option_or a b ≡ all → b ≡ all
nothing_first a b all none h = ap (λ x. option_or x b) (sym none) ∙ h

-- what is found first is all
pub found_first : (a b all : Option Misfit) (e : Refused) (r : Result (Unit {0}) Refused) → IsErrAnd r (λ y. y ≡ e) → FindsNothing a (Err e) → option_or a b ≡ all → Finds all r
found_first a b all e (Ok u) same told h = absurd same
found_first a b all e (Err y) same told h = go y (subst (λ x. FindsNothing a (Err x)) (sym same) told)
  where
    go : (y : Refused) → FindsNothing a (Err y) → FindsNothing all (Err y)
    go (refused.Misfit m) is = sym h ∙ ap (λ x. option_or x b) is
    go refused.OutOfMemory is = tt

pub as_same : (r : Result (Unit {0}) Refused) (a b : Option Misfit) → a ≡ b → Finds a r → Finds b r
as_same r a b e h = subst (λ x. Finds x r) e h

-- ---- groups

module _ (f : Form) (t : Table) (v : ShapeValue) (ws : WriteList) where
  pub list_is : v ≡ stored.List ws → option_or (wrong_kind f (value_in t v)) (item_misfit (element_form f) 0 (writes_in t ws)) ≡ misfit f (value_in t v)
  unfolding value_in
  list_is is =
      ap (λ x. option_or (wrong_kind f (value_in t x)) (item_misfit (element_form f) 0 (writes_in t ws))) is ∙ sym (ap (λ x. misfit f (value_in t x)) is)

  pub map_is : v ≡ stored.Map ws → option_or (wrong_kind f (value_in t v)) (entry_misfit f (writes_in t ws)) ≡ misfit f (value_in t v)
  unfolding value_in
  map_is is = ap (λ x. option_or (wrong_kind f (value_in t x)) (entry_misfit f (writes_in t ws))) is ∙ sym (ap (λ x. misfit f (value_in t x)) is)

  pub struct_is : v ≡ stored.Struct ws
      → option_or (wrong_kind f (value_in t v)) (option_or (wrong_count f (writes_in t ws)) (field_misfit f (writes_in t ws))) ≡ misfit f (value_in t v)
  unfolding value_in
  struct_is is =
      ap (λ x. option_or (wrong_kind f (value_in t x)) (option_or (wrong_count f (writes_in t ws)) (field_misfit f (writes_in t ws)))) is
      ∙ sym (ap (λ x. misfit f (value_in t x)) is)

  pub list_inside : v ≡ stored.List ws → value_nesting (value_in t v) ≡ suc (writes_nesting (writes_in t ws))
  unfolding value_in
  list_inside is = ap (λ x. value_nesting (value_in t x)) is

  pub map_inside : v ≡ stored.Map ws → value_nesting (value_in t v) ≡ suc (writes_nesting (writes_in t ws))
  unfolding value_in
  map_inside is = ap (λ x. value_nesting (value_in t x)) is

  pub struct_inside : v ≡ stored.Struct ws → value_nesting (value_in t v) ≡ suc (writes_nesting (writes_in t ws))
  unfolding value_in
  struct_inside is = ap (λ x. value_nesting (value_in t x)) is

pub null_is : (f : Form) (t : Table) (v : ShapeValue) → v ≡ stored.Null → misfit f (value_in t v) ≡ None
unfolding value_in
null_is f t v is = ap (λ x. misfit f (value_in t x)) is

-- ---- scalars

-- a scalar's misfit, none of what is no scalar
abbrev pub scalar_wrong : Form → Value → Option Misfit
scalar_wrong f (scalar s) = wrong_scalar f s
scalar_wrong f v = None

pub scalar_is : (f : Form) (t : Table) (v : ShapeValue) → v ≢ stored.Null → ((ws : WriteList) → v ≢ stored.List ws) → ((ws : WriteList) → v ≢ stored.Map ws)
    → ((ws : WriteList) → v ≢ stored.Struct ws) → option_or (wrong_kind f (value_in t v)) (scalar_wrong f (value_in t v)) ≡ misfit f (value_in t v)
unfolding value_in
scalar_is f t (stored.List ws) n l m s = absurd (l ws refl)
scalar_is f t (stored.Map ws) n l m s = absurd (m ws refl)
scalar_is f t (stored.Struct ws) n l m s = absurd (s ws refl)
scalar_is f t stored.Null n l m s = absurd (n refl)
scalar_is f t (stored.Boolean x) n l m s = refl
scalar_is f t (stored.Byte x) n l m s = refl
scalar_is f t (stored.Short x) n l m s = refl
scalar_is f t (stored.Integer x) n l m s = refl
scalar_is f t (stored.Long x) n l m s = refl
scalar_is f t (stored.BigInteger x) n l m s = refl
scalar_is f t (stored.BigDecimal x) n l m s = refl
scalar_is f t (stored.String x) n l m s = refl
scalar_is f t (stored.Blob x) n l m s = refl
scalar_is f t (stored.Timestamp x) n l m s = refl
scalar_is f t (stored.Document x) n l m s = refl

pub scalar_text : (f : Form) (t : Table) (v : ShapeValue) (r : Result (Unit {0}) Refused) → ((ws : WriteList) → v ≢ stored.List ws) → ((ws : WriteList) → v ≢ stored.Map ws)
    → ((ws : WriteList) → v ≢ stored.Struct ws) → FindsText f (value_in t v) r → Finds (scalar_wrong f (value_in t v)) r
unfolding value_in
scalar_text f t (stored.List ws) r l m s h = absurd (l ws refl)
scalar_text f t (stored.Map ws) r l m s h = absurd (m ws refl)
scalar_text f t (stored.Struct ws) r l m s h = absurd (s ws refl)
scalar_text f t stored.Null r l m s h = h
scalar_text f t (stored.Boolean x) r l m s h = h
scalar_text f t (stored.Byte x) r l m s h = h
scalar_text f t (stored.Short x) r l m s h = h
scalar_text f t (stored.Integer x) r l m s h = h
scalar_text f t (stored.Long x) r l m s h = h
scalar_text f t (stored.BigInteger x) r l m s h = h
scalar_text f t (stored.BigDecimal x) r l m s h = h
scalar_text f t (stored.String x) r l m s h = h
scalar_text f t (stored.Blob x) r l m s h = h
scalar_text f t (stored.Timestamp x) r l m s h = h
scalar_text f t (stored.Document x) r l m s h = h

-- ---- what is left of a list of writes

-- what is left finds what all finds, and is nested no deeper
pub record Left (found all : Option Misfit) (here top : ℕ) : Type 0 where
  pub same : found ≡ all
  pub below : here ≤ top

pub all_left : (found all : Option Misfit) (here top : ℕ) → found ≡ all → here ≡ top → Left found all here top
all_left found all here top same depth = record { same = same; below = omega (arith, depth) }

-- a part further
module _ (t : Table) (left more : List OneWrite) (w : OneWrite) (first : left ≡ w ∷ more) where
  pub item_here : (f : Form) (i : ℕ) (all : Option Misfit) → item_misfit f i (listed t left) ≡ all
      → option_or (behind (item_step i) (misfit f (value_in t w.value))) (item_misfit f (i + 1) (listed t more)) ≡ all
  item_here f i all h =
      let next : i + 1 ≡ suc i = omega arith in
      ap (λ k. option_or (behind (item_step i) (misfit f (value_in t w.value))) (item_misfit f k (listed t more))) next
      ∙ sym (ap (λ ws. item_misfit f i (listed t ws)) first) ∙ h

  pub field_here : (f : Form) (all : Option Misfit) → field_misfit f (listed t left) ≡ all
      → option_or (in_field f (told_name (label_at t w.node.0)) (misfit (part_form f (told_name (label_at t w.node.0))) (value_in t w.value))) (field_misfit f (listed t more)) ≡ all
  field_here f all h = sym (ap (λ ws. field_misfit f (listed t ws)) first) ∙ h

  pub entry_here : (f : Form) (all : Option Misfit) → entry_misfit f (listed t left) ≡ all → value_misfit f (text_of_key (value_in t w.value)) (listed t more) ≡ all
  entry_here f all h = sym (ap (λ ws. entry_misfit f (listed t ws)) first) ∙ h

  pub value_here : (f : Form) (key : List ℕ) (all : Option Misfit) → value_misfit f key (listed t left) ≡ all
      → option_or (behind (part_step f key) (misfit (part_form f key) (value_in t w.value))) (entry_misfit f (listed t more)) ≡ all
  value_here f key all h = sym (ap (λ ws. value_misfit f key (listed t ws)) first) ∙ h

  pub part_below : (top : ℕ) → writes_nesting (listed t left) ≤ top → value_nesting (value_in t w.value) ≤ top
  part_below top h = let depths = ap (λ ws. writes_nesting (listed t ws)) first in omega (arith, depths, h)

  pub rest_below : (top : ℕ) → writes_nesting (listed t left) ≤ top → writes_nesting (listed t more) ≤ top
  rest_below top h = let depths = ap (λ ws. writes_nesting (listed t ws)) first in omega (arith, depths, h)

-- nothing further
pub no_item : (t : Table) (left : List OneWrite) (f : Form) (i : ℕ) (all : Option Misfit) → left ≡ [] → item_misfit f i (listed t left) ≡ all → all ≡ None
no_item t left f i all none h = sym h ∙ ap (λ ws. item_misfit f i (listed t ws)) none

pub no_field : (t : Table) (left : List OneWrite) (f : Form) (all : Option Misfit) → left ≡ [] → field_misfit f (listed t left) ≡ all → all ≡ None
no_field t left f all none h = sym h ∙ ap (λ ws. field_misfit f (listed t ws)) none

pub no_entry : (t : Table) (left : List OneWrite) (f : Form) (all : Option Misfit) → left ≡ [] → entry_misfit f (listed t left) ≡ all → all ≡ None
no_entry t left f all none h = sym h ∙ ap (λ ws. entry_misfit f (listed t ws)) none

pub no_value : (t : Table) (left : List OneWrite) (f : Form) (key : List ℕ) (all : Option Misfit) → left ≡ [] → value_misfit f key (listed t left) ≡ all
    → entry_misfit f (listed t left) ≡ all
no_value t left f key all none h = ap (λ ws. entry_misfit f (listed t ws)) none ∙ sym (ap (λ ws. value_misfit f key (listed t ws)) none) ∙ h

-- ---- the items of a list by their positions

-- the write at a position, by its value
pub write_there : (xs : List OneWrite) (i : ℕ) (v : ShapeValue) → Some v ≡ option_map (λ w. w.value) (slice_get xs i) → (w : OneWrite) × ((slice_get xs i ≡ Some w) × (w.value ≡ v))
write_there xs i v h = go (slice_get xs i) refl h
  where
    go : (o : Option OneWrite) → slice_get xs i ≡ o → Some v ≡ option_map (λ w. w.value) o → (w : OneWrite) × ((slice_get xs i ≡ Some w) × (w.value ≡ v))
    go (Some w) same is = (w, (same, ap (λ o. option_map_or (λ (x : ShapeValue). x) o v) (sym is)))
    go None same is = absurd (cc is)

-- each position before the end has one
pub no_write : (xs : List OneWrite) (i : ℕ) → i < length xs → None ≡ option_map (λ w. w.value) (slice_get xs i) → ⊥
no_write [] i within h = omega (arith, within)
no_write (x ∷ xs) zero within h = cc h
no_write (x ∷ xs) (suc i) within h = no_write xs i (omega (arith, within)) h

module _ (t : Table) (ws : WriteList) (n : ℕ) (size : n ≡ length (list_of (writes_in t ws))) where
  pub within_writes : (i : ℕ) → i < n → i < length (kept_writes ws)
  within_writes i h = let same : n ≡ length (kept_writes ws) = size ∙ ap (λ x. length (list_of x)) (writes_listed t ws) ∙ length-listed t (kept_writes ws) in omega (arith, h, same)

  pub past_writes : (i : ℕ) → n ≤ i → length (kept_writes ws) ≤ i
  past_writes i h = let same : n ≡ length (kept_writes ws) = size ∙ ap (λ x. length (list_of x)) (writes_listed t ws) ∙ length-listed t (kept_writes ws) in omega (arith, h, same)

pub items_begin : (t : Table) (f : Form) (ws : WriteList) → item_misfit f 0 (listed t (kept_writes ws)) ≡ item_misfit f 0 (writes_in t ws)
items_begin t f ws = ap (item_misfit f 0) (sym (writes_listed t ws))

pub listed_below : (t : Table) (xs : List OneWrite) (i : ℕ) (w : OneWrite) → slice_get xs i ≡ Some w → value_nesting (value_in t w.value) ≤ writes_nesting (listed t xs)
listed_below t [] i w h = absurd (cc h)
listed_below t (x ∷ xs) zero w h = let same = ap (λ o. option_map_or (λ (y : OneWrite). value_nesting (value_in t y.value)) o 0) h in omega (arith, same)
listed_below t (x ∷ xs) (suc i) w h = let more = listed_below t xs i w h in omega (arith, more)

pub item_below : (t : Table) (ws : WriteList) (i : ℕ) (v : ShapeValue) → Some v ≡ option_map (λ w. w.value) (slice_get (kept_writes ws) i) → value_nesting (value_in t v) ≤ writes_nesting (writes_in t ws)
item_below t ws i v h =
    let there = write_there (kept_writes ws) i v h in
    let inside = listed_below t (kept_writes ws) i there.0 there.1.0 in
    let same = ap (λ x. value_nesting (value_in t x)) there.1.1 in
    let all = ap writes_nesting (writes_listed t ws) in
    omega (arith, inside, same, all)

-- the items from a position on: the one there, and those behind it
pub item_at : (t : Table) (f : Form) (ws : WriteList) (i : ℕ) (v : ShapeValue) (all : Option Misfit) → Some v ≡ option_map (λ w. w.value) (slice_get (kept_writes ws) i)
    → item_misfit f i (listed t (drop i (kept_writes ws))) ≡ all
    → option_or (behind (item_step i) (misfit f (value_in t v))) (item_misfit f (i + 1) (listed t (drop (i + 1) (kept_writes ws)))) ≡ all
item_at t f ws i v all h left =
    let there = write_there (kept_writes ws) i v h in
    ap (λ x. option_or (behind (item_step i) (misfit f (value_in t x))) (item_misfit f (i + 1) (listed t (drop (i + 1) (kept_writes ws))))) (sym there.1.1)
    ∙ item_here t _ _ there.0 (drop_first (kept_writes ws) i there.0 there.1.0) f i all left

pub items_end : (t : Table) (f : Form) (ws : WriteList) (i : ℕ) (all : Option Misfit) → length (kept_writes ws) ≤ i → item_misfit f i (listed t (drop i (kept_writes ws))) ≡ all → all ≡ None
items_end t f ws i all past h = no_item t _ f i all (drop_of_length-le (kept_writes ws) past) h

-- ---- what is told

told_of : (found : Option Misfit) (r : Result (Unit {0}) SerdeError) → TellsFound found r → TellsMisfit (option_map misfit_told found) r
told_of found (Ok u) h = ap (λ o. option_map misfit_told o) h
told_of found (Err e) h = h

pub body_told : (schema : Schema) (ws : Writes) (r : Result (Unit {0}) SerdeError) → TellsFound (body_misfit schema ws) r → TellsMisfit (body_misfit_told schema ws) r
unfolding body_misfit_told
body_told schema ws r h = told_of (body_misfit schema ws) r h

pub whole_told : (schema : Schema) (ws : Writes) (r : Result (Unit {0}) SerdeError) → TellsFound (whole_misfit schema ws) r → TellsMisfit (whole_misfit_told schema ws) r
unfolding whole_misfit_told
whole_told schema ws r h = told_of (whole_misfit schema ws) r h
