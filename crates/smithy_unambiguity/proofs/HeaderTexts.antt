-- A header's text tells the value as the normal form has it.
use Rattle.smithy_unambiguity.proofs.Common.{◌≡◌, ◌≢◌, refl, sym, ◌∙◌, ap, subst, ℕ, ◌^◌, Bool, true, false, List, [], ◌∷◌, map, Option, Some, option_map, option_and_then, IsUtf8, ℤ, AllByRecursion, is_utf8, and_parts, each, ShapeType, TimestampFormat, same_kind, one_kind, Schema, Value, Writes, no_writes, write, Write, list_of, is_in_range, is_signed_within, fits, settled_elements, Place, Header, wire, time_format, listed, IsTimeInRange, wire_utf8, element_text}
use Rattle.std.proofs.lemmas.Str.{IsUtf8-from_is_utf8}
use Rattle.smithy_types.specs.Timestamps.{timestamp_text}
use Rattle.smithy_types.specs.declared.date_time.Format.{Format}
use Rattle.smithy_http.specs.DateLists.{dates_of}
use Rattle.smithy_http.specs.HeaderValues.{tokens_of}
use Rattle.smithy_ids.specs.declared.shape_type.ShapeType.TheVariants as kind
use Rattle.smithy_serde.specs.Values as value
use Rattle.smithy_strings.proofs.ReadBack.{tokens-listed}
use Rattle.smithy_strings.proofs.TimeLists.{times_are_read}
use Rattle.smithy_unambiguity.proofs.Fits.{is_flat}
use Rattle.smithy_unambiguity.proofs.Values.{AreItems, HaveFormat, each_first, elements_told}

time_value : (v : Value) → fits kind.Timestamp v ≡ true → (z : ℤ) × (v ≡ value.scalar (value.timestamp z))
time_value (value.scalar (value.timestamp z)) e = (z, refl)
time_value (value.scalar (value.whole value.byte z)) e = absurd (cc e)
time_value (value.scalar (value.whole value.short z)) e = absurd (cc e)
time_value (value.scalar (value.whole value.integer z)) e = absurd (cc e)
time_value (value.scalar (value.whole value.long z)) e = absurd (cc e)
time_value _ e = absurd (cc e)

-- the times of a list, each with its text
pub record AreTimes (f : Format) (ws : Writes) (ts : List (List ℕ)) : Type 0 where
  pub seconds : List ℤ
  pub range : AllByRecursion IsTimeInRange seconds
  pub values : map (λ z. value.scalar (value.timestamp z)) seconds ≡ map (λ (w : Write). w.value) (list_of ws)
  pub texts : each (timestamp_text f) seconds ≡ Some ts

pub time_items : (f : Option TimestampFormat) (place : Place) (ws : Writes) (ts : List (List ℕ)) → AreItems kind.Timestamp ws → HaveFormat f ws → each (element_text place) (list_of ws) ≡ Some ts → AreTimes (time_format f place) ws ts
time_items f place no_writes ts fit own e = let same : [] ≡ ts = cc e in subst (AreTimes (time_format f place) no_writes) same (record { seconds = []; range = tt; values = refl; texts = refl })
time_items f place (write l v ws) ts fit own e =
    let x = each_first (element_text place) (record { label = l; value = v }) (list_of ws) ts e in
    let parts = and_parts (is_in_range v) (fits kind.Timestamp v) fit.0 in
    let z = time_value v parts.1 in
    let small : is_signed_within (2 ^ 63) z.0 ≡ true = ap is_in_range (sym z.1) ∙ parts.0 in
    let first : timestamp_text (time_format f place) z.0 ≡ Some x.text = ap (λ g. wire g false place (value.scalar (value.timestamp z.0))) (sym own.0) ∙ ap (λ u. wire l.time_format false place u) (sym z.1) ∙ x.first in
    let rest = time_items f place ws x.rest fit.1 own.1 x.later in
    subst (AreTimes (time_format f place) (write l v ws)) x.is (record {
      seconds = z.0 ∷ rest.seconds;
      range = (small, rest.range);
      values = λ i. sym z.1 i ∷ rest.values i;
      texts = λ i. option_and_then (λ y. option_map (λ ys. y ∷ ys) (rest.texts i)) (first i);
    })

-- lists of times are told by their header, which is read back as them
pub times_told : (f : Option TimestampFormat) (place : Place) (vs us : Writes) (ts others : List (List ℕ)) → AreItems kind.Timestamp vs → AreItems kind.Timestamp us → HaveFormat f vs → HaveFormat f us
    → each (element_text place) (list_of vs) ≡ Some ts → each (element_text place) (list_of us) ≡ Some others → listed kind.Timestamp ts ≡ listed kind.Timestamp others → ts ≡ others
times_told f place vs us ts others fit_v fit_u own_v own_u p q e =
    let format : Format = time_format f place in
    let a = time_items f place vs ts fit_v own_v p in
    let b = time_items f place us others fit_u own_u q in
    let read = sym (times_are_read format a.seconds ts a.range a.texts) ∙ ap (λ text. dates_of format (text ∷ [])) e ∙ times_are_read format b.seconds others b.range b.texts in
    let same : a.seconds ≡ b.seconds = cc read in
    let both = sym a.texts ∙ ap (each (timestamp_text format)) same ∙ b.texts in
    cc both

-- Lists of other elements.

pub all_utf8 : (ts : List (List ℕ)) → AllByRecursion (λ t. is_utf8 t ≡ true) ts → AllByRecursion IsUtf8 ts
all_utf8 [] all = tt
all_utf8 (t ∷ ts) all = (IsUtf8-from_is_utf8 t all.0, all_utf8 ts all.1)

-- equal header values are of equal lists
listed_tells : (element : ShapeType) (ts others : List (List ℕ)) → element ≢ kind.Timestamp → AllByRecursion (λ t. is_utf8 t ≡ true) ts → AllByRecursion (λ t. is_utf8 t ≡ true) others
    → listed element ts ≡ listed element others → ts ≡ others
listed_tells element ts others other utf8_t utf8_o e =
    let both = sym (tokens-listed element ts other (all_utf8 ts utf8_t)) ∙ ap (λ text. tokens_of (text ∷ [])) e ∙ tokens-listed element others other (all_utf8 others utf8_o) in cc both

pub items_utf8 : (k : ShapeType) (place : Place) (ws : Writes) (ts : List (List ℕ)) → AreItems k ws → each (element_text place) (list_of ws) ≡ Some ts → AllByRecursion (λ t. is_utf8 t ≡ true) ts
items_utf8 k place no_writes ts fit e = let same : [] ≡ ts = cc e in subst (AllByRecursion (λ t. is_utf8 t ≡ true)) same tt
items_utf8 k place (write l v ws) ts fit e =
    let x = each_first (element_text place) (record { label = l; value = v }) (list_of ws) ts e in
    subst (AllByRecursion (λ t. is_utf8 t ≡ true)) x.is (wire_utf8 l.time_format false place v x.text (and_parts (is_in_range v) (fits k v) fit.0).0 x.first, items_utf8 k place ws x.rest fit.1 x.later)

pub none_written : (place : Place) (ws : Writes) → each (element_text place) (list_of ws) ≡ Some [] → ws ≡ no_writes
none_written place no_writes e = refl
none_written place (write l v ws) e = let x = each_first (element_text place) (record { label = l; value = v }) (list_of ws) [] e in let z = x.is in absurd (cc z)

-- lists of a header are told, as the normal form has them
pub lists_told : (e : Schema) (f : Option TimestampFormat) (vs us : Writes) (ts others : List (List ℕ)) → is_flat e.node.kind ≡ true → AreItems e.node.kind vs → AreItems e.node.kind us → HaveFormat f vs → HaveFormat f us
    → each (element_text Header) (list_of vs) ≡ Some ts → each (element_text Header) (list_of us) ≡ Some others → listed e.node.kind ts ≡ listed e.node.kind others
    → settled_elements (Some e) vs ≡ settled_elements (Some e) us
lists_told e f vs us ts others flat fit_v fit_u own_v own_u p q same =
    elements_told e.node.kind f e Header vs us ts flat fit_v fit_u own_v own_u p (q ∙ ap Some (sym (go (same_kind e.node.kind kind.Timestamp) refl)))
  where
    go : (t : Bool) → same_kind e.node.kind kind.Timestamp ≡ t → ts ≡ others
    go true is =
        let times = one_kind e.node.kind kind.Timestamp is in
        times_told f Header vs us ts others (subst (λ k. AreItems k vs) times fit_v) (subst (λ k. AreItems k us) times fit_u) own_v own_u p q
        (ap (λ k. listed k ts) (sym times) ∙ same ∙ ap (λ k. listed k others) times)
    go false is = listed_tells e.node.kind ts others other (items_utf8 e.node.kind Header vs ts fit_v p) (items_utf8 e.node.kind Header us others fit_u q) same
      where
        other : e.node.kind ≢ kind.Timestamp
        other h = let z : true ≡ false = ap (λ k. same_kind k kind.Timestamp) (sym h) ∙ is in cc z
