-- Values of flat kinds: each is a scalar or bytes, and its texts are bytes.
use Rattle.smithy_unambiguity.proofs.Common.{◌≡◌, refl, sym, ◌∙◌, ap, ℕ, Bool, true, false, List, [], ◌∷◌, Option, Some, None, option_map, option_and_then, list_all, option_or, and_parts, and_from, each, unless, ShapeType, TimestampFormat, one_format, Schema, binding_of, Value, Writes, no_writes, write, Write, list_of, label_of, is_in_range, are_writes_in_range, fits, fits_in_range, scalar_kind, settled, settled_elements, Place, wire, texts, header_texts, place_at, member_text, element_text, element_fault, wrong_item_kind, same_format, with_own_elements}
use Rattle.smithy_ids.specs.declared.shape_type.ShapeType.TheVariants as kind
use Rattle.smithy_serde.specs.Values as value
use Rattle.smithy_strings.specs.Unwired.{unwired}
use Rattle.smithy_strings.proofs.UnwireLaws.{unwire_is_exact}
use Rattle.smithy_unambiguity.proofs.Fits.{is_flat, taken}

-- a value of a flat kind is read back from its text
pub wire_back : (format : Option TimestampFormat) (media : Bool) (place : Place) (k : ShapeType) (v : Value) (t : List ℕ) → is_flat k ≡ true → fits_in_range k v ≡ true → wire format media place v ≡ Some t
    → option_map (λ x. value.scalar x) (unwired format media place k t) ≡ Some v
wire_back format media place k (value.scalar x) t flat fit e =
    let parts = and_parts (is_in_range (value.scalar x)) (fits k (value.scalar x)) fit in
    ap (option_map (λ x. value.scalar x)) ((unwire_is_exact format media place k t).reads_back x parts.0 (taken k (scalar_kind x) flat parts.1) e)
wire_back format media place k _ t flat fit e = absurd (cc e)

-- so two values of one flat kind that have one text are one
pub wire-injective : (format : Option TimestampFormat) (media : Bool) (place : Place) (k : ShapeType) (v w : Value) (t : List ℕ) → is_flat k ≡ true → fits_in_range k v ≡ true → fits_in_range k w ≡ true
    → wire format media place v ≡ Some t → wire format media place w ≡ Some t → v ≡ w
wire-injective format media place k v w t flat fit_v fit_w p q = let both = sym (wire_back format media place k v t flat fit_v p) ∙ wire_back format media place k w t flat fit_w q in cc both

-- each element of a list fits the element node, and is in range
abbrev pub AreItems : ShapeType → Writes → Type 0
AreItems k no_writes = Unit {0}
AreItems k (write l v ws) = (fits_in_range k v ≡ true) × AreItems k ws

pub items_fit : (m : Schema) (k : ShapeType) (ws : Writes) → element_fault m k ws ≡ None → are_writes_in_range ws ≡ true → AreItems k ws
items_fit m k no_writes e range = tt
items_fit m k (write l v ws) e range =
    let ranges = and_parts (is_in_range v) (are_writes_in_range ws) range in
    let parts = go (fits k v) refl e in
    (and_from (is_in_range v) (fits k v) ranges.0 parts.0, items_fit m k ws parts.1 ranges.1)
  where
    go : (t : Bool) → fits k v ≡ t → option_or (unless t (wrong_item_kind m k v)) (element_fault m k ws) ≡ None → (fits k v ≡ true) × (element_fault m k ws ≡ None)
    go true is h = (is, h)
    go false is h = absurd (cc h)

-- the elements are written with this format
abbrev pub HaveFormat : Option TimestampFormat → Writes → Type 0
HaveFormat f no_writes = Unit {0}
HaveFormat f (write l v ws) = (l.time_format ≡ f) × HaveFormat f ws

pub one_format_or_none : (f g : Option TimestampFormat) → same_format f g ≡ true → f ≡ g
one_format_or_none None None e = refl
one_format_or_none (Some f) (Some g) e = ap Some (one_format f g e)
one_format_or_none (Some f) None e = absurd (cc e)
one_format_or_none None (Some g) e = absurd (cc e)

pub have_format : (f : Option TimestampFormat) (ws : Writes) → list_all (λ (w : Write). same_format w.label.time_format f) (list_of ws) ≡ true → HaveFormat f ws
have_format f no_writes e = tt
have_format f (write l v ws) e =
    let parts = and_parts (same_format l.time_format f) (list_all (λ (w : Write). same_format w.label.time_format f) (list_of ws)) e in
    (one_format_or_none l.time_format f parts.0, have_format f ws parts.1)

-- a scalar or bytes
abbrev pub is_flat_value : Value → Bool
is_flat_value (value.scalar (value.document d)) = false
is_flat_value (value.scalar value.null) = false
is_flat_value (value.list ws) = false
is_flat_value (value.map ws) = false
is_flat_value (value.structure ws) = false
is_flat_value _ = true

pub flat_value : (k : ShapeType) (v : Value) → is_flat k ≡ true → fits k v ≡ true → is_flat_value v ≡ true
flat_value k (value.scalar (value.document d)) flat fit = let q = taken k (Some kind.Document) flat fit in let same : kind.Document ≡ k = cc q in let z : false ≡ true = ap is_flat same ∙ flat in absurd (cc z)
flat_value k (value.scalar value.null) flat fit = absurd (cc fit)
flat_value k (value.list ws) flat fit = let q = taken k (Some kind.List) flat fit in let same : kind.List ≡ k = cc q in let z : false ≡ true = ap is_flat same ∙ flat in absurd (cc z)
flat_value k (value.map ws) flat fit = let q = taken k (Some kind.Map) flat fit in let same : kind.Map ≡ k = cc q in let z : false ≡ true = ap is_flat same ∙ flat in absurd (cc z)
flat_value k (value.structure ws) flat fit = let q = taken k (Some kind.Structure) flat fit in let same : kind.Structure ≡ k = cc q in let z : false ≡ true = ap is_flat same ∙ flat in absurd (cc z)
flat_value k _ flat fit = refl

-- it has one text where it is bound, and is its own normal form
pub flat_texts : (m : Schema) (v : Value) → is_flat_value v ≡ true → texts m v ≡ option_map (λ t. t ∷ []) (member_text (place_at (binding_of m)) m v)
flat_texts m (value.list ws) e = absurd (cc e)
flat_texts m (value.map ws) e = absurd (cc e)
flat_texts m _ e = refl

pub flat_header : (m : Schema) (v : Value) (ts : List (List ℕ)) → is_flat_value v ≡ true → header_texts m v ts ≡ ts
flat_header m (value.list ws) ts e = absurd (cc e)
flat_header m _ ts e = refl

pub flat_own : (m : Schema) (v : Value) → is_flat_value v ≡ true → with_own_elements m v ≡ v
flat_own m (value.list ws) e = absurd (cc e)
flat_own m _ e = refl

pub flat_settled : (here : Option Schema) (v : Value) → is_flat_value v ≡ true → settled here v ≡ v
flat_settled here (value.list ws) e = absurd (cc e)
flat_settled here (value.map ws) e = absurd (cc e)
flat_settled here (value.structure ws) e = absurd (cc e)
flat_settled here (value.scalar value.null) e = absurd (cc e)
flat_settled here _ e = refl

-- the texts of elements, one by one
pub record IsEach (f : Write → Option (List ℕ)) (w : Write) (ws : List Write) (ts : List (List ℕ)) : Type 0 where
  pub text : List ℕ
  pub rest : List (List ℕ)
  pub first : f w ≡ Some text
  pub later : each f ws ≡ Some rest
  pub is : text ∷ rest ≡ ts

pub each_first : (f : Write → Option (List ℕ)) (w : Write) (ws : List Write) (ts : List (List ℕ)) → each f (w ∷ ws) ≡ Some ts → IsEach f w ws ts
each_first f w ws ts e = go (f w) (each f ws) refl refl e
  where
    go : (o : Option (List ℕ)) (p : Option (List (List ℕ))) → f w ≡ o → each f ws ≡ p → option_and_then (λ y. option_map (λ ys. y ∷ ys) p) o ≡ Some ts → IsEach f w ws ts
    go None p first later h = absurd (cc h)
    go (Some y) None first later h = absurd (cc h)
    go (Some y) (Some ys) first later h = let same : y ∷ ys ≡ ts = cc h in record { text = y; rest = ys; first = first; later = later; is = same }

-- elements of one flat kind and one format are told by their texts
pub elements_told : (k : ShapeType) (f : Option TimestampFormat) (e : Schema) (place : Place) (vs us : Writes) (ts : List (List ℕ)) → is_flat k ≡ true → AreItems k vs → AreItems k us → HaveFormat f vs → HaveFormat f us
    → each (element_text place) (list_of vs) ≡ Some ts → each (element_text place) (list_of us) ≡ Some ts → settled_elements (Some e) vs ≡ settled_elements (Some e) us
elements_told k f e place no_writes no_writes ts flat fit_v fit_u own_v own_u p q = refl
elements_told k f e place no_writes (write m u us) ts flat fit_v fit_u own_v own_u p q =
    let x = each_first (element_text place) (record { label = m; value = u }) (list_of us) ts q in let none : [] ≡ ts = cc p in let z = x.is ∙ sym none in absurd (cc z)
elements_told k f e place (write l v vs) no_writes ts flat fit_v fit_u own_v own_u p q =
    let x = each_first (element_text place) (record { label = l; value = v }) (list_of vs) ts p in let none : [] ≡ ts = cc q in let z = x.is ∙ sym none in absurd (cc z)
elements_told k f e place (write l v vs) (write m u us) ts flat fit_v fit_u own_v own_u p q =
    let x = each_first (element_text place) (record { label = l; value = v }) (list_of vs) ts p in
    let y = each_first (element_text place) (record { label = m; value = u }) (list_of us) ts q in
    let both = x.is ∙ sym y.is in
    let texts : x.text ≡ y.text = cc both in
    let rests : x.rest ≡ y.rest = cc both in
    let first_v : wire f false place v ≡ Some x.text = ap (λ g. wire g false place v) (sym own_v.0) ∙ x.first in
    let first_u : wire f false place u ≡ Some x.text = ap (λ g. wire g false place u) (sym own_u.0) ∙ y.first ∙ ap Some (sym texts) in
    let same = wire-injective f false place k v u x.text flat fit_v.0 fit_u.0 first_v first_u in
    let rest = elements_told k f e place vs us x.rest flat fit_v.1 fit_u.1 own_v.1 own_u.1 x.later (y.later ∙ ap Some (sym rests)) in
    λ i. write (label_of e) (settled (Some e) (same i)) (rest i)
