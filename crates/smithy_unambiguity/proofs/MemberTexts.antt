-- The texts of a header or query member tell its value as the normal form has it.
use Rattle.smithy_unambiguity.proofs.Common.{◌≡◌, refl, sym, ◌∙◌, ap, ℕ, Bool, true, false, ◌||◌, List, [], ◌∷◌, Option, Some, None, option_map, option_and_then, is_some, list_all, option_map_or, and_parts, and_from, each, ShapeType, same_kind, is_scalar, one_kind, Schema, element_of, binding_of, Value, Writes, Write, list_of, is_in_range, are_writes_in_range, fits, settled_elements, Header, listed, kind_or_none, texts, header_texts, place_at, member_text, element_text, is_header_kind, has_element, same_format, item_fault, element_fault, has_own_formats, with_own_elements}
use Rattle.smithy_ids.specs.declared.shape_type.ShapeType.TheVariants as kind
use Rattle.smithy_serde.specs.Values as value
use Rattle.smithy_unambiguity.proofs.Fits.{is_flat}
use Rattle.smithy_unambiguity.proofs.Headers.{header_values}
use Rattle.smithy_unambiguity.proofs.HeaderTexts.{lists_told}
use Rattle.smithy_unambiguity.proofs.Values.{wire-injective, AreItems, items_fit, HaveFormat, have_format, is_flat_value, flat_value, flat_texts, flat_header, elements_told}

-- What is asked of a bound value: in range, of the member's kind, its parts of their kinds, in the element node's format.
pub record IsBoundValue (m : Schema) (v : Value) : Type 0 where
  pub fits : fits m.node.kind v ≡ true
  pub in_range : is_in_range v ≡ true
  pub items : item_fault m v ≡ None
  pub formats : has_own_formats m v ≡ true

-- the one text of a flat value
abbrev own_text : Schema → Value → Option (List ℕ)
own_text m v = member_text (place_at (binding_of m)) m v

flat_told : (m : Schema) (v w : Value) (t : List ℕ) → is_flat m.node.kind ≡ true → IsBoundValue m v → IsBoundValue m w → own_text m v ≡ Some t → own_text m w ≡ Some t → v ≡ w
flat_told m v w t flat is_v is_w p q =
    wire-injective m.node.traits.timestamp_format (is_some m.node.traits.media_type) (place_at (binding_of m)) m.node.kind v w t flat
    (and_from (is_in_range v) (fits m.node.kind v) is_v.in_range is_v.fits) (and_from (is_in_range w) (fits m.node.kind w) is_w.in_range is_w.fits) p q

one_text : (m : Schema) (v : Value) (t : List ℕ) → is_flat_value v ≡ true → option_map_or (λ (ts : List (List ℕ)). ts) (texts m v) [] ≡ t ∷ [] → own_text m v ≡ Some t
one_text m v t flat e = go (own_text m v) (ap (λ (o : Option (List (List ℕ))). option_map_or (λ (ts : List (List ℕ)). ts) o []) (sym (flat_texts m v flat)) ∙ e)
  where
    go : (o : Option (List ℕ)) → option_map_or (λ (ts : List (List ℕ)). ts) (option_map (λ t. t ∷ []) o) [] ≡ t ∷ [] → o ≡ Some t
    go None h = absurd (cc h)
    go (Some x) h = let same : x ≡ t = cc h in ap Some same

pub one_header : (m : Schema) (v : Value) (t : List ℕ) → is_flat_value v ≡ true → header_values m v ≡ t ∷ [] → own_text m v ≡ Some t
one_header m v t flat e = one_text m v t flat (go (texts m v) ∙ e)
  where
    go : (o : Option (List (List ℕ))) → option_map_or (λ (ts : List (List ℕ)). ts) o [] ≡ option_map_or (header_texts m v) o []
    go None = refl
    go (Some ts) = sym (flat_header m v ts flat)

pub list_form : (v : Value) → fits kind.List v ≡ true → (ws : Writes) × (v ≡ value.list ws)
list_form (value.list ws) e = (ws, refl)
list_form (value.scalar (value.whole value.byte z)) e = absurd (cc e)
list_form (value.scalar (value.whole value.short z)) e = absurd (cc e)
list_form (value.scalar (value.whole value.integer z)) e = absurd (cc e)
list_form (value.scalar (value.whole value.long z)) e = absurd (cc e)
list_form _ e = absurd (cc e)

-- a list member: its element node, and the test that its kind passes
pub record IsListOf (test : ShapeType → Bool) (m : Schema) : Type 0 where
  pub element : Schema
  pub is : element_of m ≡ Some element
  pub passes : test element.node.kind ≡ true
  pub kind : m.node.kind ≡ kind.List

pub list_of_element : (test : ShapeType → Bool) (m : Schema) → has_element test m ≡ true → IsListOf test m
list_of_element test m e = go (element_of m) refl parts.1
  where
    parts : (same_kind m.node.kind kind.List ≡ true) × (option_map_or (λ (e : Schema). test e.node.kind) (element_of m) false ≡ true)
    parts = and_parts (same_kind m.node.kind kind.List) (option_map_or (λ (e : Schema). test e.node.kind) (element_of m) false) e

    is_list : m.node.kind ≡ kind.List
    is_list = one_kind m.node.kind kind.List parts.0

    go : (o : Option Schema) → element_of m ≡ o → option_map_or (λ (e : Schema). test e.node.kind) o false ≡ true → IsListOf test m
    go None is h = absurd (cc h)
    go (Some s) is h = record { element = s; is = is; passes = h; kind = is_list }

-- a bound list: its elements, in the element node's kind and format
pub record IsBoundList (m e : Schema) (v : Value) : Type 0 where
  pub ws : Writes
  pub is : v ≡ value.list ws
  pub items : AreItems e.node.kind ws
  pub formats : HaveFormat e.node.traits.timestamp_format ws

pub bound_list : (test : ShapeType → Bool) (m : Schema) (l : IsListOf test m) (v : Value) → IsBoundValue m v → IsBoundList m l.element v
bound_list test m l v is_v =
    let x = list_form v (ap (λ k. fits k v) (sym l.kind) ∙ is_v.fits) in
    let range : are_writes_in_range x.0 ≡ true = ap is_in_range (sym x.1) ∙ is_v.in_range in
    let fault : element_fault m l.element.node.kind x.0 ≡ None = ap (λ (o : Option Schema). element_fault m (kind_or_none o) x.0) (sym l.is) ∙ ap (item_fault m) (sym x.1) ∙ is_v.items in
    let own : list_all (λ (w : Write). same_format w.label.time_format l.element.node.traits.timestamp_format) (list_of x.0) ≡ true =
    ap (λ (o : Option Schema). list_all (λ (w : Write). same_format w.label.time_format (option_and_then (λ (s : Schema). s.node.traits.timestamp_format) o)) (list_of x.0)) (sym l.is) ∙ ap (has_own_formats m) (sym x.1) ∙ is_v.formats in
    record { ws = x.0; is = x.1; items = items_fit m l.element.node.kind x.0 fault range; formats = have_format l.element.node.traits.timestamp_format x.0 own }

-- the texts of a header list, and the header that they are
pub record IsListed (m e : Schema) (ws : Writes) (t : List ℕ) : Type 0 where
  pub ts : List (List ℕ)
  pub texts : each (element_text (place_at (binding_of m))) (list_of ws) ≡ Some ts
  pub is : listed e.node.kind ts ≡ t

pub listed_of : (m e : Schema) (ws : Writes) (t : List ℕ) → element_of m ≡ Some e → header_values m (value.list ws) ≡ t ∷ [] → IsListed m e ws t
listed_of m e ws t is h = go (each (element_text (place_at (binding_of m))) (list_of ws)) refl h
  where
    go : (o : Option (List (List ℕ))) → each (element_text (place_at (binding_of m))) (list_of ws) ≡ o → option_map_or (λ (ts : List (List ℕ)). listed (kind_or_none (element_of m)) ts ∷ []) o [] ≡ t ∷ [] → IsListed m e ws t
    go None p q = absurd (cc q)
    go (Some ts) p q =
        let same : listed (kind_or_none (element_of m)) ts ≡ t = cc q in
        record { ts = ts; texts = p; is = ap (λ (o : Option Schema). listed (kind_or_none o) ts) (sym is) ∙ same }

-- a header's text tells its value
pub header_told : (m : Schema) (v w : Value) (t : List ℕ) → (is_flat m.node.kind || has_element is_header_kind m) ≡ true → place_at (binding_of m) ≡ Header → IsBoundValue m v → IsBoundValue m w
    → header_values m v ≡ t ∷ [] → header_values m w ≡ t ∷ [] → with_own_elements m v ≡ with_own_elements m w
header_told m v w t kinds here is_v is_w p q = go (is_flat m.node.kind) refl kinds
  where
    go : (b : Bool) → is_flat m.node.kind ≡ b → (b || has_element is_header_kind m) ≡ true → with_own_elements m v ≡ with_own_elements m w
    go true flat h =
        let flat_v = flat_value m.node.kind v flat is_v.fits in
        let flat_w = flat_value m.node.kind w flat is_w.fits in
        ap (λ u. with_own_elements m u) (flat_told m v w t flat is_v is_w (one_header m v t flat_v p) (one_header m w t flat_w q))
    go false flat h =
        let l = list_of_element is_header_kind m h in
        let a = bound_list is_header_kind m l v is_v in
        let b = bound_list is_header_kind m l w is_w in
        let x = listed_of m l.element a.ws t l.is (ap (header_values m) (sym a.is) ∙ p) in
        let y = listed_of m l.element b.ws t l.is (ap (header_values m) (sym b.is) ∙ q) in
        ap (λ u. with_own_elements m u) a.is
        ∙ ap (λ (o : Option Schema). value.list (settled_elements o a.ws)) l.is
        ∙ ap value.list (lists_told l.element l.element.node.traits.timestamp_format a.ws b.ws x.ts y.ts l.passes a.items b.items a.formats b.formats
        (ap (λ place. each (element_text place) (list_of a.ws)) (sym here) ∙ x.texts) (ap (λ place. each (element_text place) (list_of b.ws)) (sym here) ∙ y.texts) (x.is ∙ sym y.is))
        ∙ ap (λ (o : Option Schema). value.list (settled_elements o b.ws)) (sym l.is)
        ∙ ap (λ u. with_own_elements m u) (sym b.is)

-- the texts of a query member tell its value
pub query_told : (m : Schema) (v w : Value) (ts : List (List ℕ)) → is_flat m.node.kind ≡ true → IsBoundValue m v → IsBoundValue m w → texts m v ≡ Some ts → texts m w ≡ Some ts → v ≡ w
query_told m v w ts flat is_v is_w p q =
    let flat_v = flat_value m.node.kind v flat is_v.fits in
    let flat_w = flat_value m.node.kind w flat is_w.fits in
    go (own_text m v) (own_text m w) refl refl (sym (flat_texts m v flat_v) ∙ p) (sym (flat_texts m w flat_w) ∙ q)
  where
    go : (a b : Option (List ℕ)) → own_text m v ≡ a → own_text m w ≡ b → option_map (λ (t : List ℕ). t ∷ []) a ≡ Some ts → option_map (λ (t : List ℕ). t ∷ []) b ≡ Some ts → v ≡ w
    go (Some s) (Some t) x y e f = let both : s ≡ t = cc (e, f) in flat_told m v w s flat is_v is_w x (y ∙ ap Some (sym both))
    go None b x y e f = absurd (cc e)
    go (Some s) None x y e f = absurd (cc f)

pub query_list_told : (m : Schema) (v w : Value) (ts : List (List ℕ)) → has_element is_scalar m ≡ true → IsBoundValue m v → IsBoundValue m w → texts m v ≡ Some ts → texts m w ≡ Some ts
    → with_own_elements m v ≡ with_own_elements m w
query_list_told m v w ts has is_v is_w p q =
    let l = list_of_element is_scalar m has in
    let a = bound_list is_scalar m l v is_v in
    let b = bound_list is_scalar m l w is_w in
    let flat : is_flat l.element.node.kind ≡ true = ap (λ t. t || same_kind l.element.node.kind kind.Blob) l.passes in
    ap (with_own_elements m) a.is
    ∙ ap (λ (o : Option Schema). value.list (settled_elements o a.ws)) l.is
    ∙ ap value.list (elements_told l.element.node.kind l.element.node.traits.timestamp_format l.element (place_at (binding_of m)) a.ws b.ws ts flat a.items b.items a.formats b.formats (ap (texts m) (sym a.is) ∙ p) (ap (texts m) (sym b.is) ∙ q))
    ∙ ap (λ (o : Option Schema). value.list (settled_elements o b.ws)) (sym l.is)
    ∙ ap (with_own_elements m) (sym b.is)
