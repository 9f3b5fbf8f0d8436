-- A header is read as the list that its text was written of.
use Rattle.smithy_served.proofs.Common.{is_element_plain, tokens_of, HttpError, header_format, or_parse_refusal, scalar_of_element, elements, read_scalar, all_read, list_by, value_by_kind, value_within, write_by, value_read, SerdeError, tokens-listed, times_are_read, listed, spelled_wire, Bool, Header, Held, List, Ok, Option, Result, Scalar, Schema, ShapeType, Some, TimestampFormat, Value, Write, Writes, [], and_parts, ap, each, element_of, element_text, false, if◌then◌else◌, is_none, list_of, map, no_writes, not, one_kind, option_map, option_map_or, refl, same_format, same_kind, settled_elements, subst, sym, texts, then_give, then_try, true, unwrap_or, wire, write, writes_of, ℕ, ℤ, ◌&&◌, ◌||◌, ◌∙◌, ◌∷◌, ◌≡◌, ◌≢◌, is_flat, AreItems, HaveFormat, each_first, one_format_or_none, fits_in_range}
use Rattle.smithy_types.specs.declared.date_time.Format.TheVariants.{HttpDate}
use Rattle.smithy_ids.specs.declared.shape_type.ShapeType.TheVariants as kind
use Rattle.smithy_http.specs.DateLists.{dates_of}
use Rattle.smithy_schema.specs.Formats.{format_of}
use Rattle.smithy_serde.specs.Held as held
use Rattle.smithy_serde.specs.Values as value
use Rattle.smithy_unambiguity.proofs.HeaderTexts.{items_utf8, time_items, all_utf8}
use Rattle.smithy_recovery.proofs.TextsBack.{values_in, own_elements}
use Rattle.smithy_served.proofs.Scalars.{header_text, item_read, read_flat}

-- the reading of one item
abbrev item_write : Schema → Held → Result Write SerdeError
item_write e h = then_give (value_within 1 e h) (write_by e)

-- Elements that are texts.

item_spelled : (k : ShapeType) (f : Option TimestampFormat) (t : List ℕ) (x : Scalar) → is_flat k ≡ true → same_kind k kind.Timestamp ≡ false → spelled_wire f false Header k t ≡ Some x → scalar_of_element k t ≡ Ok x
item_spelled kind.Timestamp f t x flat other e = absurd (cc other)
item_spelled kind.Document f t x flat other e = absurd (cc flat)
item_spelled k f t x flat other e = item_read k t x e

element_read : (e : Schema) (t : List ℕ) (v : Value) → is_flat e.node.kind ≡ true → same_kind e.node.kind kind.Timestamp ≡ false → fits_in_range e.node.kind v ≡ true → wire e.node.traits.timestamp_format false Header v ≡ Some t
    → item_write e (held.element t) ≡ Ok (write_by e v)
unfolding read_scalar
element_read e t v flat other fit text =
    let is = header_text e.node.traits.timestamp_format false e.node.kind v t flat fit text in
    ap (λ (r : Result Value SerdeError). then_give r (write_by e)) (read_flat (value_within 0) e.node.kind e (held.element t) flat
    ∙ ap (λ (r : Result Scalar SerdeError). then_give r (λ y. value.scalar y)) (item_spelled e.node.kind e.node.traits.timestamp_format t is.scalar flat other is.spelled))
    ∙ ap (λ u. Ok (write_by e u)) (sym is.is)

elements_read : (e : Schema) (ws : Writes) (ts : List (List ℕ)) → is_flat e.node.kind ≡ true → same_kind e.node.kind kind.Timestamp ≡ false → AreItems e.node.kind ws → HaveFormat e.node.traits.timestamp_format ws
    → each (element_text Header) (list_of ws) ≡ Some ts → all_read (item_write e) (map (λ t. held.element t) ts) ≡ Ok (map (write_by e) (values_in ws))
elements_read e no_writes ts flat other fit own h = let none : [] ≡ ts = cc h in ap (λ us. all_read (item_write e) (map (λ t. held.element t) us)) (sym none)
elements_read e (write l v ws) ts flat other fit own h =
    let x = each_first (element_text Header) (record { label = l; value = v }) (list_of ws) ts h in
    let first = element_read e x.text v flat other fit.0 (ap (λ f. wire f false Header v) (sym own.0) ∙ x.first) in
    ap (λ us. all_read (item_write e) (map (λ t. held.element t) us)) (sym x.is)
    ∙ (λ i. then_try (first i) (λ y. then_give (elements_read e ws x.rest flat other fit.1 own.1 x.later i) (λ ys. y ∷ ys)))

-- Elements that are times.

times_read : (e : Schema) (zs : List ℤ) → e.node.kind ≡ kind.Timestamp → all_read (item_write e) (map (λ z. held.date z) zs) ≡ Ok (map (write_by e) (map (λ z. value.scalar (value.timestamp z)) zs))
unfolding read_scalar
times_read e [] is = refl
times_read e (z ∷ zs) is = λ i. then_try (then_give (value_by_kind (value_within 0) (is i) e (held.date z)) (write_by e)) (λ y. then_give (times_read e zs is i) (λ ys. y ∷ ys))

-- the times of a list have its element's format
one_header_format : (m e : Schema) → m.node.kind ≡ kind.List → element_of m ≡ Some e → is_element_plain m ≡ true → header_format m ≡ header_format e
one_header_format m e is_list is plain =
    let tested : (is_none e.node.traits.media_type && same_format e.node.traits.timestamp_format m.node.traits.timestamp_format) ≡ true =
    sym (λ i. not (same_kind (is_list i) kind.List) || option_map_or (λ s. is_none s.node.traits.media_type && same_format s.node.traits.timestamp_format m.node.traits.timestamp_format) (is i) true) ∙ plain in
    ap (λ (f : Option TimestampFormat). unwrap_or (option_map format_of f) HttpDate)
    (sym (one_format_or_none e.node.traits.timestamp_format m.node.traits.timestamp_format (and_parts (is_none e.node.traits.media_type) (same_format e.node.traits.timestamp_format m.node.traits.timestamp_format) tested).1))

-- a header's text is read as the list that it was written of
pub list_back : (m e : Schema) (name : List ℕ) (ws : Writes) (ts : List (List ℕ)) → m.node.kind ≡ kind.List → element_of m ≡ Some e → is_element_plain m ≡ true → is_flat e.node.kind ≡ true → AreItems e.node.kind ws
    → HaveFormat e.node.traits.timestamp_format ws → each (element_text Header) (list_of ws) ≡ Some ts
    → value_read m (held.header name (listed e.node.kind ts ∷ [])) ≡ Ok (value.list (settled_elements (Some e) ws))
unfolding value_read elements
list_back m e name ws ts is_list is plain flat fit own texts =
    (λ i. value_by_kind (value_within 1) (is_list i) m (held.header name values))
    ∙ (λ i. list_by (value_within 1) m (is i) (held.header name values))
    ∙ ap (λ (o : Option Schema). made (if option_map_or (λ s. same_kind s.node.kind kind.Timestamp) o false then dates else tokens)) is
    ∙ go (same_kind e.node.kind kind.Timestamp) refl
    ∙ ap (λ us. Ok (value.list us)) (own_elements e ws flat fit)
  where
    values : List (List ℕ)
    values = listed e.node.kind ts ∷ []

    dates : Result (List Held) SerdeError
    dates = then_give (or_parse_refusal (dates_of (header_format m) values)) (map (λ z. held.date z))

    tokens : Result (List Held) SerdeError
    tokens = then_give (or_parse_refusal (tokens_of values)) (map (λ t. held.element t))

    made : Result (List Held) SerdeError → Result Value SerdeError
    made r = then_give (then_try r (all_read (item_write e))) (λ us. value.list (writes_of us))

    by : (r : Result (List Held) SerdeError) (items : List Held) → r ≡ Ok items → all_read (item_write e) items ≡ Ok (map (write_by e) (values_in ws)) → made r ≡ Ok (value.list (writes_of (map (write_by e) (values_in ws))))
    by r items opened read = ap made opened ∙ ap (λ (r : Result (List Write) SerdeError). then_give r (λ us. value.list (writes_of us))) read

    go : (b : Bool) → same_kind e.node.kind kind.Timestamp ≡ b → made (if b then dates else tokens) ≡ Ok (value.list (writes_of (map (write_by e) (values_in ws))))
    go true h =
        let time = one_kind e.node.kind kind.Timestamp h in
        let a = time_items e.node.traits.timestamp_format Header ws ts (subst (λ k. AreItems k ws) time fit) own texts in
        let read : dates_of (header_format m) values ≡ Ok a.seconds =
        (λ i. dates_of (one_header_format m e is_list is plain i) (listed (time i) ts ∷ [])) ∙ times_are_read (header_format e) a.seconds ts a.range a.texts in
        by dates (map (λ z. held.date z) a.seconds) (ap (λ (r : Result (List ℤ) HttpError). then_give (or_parse_refusal r) (map (λ z. held.date z))) read)
        (times_read e a.seconds time ∙ ap (λ vs. Ok (map (write_by e) vs)) a.values)
    go false h =
        let other : e.node.kind ≢ kind.Timestamp = λ q. (let z : true ≡ false = ap (λ k. same_kind k kind.Timestamp) (sym q) ∙ h in cc z) in
        by tokens (map (λ t. held.element t) ts) (ap (λ (r : Result (List (List ℕ)) HttpError). then_give (or_parse_refusal r) (map (λ t. held.element t))) (tokens-listed e.node.kind ts other (all_utf8 ts (items_utf8 e.node.kind Header ws ts fit texts))))
        (elements_read e ws ts flat h fit own texts)
