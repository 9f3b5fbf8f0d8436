-- A header is read as the scalar that its text was written of.
use Rattle.smithy_served.proofs.Common.{standard, one_text_of, begins_with_white_space, ends_with_white_space, HttpError, are_empty, has_nothing, is_plain_text, decoded_text, header_format, item_of_text, no_value, one_of, one_token, or_parse_refusal, scalar_of_header, text_of_header, time_of_header, read_scalar, is_in_width, is_scalar_in_range, value_by_kind, value_within, value_read, Width, byte, integer, long, short, SerdeError, is_trimmed, times_are_read, listed, is_wire_of, spelled_wire, text_of_bytes, text_of_wire, unwired, scalar_wire, has_narrow_coefficient, is_big_decimal, is_signed_digits, Bool, Err, Header, Held, List, None, Ok, Option, Result, Scalar, Schema, ShapeType, Some, TimestampFormat, Value, [], and_parts, ap, base64, codes, cond, false, fits, if◌then◌else◌, is_in_range, is_none, is_some, is_utf8, not, then_some, option_and_then, option_map, refl, same_kind, scalar_kind, sym, text_of_key, then_give, then_try, true, wire, ℕ, ℤ, ◌&&◌, ◌||◌, ◌∙◌, ◌∷◌, ◌≡◌, ◌≢◌, is_flat, taken, IsUtf8-from_is_utf8, ok_or, chars, trim, fits_in_range}
use Rattle.base64.specs.GeneralPurpose.{decoded_of}
use Rattle.smithy_ids.specs.declared.shape_type.ShapeType.TheVariants as kind
use Rattle.smithy_http.specs.declared.error.HttpError.TheVariants as error
use Rattle.smithy_serde.specs.Held as held
use Rattle.smithy_serde.specs.TextReads.{scalar_of_text, whole_of_text}
use Rattle.smithy_serde.specs.Values as value
use Rattle.std.specs.Str.Parse.{signed_digits_value}
use Rattle.std.specs.Fmt.{signed_decimal}
use Rattle.smithy_strings.proofs.ListLaws.{trim_same}
use Rattle.smithy_strings.proofs.SpelledLemmas.{whole_read_back}
use Rattle.smithy_strings.proofs.UnwireLaws.{unwired-wire}
use Rattle.smithy_recovery.proofs.Exact.{kept}
use Rattle.smithy_served.proofs.Plain.{are_bare, neither, one_token-bare, bare_signed, bare_decimal, bare_base64}

-- a value of a flat kind with its text in a header: a scalar in range, which the text spells
pub record IsHeaderText (format : Option TimestampFormat) (media : Bool) (k : ShapeType) (v : Value) (t : List ℕ) : Type 0 where
  pub scalar : Scalar
  pub is : v ≡ value.scalar scalar
  pub range : is_scalar_in_range scalar ≡ true
  pub kind : scalar_kind scalar ≡ Some k
  pub text : scalar_wire format media Header scalar ≡ Some t
  pub spelled : spelled_wire format media Header k t ≡ Some scalar

pub header_text : (format : Option TimestampFormat) (media : Bool) (k : ShapeType) (v : Value) (t : List ℕ) → is_flat k ≡ true → fits_in_range k v ≡ true → wire format media Header v ≡ Some t → IsHeaderText format media k v t
unfolding unwired
header_text format media k (value.scalar x) t flat fit e =
    let parts = and_parts (is_in_range (value.scalar x)) (fits k (value.scalar x)) fit in
    let of_kind = taken k (scalar_kind x) flat parts.1 in
    record { scalar = x; is = refl; range = parts.0; kind = of_kind; text = e; spelled = go (spelled_wire format media Header k t) (unwired-wire format media Header x k t parts.0 of_kind e) }
  where
    go : (o : Option Scalar) → option_and_then (λ y. then_some (is_wire_of format media Header t y) y) o ≡ Some x → o ≡ Some x
    go None h = absurd (cc h)
    go (Some y) h = ap Some (kept (is_wire_of format media Header t y) y x h).1
header_text format media k _ t flat fit e = absurd (cc e)

-- The bytes of numbers, of truth values and of bytes are bare.

bare_whole : (w : Width) (t : List ℕ) (x : Scalar) → whole_of_text w t ≡ Some x → are_bare t ≡ true
bare_whole w t x e = go (is_signed_digits t) refl e
  where
    go : (b : Bool) → is_signed_digits t ≡ b → cond b (then_some (is_in_width w (signed_digits_value 10 t)) (value.whole w (signed_digits_value 10 t))) None ≡ Some x → are_bare t ≡ true
    go true is h = bare_signed t is
    go false is h = absurd (cc h)

bare_encoded : (bytes t : List ℕ) → Some (base64 bytes) ≡ Some t → are_bare t ≡ true
bare_encoded bytes t e = let same : base64 bytes ≡ t = cc e in ap are_bare (sym same) ∙ bare_base64 bytes

-- a time, or a text that stands as it is
abbrev stands_open : Bool → ShapeType → Bool
stands_open media k = same_kind k kind.Timestamp || (same_kind k kind.String && not media)

bare_wire : (format : Option TimestampFormat) (media : Bool) (k : ShapeType) (x : Scalar) (t : List ℕ) → scalar_kind x ≡ Some k → stands_open media k ≡ false → is_scalar_in_range x ≡ true → scalar_wire format media Header x ≡ Some t → are_bare t ≡ true
bare_wire format media k (value.boolean true) t of_kind closed range e = let same : codes "true" ≡ t = cc e in ap are_bare (sym same)
bare_wire format media k (value.boolean false) t of_kind closed range e = let same : codes "false" ≡ t = cc e in ap are_bare (sym same)
bare_wire format media k (value.whole w z) t of_kind closed range e = let same : signed_decimal z ≡ t = cc e in ap are_bare (sym same) ∙ bare_whole w (signed_decimal z) (value.whole w z) (whole_read_back w z range)
bare_wire format media k (value.big_integer s) t of_kind closed range e = let same : s ≡ t = cc e in ap are_bare (sym same) ∙ bare_signed s (and_parts (is_signed_digits s) (has_narrow_coefficient s) range).0
bare_wire format media k (value.big_decimal s) t of_kind closed range e = let same : s ≡ t = cc e in ap are_bare (sym same) ∙ bare_decimal s (and_parts (is_big_decimal s) (has_narrow_coefficient s) range).0
bare_wire format media k (value.blob bytes) t of_kind closed range e = bare_encoded bytes t e
bare_wire format true k (value.text s) t of_kind closed range e = bare_encoded s t e
bare_wire format false k (value.text s) t of_kind closed range e = let same : kind.String ≡ k = cc of_kind in let q : true ≡ false = ap (stands_open false) same ∙ closed in absurd (cc q)
bare_wire format media k (value.timestamp z) t of_kind closed range e = let same : kind.Timestamp ≡ k = cc of_kind in let q : true ≡ false = ap (stands_open media) same ∙ closed in absurd (cc q)
bare_wire format media k _ t of_kind closed range e = absurd (cc e)

-- The one token.

there : (none : SerdeError) (o : Option Scalar) (x : Scalar) → o ≡ Some x → ok_or o none ≡ Ok x
there none o x e = ap (λ (o : Option Scalar). ok_or o none) e

pub item_read : (k : ShapeType) (t : List ℕ) (x : Scalar) → scalar_of_text k t ≡ Some x → item_of_text k t ≡ Ok x
item_read kind.Blob t x e = there _ (scalar_of_text kind.Blob t) x e
item_read kind.String t x e = let same : value.text t ≡ x = cc e in ap Ok same
item_read _ t x e = there _ _ x e

token_read : {X : Type 0} (k : ShapeType) (name t : List ℕ) (read : List ℕ → Result X SerdeError) → t ≢ [] → are_bare t ≡ true → then_try (one_token k name (t ∷ [])) read ≡ read t
token_read k name t read some bare = ap (λ (r : Result (List (List ℕ)) HttpError). then_try (then_try (or_parse_refusal r) (one_of k name)) read) (one_token-bare t some bare)

-- Texts.

decoded_is : (t : List ℕ) (x : Scalar) → text_of_wire true t ≡ Some x → decoded_text t ≡ Ok x
decoded_is t x e = go _ _ (decoded_of standard t) e
  where
    by : (no_text : SerdeError) (bytes : List ℕ) (b : Bool) → then_some b (value.text bytes) ≡ Some x → cond b (Ok (value.text bytes)) (Err no_text) ≡ Ok x
    by no_text bytes true q = ap Ok (kept true (value.text bytes) x q).1
    by no_text bytes false q = absurd (cc q)

    go : (no_bytes no_text : SerdeError) (o : Option (List ℕ)) → option_and_then text_of_bytes o ≡ Some x
        → then_try (ok_or o no_bytes) (λ bytes. if is_utf8 bytes then Ok (value.text bytes) else Err no_text) ≡ Ok x
    go no_bytes no_text None h = absurd (cc h)
    go no_bytes no_text (Some bytes) h = by no_text bytes (is_utf8 bytes) h

abbrev whole_text : List ℕ → List ℕ → Result Scalar SerdeError
whole_text name t = then_try (or_parse_refusal (one_text_of (t ∷ []))) (λ text. then_give (ok_or text (no_value kind.String name)) (λ u. value.text u))

plain_read : (name t : List ℕ) → is_utf8 t ≡ true → is_trimmed t ≡ true → whole_text name t ≡ Ok (value.text t)
unfolding one_text_of
plain_read name t utf8 trimmed =
    let ends = neither (begins_with_white_space (chars t)) (ends_with_white_space (chars t)) trimmed in
    ap (λ b. then_try (or_parse_refusal (then_give (cond b (Ok t) (Err error.NotUtf8)) (λ text. Some (trim text)))) (λ text. then_give (ok_or text (no_value kind.String name)) (λ u. value.text u))) utf8
    ∙ ap (λ u. Ok (value.text u)) (trim_same t (IsUtf8-from_is_utf8 t utf8) ends.0 ends.1)

-- a header of another kind than a plain text has a byte
some_text : (t : List ℕ) → (true && are_empty (t ∷ [])) ≡ false → t ≢ []
some_text [] e q = absurd (cc e)
some_text (b ∷ t) e q = cc q

pub text_read : (m : Schema) (name t : List ℕ) (x : Scalar) (media : Option (List ℕ)) → m.node.traits.media_type ≡ media → scalar_wire m.node.traits.timestamp_format (is_some media) Header x ≡ Some t → scalar_kind x ≡ Some kind.String
    → is_scalar_in_range x ≡ true → text_of_wire (is_some media) t ≡ Some x → (not (is_none media) && are_empty (t ∷ [])) ≡ false → (is_none media ≡ true → is_trimmed (text_of_key (value.scalar x)) ≡ true)
    → text_of_header m name (t ∷ []) ≡ Ok x
text_read m name t x media is text k range back some trimmed =
    ap (λ (o : Option (List ℕ)). cond (is_some o) (then_try (one_token kind.String name (t ∷ [])) decoded_text) (whole_text name t)) is ∙ go media text back some trimmed
  where
    go : (media : Option (List ℕ)) → scalar_wire m.node.traits.timestamp_format (is_some media) Header x ≡ Some t → text_of_wire (is_some media) t ≡ Some x → (not (is_none media) && are_empty (t ∷ [])) ≡ false
        → (is_none media ≡ true → is_trimmed (text_of_key (value.scalar x)) ≡ true) → cond (is_some media) (then_try (one_token kind.String name (t ∷ [])) decoded_text) (whole_text name t) ≡ Ok x
    go (Some media) text back some trimmed = token_read kind.String name t decoded_text (some_text t some) (bare_wire m.node.traits.timestamp_format true kind.String x t k refl range text) ∙ decoded_is t x back
    go None text back some trimmed =
        let same : value.text t ≡ x = cc back in
        plain_read name t (ap is_scalar_in_range same ∙ range) (ap (λ y. is_trimmed (text_of_key (value.scalar y))) same ∙ trimmed refl) ∙ ap Ok same

-- A point in time.

time_read : (m : Schema) (name t : List ℕ) (x : Scalar) → scalar_kind x ≡ Some kind.Timestamp → is_scalar_in_range x ≡ true → scalar_wire m.node.traits.timestamp_format (is_some m.node.traits.media_type) Header x ≡ Some t
    → time_of_header m name (t ∷ []) ≡ Ok x
unfolding listed
time_read m name t (value.timestamp z) k range e =
    ap (λ (r : Result (List ℤ) HttpError). then_give (then_try (or_parse_refusal r) (one_of kind.Timestamp name)) (λ seconds. value.timestamp seconds))
    (times_are_read (header_format m) (z ∷ []) (t ∷ []) (range, tt) (ap (λ (o : Option (List ℕ)). option_and_then (λ y. option_map (λ ys. y ∷ ys) (Some [])) o) e))
time_read m name t (value.whole byte z) k range e = absurd (cc k)
time_read m name t (value.whole short z) k range e = absurd (cc k)
time_read m name t (value.whole integer z) k range e = absurd (cc k)
time_read m name t (value.whole long z) k range e = absurd (cc k)
time_read m name t _ k range e = absurd (cc k)

-- By the kind.

-- a header's text is read as the scalar that it was written of
scalar_back : (m : Schema) (name t : List ℕ) (v : Value) → is_flat m.node.kind ≡ true → (is : IsHeaderText m.node.traits.timestamp_format (is_some m.node.traits.media_type) m.node.kind v t)
    → has_nothing m (t ∷ []) ≡ false → (is_plain_text m ≡ true → is_trimmed (text_of_key v) ≡ true) → scalar_of_header m.node.kind m name (t ∷ []) ≡ Ok is.scalar
scalar_back m name t v flat is some trimmed = go m.node.kind flat is.kind is.spelled some (λ plain. ap (λ u. is_trimmed (text_of_key u)) (sym is.is) ∙ trimmed plain)
  where
    x : Scalar
    x = is.scalar

    format : Option TimestampFormat
    format = m.node.traits.timestamp_format

    media : Option (List ℕ)
    media = m.node.traits.media_type

    go : (k : ShapeType) → is_flat k ≡ true → scalar_kind x ≡ Some k → spelled_wire format (is_some media) Header k t ≡ Some x
        → (not (same_kind k kind.String && is_none media) && are_empty (t ∷ [])) ≡ false → ((same_kind k kind.String && is_none media) ≡ true → is_trimmed (text_of_key (value.scalar x)) ≡ true)
        → scalar_of_header k m name (t ∷ []) ≡ Ok x
    go kind.String flat of_kind e some trimmed = text_read m name t x media refl is.text of_kind is.range e some trimmed
    go kind.Timestamp flat of_kind e some trimmed = time_read m name t x of_kind is.range is.text
    go kind.Document flat of_kind e some trimmed = absurd (cc flat)
    go k flat of_kind e some trimmed = token_read k name t (item_of_text k) (some_text t some) (bare_wire format (is_some media) k x t of_kind refl is.range is.text) ∙ item_read k t x e

-- a flat kind is read as a scalar
pub read_flat : (inner : Schema → Held → Result Value SerdeError) (k : ShapeType) (node : Schema) (h : Held) → is_flat k ≡ true → value_by_kind inner k node h ≡ then_give (read_scalar k node h) (λ x. value.scalar x)
read_flat inner kind.List node h flat = absurd (cc flat)
read_flat inner kind.Map node h flat = absurd (cc flat)
read_flat inner kind.Structure node h flat = absurd (cc flat)
read_flat inner kind.Union node h flat = absurd (cc flat)
read_flat inner kind.Float node h flat = absurd (cc flat)
read_flat inner kind.Double node h flat = absurd (cc flat)
read_flat inner kind.Member node h flat = absurd (cc flat)
read_flat inner _ node h flat = refl

pub flat_back : (m : Schema) (name t : List ℕ) (v : Value) → is_flat m.node.kind ≡ true → IsHeaderText m.node.traits.timestamp_format (is_some m.node.traits.media_type) m.node.kind v t
    → has_nothing m (t ∷ []) ≡ false → (is_plain_text m ≡ true → is_trimmed (text_of_key v) ≡ true) → value_read m (held.header name (t ∷ [])) ≡ Ok v
unfolding value_read read_scalar
flat_back m name t v flat is some trimmed =
    read_flat (value_within 1) m.node.kind m (held.header name (t ∷ [])) flat ∙ ap (λ (r : Result Scalar SerdeError). then_give r (λ x. value.scalar x)) (scalar_back m name t v flat is some trimmed) ∙ ap Ok (sym is.is)
