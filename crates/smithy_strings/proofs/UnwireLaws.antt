-- The text of a scalar gives the scalar back, for its kind and place.
use Rattle.std.proofs.Common.{◌≡◌, refl, sym, ◌∙◌, ap, subst, ℕ, suc, zero, Bool, true, false, cond, List, [], ◌∷◌, codes, Option, Some, None, Ok, Err, option_map, option_and_then, if◌then◌else◌, ltb-true, nat_lt, arith, ℤ, ◌^◌, IfSome}
use Rattle.std.specs.Str.{IsUtf8, is_utf8}
use Rattle.std.specs.Fmt.{signed_decimal}
use Rattle.std.specs.Option.{option_map_or}
use Rattle.std.specs.Str.Parse.{signed_digits_value}
use Rattle.std.specs.Cmp.Lexicographic.{same_text as same_from_test}
use Rattle.std.proofs.lemmas.Bool.{and_parts}
use Rattle.std.proofs.lemmas.Str.{IsUtf8-from_is_utf8, is_utf8-from_IsUtf8}
use Rattle.base64.specs.Engines.{standard}
use Rattle.base64.specs.GeneralPurpose.{decode_of, decoded_of, IsBytes}
use Rattle.base64.specs.declared.decode.DecodeError.{DecodeError}
use Rattle.base64.proofs.EngineFacts.{decode_of-encode_of}
use Rattle.smithy_types.specs.BigNumbers.{is_signed_digits}
use Rattle.smithy_types.specs.Texts.{same_text}
use Rattle.smithy_types.specs.declared.date_time.Format.{Format}
use Rattle.smithy_types.specs.TimestampReading.{timestamp_of}
use Rattle.smithy_types.specs.Timestamps.{timestamp_text}
use Rattle.smithy_types.proofs.ReadBack.{timestamps_read_back}
use Rattle.smithy_ids.specs.declared.shape_type.ShapeType.{ShapeType}
use Rattle.smithy_ids.specs.declared.shape_type.ShapeType.TheVariants as kind
use Rattle.smithy_ids.specs.declared.traits.TimestampFormat.{TimestampFormat}
use Rattle.smithy_schema.specs.Nodes.{Table}
use Rattle.smithy_serde.specs.Values as value
use Rattle.smithy_serde.specs.Values.{Scalar, Value, Width, byte, short, integer, long}
use Rattle.smithy_serde.specs.Ranges.{is_scalar_in_range, is_signed_within, is_in_width, are_bytes}
use Rattle.smithy_serde.specs.Fits.{scalar_kind, width_kind}
use Rattle.smithy_serde.specs.DocumentOf.{base64}
use Rattle.smithy_serde.specs.TextReads.{scalar_of_text, whole_of_text, blob_of_text, boolean_of_text}
use Rattle.smithy_serde.specs.StoredValues.{value_in}
use Rattle.std.specs.Bool.{then_some}
use Rattle.smithy_serde.specs.declared.value.ShapeValue.{ShapeValue}
use Rattle.smithy_strings.specs.declared.wire.Place.{Place}
use Rattle.smithy_strings.specs.declared.wire.Place.TheVariants.{Header}
use Rattle.smithy_strings.specs.Escapes.{AreBytes}
use Rattle.smithy_strings.specs.Wire.{wire, scalar_wire, blob_text, time_format}
use Rattle.smithy_strings.specs.Unwired.{text_of_bytes, text_of_wire, spelled_wire, is_wire_of, unwired, UnwireIsExact}
use Rattle.smithy_strings.proofs.Bytes.{AreBytes-from_utf8}
use Rattle.smithy_strings.proofs.SpelledLemmas.{whole_read_back}
use Rattle.smithy_strings.proofs.UnescapeLaws.{same_self}
use Rattle.smithy_strings.proofs.Widths.{long_fits}

-- Base64.

IsBytes-from_all : (bytes : List ℕ) → AreBytes bytes → IsBytes bytes
IsBytes-from_all [] are i = omega arith
IsBytes-from_all (b ∷ bytes) are zero = are.0
IsBytes-from_all (b ∷ bytes) are (suc i) = IsBytes-from_all bytes are.1 i

AreBytes-from_test : (bytes : List ℕ) → are_bytes bytes ≡ true → AreBytes bytes
AreBytes-from_test [] e = tt
AreBytes-from_test (b ∷ bytes) e = let parts = and_parts (nat_lt b 256) (are_bytes bytes) e in (ltb-true b 256 parts.0, AreBytes-from_test bytes parts.1)

decoded_back : (bytes : List ℕ) → AreBytes bytes → decoded_of standard (base64 bytes) ≡ Some bytes
unfolding decoded_of
decoded_back bytes are = rw (decode_of-encode_of standard bytes refl (IsBytes-from_all bytes are)) refl

-- Each kind.

boolean_back : (b : Bool) → boolean_of_text (if b then codes "true" else codes "false") ≡ Some (value.boolean b)
boolean_back true = refl
boolean_back false = refl

string_back : (media : Bool) (s : List ℕ) → is_utf8 s ≡ true → text_of_wire media (if media then base64 s else s) ≡ Some (value.text s)
string_back true s utf8 = ap (option_and_then (λ bytes. then_some (is_utf8 bytes) (value.text bytes))) (decoded_back s (AreBytes-from_utf8 s utf8)) ∙ ap (λ b. then_some b (value.text s)) utf8
string_back false s utf8 = refl

blob_back : (place : Place) (bytes t : List ℕ) → are_bytes bytes ≡ true → blob_text place bytes ≡ Some t → blob_of_text t ≡ Some (value.blob bytes)
blob_back Header bytes t are e = let same : base64 bytes ≡ t = cc e in ap blob_of_text (sym same) ∙ ap (option_map (λ b. value.blob b)) (decoded_back bytes (AreBytes-from_test bytes are))
blob_back _ bytes t are e = absurd (cc e)

-- a time is read back from its text
pub time_back : (f : Format) (z : ℤ) (t : List ℕ) → is_signed_within (2 ^ 63) z ≡ true → timestamp_text f z ≡ Some t → timestamp_of f t ≡ Some z
time_back f z t range is = subst (λ (o : Option (List ℕ)). IfSome o (λ text. timestamp_of f text ≡ Some z)) is (timestamps_read_back f z (long_fits z range))

width_spelled : (format : Option TimestampFormat) (media : Bool) (place : Place) (w : Width) (t : List ℕ) → spelled_wire format media place (width_kind w) t ≡ whole_of_text w t
width_spelled format media place byte t = refl
width_spelled format media place short t = refl
width_spelled format media place integer t = refl
width_spelled format media place long t = refl

-- The scalar of a kind in range that has a text is the one that the text spells.
spelled_back : (format : Option TimestampFormat) (media : Bool) (place : Place) (x : Scalar) (k : ShapeType) (t : List ℕ) → is_scalar_in_range x ≡ true → scalar_kind x ≡ Some k → scalar_wire format media place x ≡ Some t
    → spelled_wire format media place k t ≡ Some x
spelled_back format media place x k t range is e = subst (λ (o : Option ShapeType). option_and_then (λ k. spelled_wire format media place k t) o ≡ Some x) is (by x range e)
  where
    by : (x : Scalar) → is_scalar_in_range x ≡ true → scalar_wire format media place x ≡ Some t → option_and_then (λ k. spelled_wire format media place k t) (scalar_kind x) ≡ Some x
    by (value.boolean b) range e = let same : (if b then codes "true" else codes "false") ≡ t = cc e in ap boolean_of_text (sym same) ∙ boolean_back b
    by (value.whole w z) range e = let same : signed_decimal z ≡ t = cc e in width_spelled format media place w t ∙ ap (whole_of_text w) (sym same) ∙ whole_read_back w z range
    by (value.big_integer s) range e = let same : s ≡ t = cc e in ap (scalar_of_text kind.BigInteger) (sym same) ∙ ap (λ b. then_some b (value.big_integer s)) range
    by (value.big_decimal s) range e = let same : s ≡ t = cc e in ap (scalar_of_text kind.BigDecimal) (sym same) ∙ ap (λ b. then_some b (value.big_decimal s)) range
    by (value.text s) range e = let same : (if media then base64 s else s) ≡ t = cc e in ap (text_of_wire media) (sym same) ∙ string_back media s range
    by (value.blob bytes) range e = blob_back place bytes t range e
    by (value.timestamp z) range e = ap (option_map (λ z. value.timestamp z)) (time_back (time_format format place) z t range e)
    by _ range e = absurd (cc e)

-- it is read
pub unwired-wire : (format : Option TimestampFormat) (media : Bool) (place : Place) (x : Scalar) (k : ShapeType) (t : List ℕ) → is_scalar_in_range x ≡ true → scalar_kind x ≡ Some k → scalar_wire format media place x ≡ Some t
    → unwired format media place k t ≡ Some x
unfolding unwired
unwired-wire format media place x k t range is e =
    ap (option_and_then (λ x. then_some (is_wire_of format media place t x) x)) (spelled_back format media place x k t range is e)
    ∙ ap (λ b. then_some b x) (ap (λ (o : Option (List ℕ)). option_map_or (λ s. same_text s t) o false) e ∙ same_self t)

-- What is read is of the kind, and has the text.

kept : {X : Type 0} (b : Bool) (y x : X) → then_some b y ≡ Some x → (b ≡ true) × (y ≡ x)
kept true y x e = (refl, cc e)
kept false y x e = absurd (cc e)

whole_kind : (w : Width) (t : List ℕ) (x : Scalar) → whole_of_text w t ≡ Some x → scalar_kind x ≡ Some (width_kind w)
whole_kind w t x e = go (is_signed_digits t) e
  where
    go : (b : Bool) → cond b (then_some (is_in_width w (signed_digits_value 10 t)) (value.whole w (signed_digits_value 10 t))) None ≡ Some x → scalar_kind x ≡ Some (width_kind w)
    go true h = ap scalar_kind (sym (kept _ _ x h).1)
    go false h = absurd (cc h)

boolean_kind : (t : List ℕ) (x : Scalar) → boolean_of_text t ≡ Some x → scalar_kind x ≡ Some kind.Boolean
boolean_kind t x e = go (same_text t (codes "true")) (same_text t (codes "false")) e
  where
    go : (a b : Bool) → cond a (Some (value.boolean true)) (cond b (Some (value.boolean false)) None) ≡ Some x → scalar_kind x ≡ Some kind.Boolean
    go true b h = let same : value.boolean true ≡ x = cc h in ap scalar_kind (sym same)
    go false true h = let same : value.boolean false ≡ x = cc h in ap scalar_kind (sym same)
    go false false h = absurd (cc h)

mapped_kind : {Y : Type 0} (f : Y → Scalar) (k : ShapeType) (o : Option Y) (x : Scalar) → ((y : Y) → scalar_kind (f y) ≡ Some k) → option_map f o ≡ Some x → scalar_kind x ≡ Some k
mapped_kind f k None x all e = absurd (cc e)
mapped_kind f k (Some y) x all e = let same : f y ≡ x = cc e in ap scalar_kind (sym same) ∙ all y

text_kind : (media : Bool) (t : List ℕ) (x : Scalar) → text_of_wire media t ≡ Some x → scalar_kind x ≡ Some kind.String
text_kind true t x e = go (decoded_of standard t) e
  where
    go : (o : Option (List ℕ)) → option_and_then text_of_bytes o ≡ Some x → scalar_kind x ≡ Some kind.String
    go None h = absurd (cc h)
    go (Some bytes) h = ap scalar_kind (sym (kept (is_utf8 bytes) (value.text bytes) x h).1)
text_kind false t x e = let same : value.text t ≡ x = cc e in ap scalar_kind (sym same)

spelled_kind : (format : Option TimestampFormat) (media : Bool) (place : Place) (k : ShapeType) (t : List ℕ) (x : Scalar) → spelled_wire format media place k t ≡ Some x → scalar_kind x ≡ Some k
spelled_kind format media place kind.Boolean t x e = boolean_kind t x e
spelled_kind format media place kind.Byte t x e = whole_kind byte t x e
spelled_kind format media place kind.Short t x e = whole_kind short t x e
spelled_kind format media place kind.Integer t x e = whole_kind integer t x e
spelled_kind format media place kind.Long t x e = whole_kind long t x e
spelled_kind format media place kind.BigInteger t x e = ap scalar_kind (sym (kept _ (value.big_integer t) x e).1)
spelled_kind format media place kind.BigDecimal t x e = ap scalar_kind (sym (kept _ (value.big_decimal t) x e).1)
spelled_kind format media place kind.String t x e = text_kind media t x e
spelled_kind format media place kind.Blob t x e = mapped_kind (λ b. value.blob b) kind.Blob (decoded_of standard t) x (λ b. refl) e
spelled_kind format media place kind.Timestamp t x e = mapped_kind (λ z. value.timestamp z) kind.Timestamp (timestamp_of (time_format format place) t) x (λ z. refl) e
spelled_kind format media place _ t x e = absurd (cc e)

told : (o : Option (List ℕ)) (t : List ℕ) → option_map_or (λ s. same_text s t) o false ≡ true → o ≡ Some t
told None t e = absurd (cc e)
told (Some s) t e = ap Some (same_from_test s t (sym e))

unwired_some : (format : Option TimestampFormat) (media : Bool) (place : Place) (k : ShapeType) (t : List ℕ) (x : Scalar) → unwired format media place k t ≡ Some x
    → (scalar_kind x ≡ Some k) × (scalar_wire format media place x ≡ Some t)
unfolding unwired
unwired_some format media place k t x e = go (spelled_wire format media place k t) refl e
  where
    go : (o : Option Scalar) → spelled_wire format media place k t ≡ o → option_and_then (λ x. then_some (is_wire_of format media place t x) x) o ≡ Some x → (scalar_kind x ≡ Some k) × (scalar_wire format media place x ≡ Some t)
    go None is h = absurd (cc h)
    go (Some y) is h =
        let both = kept (is_wire_of format media place t y) y x h in
        (spelled_kind format media place k t x (is ∙ ap Some both.1), ap (scalar_wire format media place) (sym both.1) ∙ told (scalar_wire format media place y) t both.0)

pub unwire_is_exact : UnwireIsExact
unwire_is_exact format media place k t = record {
  reads_back = λ x range is e. unwired-wire format media place x k t range is e;
  has_text = λ x e. unwired_some format media place k t x e;
}

-- bytes that a text decodes to, as they are stored
pub decoded_ok : (t bytes : List ℕ) → decode_of standard t ≡ Ok bytes → decoded_of standard t ≡ Some bytes
unfolding decoded_of
decoded_ok t bytes e = rw e refl

pub decoded_err : (t : List ℕ) (e : DecodeError) → decode_of standard t ≡ Err e → decoded_of standard t ≡ None
unfolding decoded_of
decoded_err t e failed = rw failed refl

-- they are a text where they are UTF-8
pub utf8_text : (bytes text : List ℕ) → text ≡ bytes → IsUtf8 bytes → Some (value.scalar (value.text text)) ≡ option_map (λ x. value.scalar x) (text_of_bytes bytes)
utf8_text bytes text same utf8 =
    ap (λ t. Some (value.scalar (value.text t))) same ∙ sym (ap (λ b. option_map (λ x. value.scalar x) (then_some b (value.text bytes))) (is_utf8-from_IsUtf8 bytes utf8))

pub no_utf8_text : (bytes : List ℕ) → (IsUtf8 bytes → ⊥) → ◌≡◌ {A = Option Value} None (option_map (λ x. value.scalar x) (text_of_bytes bytes))
no_utf8_text bytes other = go (is_utf8 bytes) refl
  where
    go : (b : Bool) → is_utf8 bytes ≡ b → ◌≡◌ {A = Option Value} None (option_map (λ x. value.scalar x) (then_some b (value.text bytes)))
    go true e = absurd (other (IsUtf8-from_is_utf8 bytes e))
    go false e = refl

-- A stored value that a text may be of is the scalar exactly where it has that text.

abbrev pub has_wire : Option TimestampFormat → Bool → Place → List ℕ → Value → Bool
has_wire format media place text v = option_map_or (λ s. same_text s text) (wire format media place v) false

pub unwired_from_none : (format : Option TimestampFormat) (media : Bool) (place : Place) (k : ShapeType) (text : List ℕ) (t : Table) → ◌≡◌ {A = Option Value} None (option_map (λ x. value.scalar x) (spelled_wire format media place k text))
    → ◌≡◌ {A = Option Value} None (option_map (λ x. value.scalar x) (unwired format media place k text))
unfolding unwired
unwired_from_none format media place k text t e = go (spelled_wire format media place k text) e
  where
    go : (o : Option Scalar) → ◌≡◌ {A = Option Value} None (option_map (λ x. value.scalar x) o) → ◌≡◌ {A = Option Value} None (option_map (λ x. value.scalar x) (option_and_then (λ x. then_some (is_wire_of format media place text x) x) o))
    go None h = refl
    go (Some x) h = absurd (cc h)

pub unwired_kept : (format : Option TimestampFormat) (media : Bool) (place : Place) (k : ShapeType) (text : List ℕ) (t : Table) (v : ShapeValue) (b : Bool) → Some (value_in t v) ≡ option_map (λ x. value.scalar x) (spelled_wire format media place k text)
    → b ≡ has_wire format media place text (value_in t v) → option_map (value_in t) (then_some b v) ≡ option_map (λ x. value.scalar x) (unwired format media place k text)
unfolding unwired
unwired_kept format media place k text t v b e has = go (spelled_wire format media place k text) b e has
  where
    go : (o : Option Scalar) (b : Bool) → Some (value_in t v) ≡ option_map (λ x. value.scalar x) o → b ≡ has_wire format media place text (value_in t v)
        → option_map (value_in t) (then_some b v) ≡ option_map (λ x. value.scalar x) (option_and_then (λ x. then_some (is_wire_of format media place text x) x) o)
    go None b h has = absurd (cc h)
    go (Some x) b h has =
        let same : value_in t v ≡ value.scalar x = cc h in
        let test : b ≡ is_wire_of format media place text x = has ∙ ap (has_wire format media place text) same in
        by b (is_wire_of format media place text x) test h
      where
        by : (b c : Bool) → b ≡ c → Some (value_in t v) ≡ option_map (λ x. value.scalar x) (Some x) → option_map (value_in t) (then_some b v) ≡ option_map (λ x. value.scalar x) (then_some c x)
        by true true e h = h
        by false false e h = refl
        by true false e h = absurd (cc e)
        by false true e h = absurd (cc e)
