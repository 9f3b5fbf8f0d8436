-- The text of a value in range is UTF-8.
use Rattle.std.proofs.Common.{◌≡◌, refl, subst, ℕ, Bool, true, false, List, codes, Option, Some, if◌then◌else◌}
use Rattle.std.specs.Str.{is_utf8, IsAscii}
use Rattle.std.specs.Fmt.{signed_decimal}
use Rattle.std.proofs.lemmas.Fmt.{IsAscii-signed}
use Rattle.std.proofs.lemmas.Str.{is_utf8-from_IsUtf8, IsUtf8-from_ascii}
use Rattle.base64.specs.Engines.{standard}
use Rattle.base64.proofs.EngineFacts.{IsAscii-encode_of}
use Rattle.smithy_ids.specs.declared.traits.TimestampFormat.{TimestampFormat}
use Rattle.smithy_serde.specs.Values as value
use Rattle.smithy_serde.specs.Values.{Value}
use Rattle.smithy_serde.specs.Ranges.{is_in_range}
use Rattle.smithy_serde.specs.DocumentOf.{base64}
use Rattle.smithy_strings.specs.declared.wire.Place.{Place}
use Rattle.smithy_strings.specs.declared.wire.Place.TheVariants.{Header}
use Rattle.smithy_strings.specs.Wire.{wire, time_format, blob_text}
use Rattle.smithy_strings.proofs.AsciiTexts.{IsAscii-from_test, utf8_from_low, big_integer-utf8, big_decimal-utf8}
use Rattle.smithy_strings.proofs.TimeTexts.{time_form, form_low}
use Rattle.smithy_strings.proofs.Widths.{long_width, long_magnitude}

pub ascii_utf8 : (text : List ℕ) → IsAscii text → is_utf8 text ≡ true
ascii_utf8 text ascii = is_utf8-from_IsUtf8 text (IsUtf8-from_ascii text ascii)

string_utf8 : (media : Bool) (t : List ℕ) → is_utf8 t ≡ true → is_utf8 (if media then base64 t else t) ≡ true
string_utf8 true t e = ascii_utf8 (base64 t) (IsAscii-encode_of standard t)
string_utf8 false t e = e

blob_utf8 : (place : Place) (bytes t : List ℕ) → blob_text place bytes ≡ Some t → is_utf8 t ≡ true
blob_utf8 Header bytes t e = let same : base64 bytes ≡ t = cc e in subst (λ x. is_utf8 x ≡ true) same (ascii_utf8 (base64 bytes) (IsAscii-encode_of standard bytes))
blob_utf8 _ bytes t e = absurd (cc e)

is_some_text : {a b : List ℕ} → Some a ≡ Some b → is_utf8 a ≡ true → is_utf8 b ≡ true
is_some_text {a = a} {b = b} e utf8 = let same : a ≡ b = cc e in subst (λ x. is_utf8 x ≡ true) same utf8

pub wire_utf8 : (f : Option TimestampFormat) (media : Bool) (place : Place) (v : Value) (t : List ℕ) → is_in_range v ≡ true → wire f media place v ≡ Some t → is_utf8 t ≡ true
wire_utf8 f media place (value.scalar (value.boolean true)) t range e = is_some_text e (ascii_utf8 (codes "true") (IsAscii-from_test (codes "true") refl))
wire_utf8 f media place (value.scalar (value.boolean false)) t range e = is_some_text e (ascii_utf8 (codes "false") (IsAscii-from_test (codes "false") refl))
wire_utf8 f media place (value.scalar (value.whole w z)) t range e = is_some_text e (ascii_utf8 (signed_decimal z) (IsAscii-signed z (long_magnitude z (long_width w z range))))
wire_utf8 f media place (value.scalar (value.big_integer s)) t range e = is_some_text e (big_integer-utf8 s range)
wire_utf8 f media place (value.scalar (value.big_decimal s)) t range e = is_some_text e (big_decimal-utf8 s range)
wire_utf8 f media place (value.scalar (value.text s)) t range e = is_some_text e (string_utf8 media s range)
wire_utf8 f media place (value.scalar (value.blob bytes)) t range e = blob_utf8 place bytes t e
wire_utf8 f media place (value.scalar (value.timestamp z)) t range e = utf8_from_low t (form_low (time_format f place) t (time_form (time_format f place) z t range e))
wire_utf8 f media place _ t range e = absurd (cc e)
