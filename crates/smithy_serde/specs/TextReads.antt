-- What a text is read as, by kind.
use Rattle.std.specs.Prelude.{ℕ, true, false, codes, List, Option, Some, None, option_map, if◌then◌else◌}
use Rattle.std.specs.Str.Parse.{signed_digits_value}
use Rattle.base64.specs.Engines.{standard}
use Rattle.base64.specs.GeneralPurpose.{decoded_of}
use Rattle.smithy_types.specs.Texts.{same_text}
use Rattle.smithy_types.specs.BigNumbers.{is_signed_digits, is_big_integer_in_range, is_big_decimal_in_range}
use Rattle.smithy_ids.specs.declared.shape_type.ShapeType.{ShapeType}
use Rattle.smithy_ids.specs.declared.shape_type.ShapeType.TheVariants as kind
use Rattle.smithy_serde.specs.Ranges.{is_in_width}
use Rattle.smithy_serde.specs.Values as value
use Rattle.smithy_serde.specs.Values.{Scalar, Width, byte, short, integer, long}
use Rattle.std.specs.Bool.{then_some}

-- an optional sign and digits, in the range of the width
abbrev pub whole_of_text : Width → List ℕ → Option Scalar
whole_of_text width text =
    if is_signed_digits text then then_some (is_in_width width (signed_digits_value 10 text)) (value.whole width (signed_digits_value 10 text)) else None

abbrev pub boolean_of_text : List ℕ → Option Scalar
boolean_of_text text =
    if same_text text (codes "true") then Some (value.boolean true)
    else if same_text text (codes "false") then Some (value.boolean false) else None

-- the bytes of a text in base64 (RFC 4648, section 4)
abbrev pub blob_of_text : List ℕ → Option Scalar
blob_of_text text = option_map (λ bytes. value.blob bytes) (decoded_of standard text)

-- the value that a text spells, if it is one of the kind; a timestamp needs a format, and is read apart
abbrev pub scalar_of_text : ShapeType → List ℕ → Option Scalar
scalar_of_text kind.Boolean text = boolean_of_text text
scalar_of_text kind.Byte text = whole_of_text byte text
scalar_of_text kind.Short text = whole_of_text short text
scalar_of_text kind.Integer text = whole_of_text integer text
scalar_of_text kind.Long text = whole_of_text long text
scalar_of_text kind.BigInteger text = then_some (is_big_integer_in_range text) (value.big_integer text)
scalar_of_text kind.BigDecimal text = then_some (is_big_decimal_in_range text) (value.big_decimal text)
scalar_of_text kind.String text = Some (value.text text)
scalar_of_text kind.Blob text = blob_of_text text
scalar_of_text _ text = None
