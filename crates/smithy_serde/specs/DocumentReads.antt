-- What a document gives to a reader (Smithy, data model: a value without its shapes).
use Rattle.std.specs.Prelude.{ℕ, ℤ, pos, neg_ℤ, ◌+ℤ◌, int_le, ◌-◌, ◌^◌, nat_le, nat_lt, Bool, true, false, ◌==◌, codes, decimal, unsigned_abs, List, [], ◌∷◌, ◌++◌, length, take, replicate, Option, Some, None, Result, Ok, Err, if◌then◌else◌}
use Rattle.std.specs.Option.{ok_or}
use Rattle.std.specs.List.{starts_with, before_first, after_first}
use Rattle.std.specs.Fmt.{signed_decimal}
use Rattle.std.specs.Str.Parse.{digits_value, signed_digits_value}
use Rattle.smithy_types.specs.BigNumbers.{mantissa_of, exponent_of, is_big_integer_in_range, is_big_decimal_in_range}
use Rattle.smithy_types.specs.Documents as doc
use Rattle.smithy_types.specs.Documents.{Document, Number, Items, Members}
use Rattle.smithy_types.specs.Results.{then_try, then_give}
use Rattle.smithy_types.specs.Settings.{plain_blob, plain_number_timestamp, plain_text_timestamp}
use Rattle.smithy_types.specs.declared.error.DocumentError.{DocumentError}
use Rattle.smithy_ids.specs.declared.shape_type.ShapeType.{ShapeType}
use Rattle.smithy_ids.specs.declared.shape_type.ShapeType.TheVariants as kind
use Rattle.smithy_serde.specs.Ranges.{is_in_width}
use Rattle.smithy_serde.specs.Refusals.{refusal_of_document}
use Rattle.smithy_serde.specs.Values as value
use Rattle.smithy_serde.specs.Values.{Scalar, Width, byte, short, integer, long}
use Rattle.smithy_serde.specs.Fits.{width_kind}
use Rattle.smithy_serde.specs.declared.error.SerdeError.{SerdeError}
use Rattle.smithy_serde.specs.declared.error.SerdeError.TheVariants.{TypeMismatch, NumericCoercionOverflow, InvalidInput, Custom}
use Rattle.smithy_serde.specs.Requests.{document_word, word_of_document}

-- a document of another kind than the read's
abbrev pub mismatch : ShapeType → Document → SerdeError
mismatch k d = TypeMismatch (codes "expected " ++ document_word k ++ codes " document, got " ++ word_of_document d)

abbrev pub integer_of_number : Number → ℤ
integer_of_number (doc.positive n) = pos n
integer_of_number (doc.negative z) = z

abbrev pub number_text : Number → List ℕ
number_text n = signed_decimal (integer_of_number n)

-- a number in the range of a width
abbrev pub whole_of_number : Width → Number → Result Scalar SerdeError
whole_of_number width n =
    if is_in_width width (integer_of_number n) then Ok (value.whole width (integer_of_number n))
    else Err (NumericCoercionOverflow (document_word (width_kind width)) (number_text n))

-- without the zeros at the front
abbrev pub without_zeros : List ℕ → List ℕ
without_zeros [] = []
without_zeros (b ∷ digits) = if b == 48 then without_zeros digits else b ∷ digits

-- the number of an exponent, 0 where there is none
abbrev pub exponent_value : List ℕ → ℤ
exponent_value [] = pos 0
exponent_value (mark ∷ text) = signed_digits_value 10 text

-- how many of the mantissa's digits behind its zeros stand before the point, once the exponent has moved it
abbrev pub whole_places : List ℕ → ℤ
whole_places text =
    let mantissa = mantissa_of text in
    let digits = before_first (λ b. b == 46) mantissa ++ after_first (λ b. b == 46) mantissa in
    pos (length (before_first (λ b. b == 46) mantissa)) +ℤ exponent_value (exponent_of text) +ℤ neg_ℤ (pos (length digits - length (without_zeros digits)))

-- the mantissa's digits behind its zeros
abbrev pub leading_digits : List ℕ → List ℕ
leading_digits text =
    let mantissa = mantissa_of text in
    without_zeros (before_first (λ b. b == 46) mantissa ++ after_first (λ b. b == 46) mantissa)

-- the number of this many digits, zeros behind them where there are fewer
abbrev pub first_digits : ℕ → List ℕ → ℕ
first_digits count digits = digits_value 10 (take count digits ++ replicate (count - length digits) 48)

-- the size of a decimal's integer part, none where it has more digits than a number of 128 bits
abbrev pub whole_size : List ℕ → Option ℕ
whole_size text =
    if length (leading_digits text) == 0 then Some 0
    else if int_le (whole_places text) (pos 0) then Some 0
    else if int_le (whole_places text) (pos 39) then Some (first_digits (unsigned_abs (whole_places text)) (leading_digits text))
    else None

abbrev pub is_negative : List ℕ → Bool
is_negative text = starts_with (λ a b. a == b) text (codes "-")

-- the integer part of a decimal within 128 bits, without leading zeros; zero has no sign
abbrev pub whole_text : Bool → ℕ → Option (List ℕ)
whole_text true n = if nat_le n (2 ^ 127) then Some (signed_decimal (neg_ℤ (pos n))) else None
whole_text false n = if nat_lt n (2 ^ 127) then Some (decimal n) else None

abbrev pub truncated : List ℕ → Result Scalar SerdeError
truncated text =
    then_try (ok_or (whole_size text) (Custom (codes "cannot coerce bigDecimal " ++ text ++ codes " to bigInteger: integer magnitude too large")))
    (λ n. then_give (ok_or (whole_text (is_negative text) n) (Custom (codes "cannot coerce bigDecimal " ++ text ++ codes " to bigInteger: integer magnitude too large"))) (λ t. value.big_integer t))

abbrev pub big_integer_of_text : List ℕ → Result Scalar SerdeError
big_integer_of_text text =
    if is_big_integer_in_range text then Ok (value.big_integer text)
    else if is_big_decimal_in_range text then truncated text
    else Err (InvalidInput (codes "cannot parse " ++ text ++ codes " as bigInteger"))

abbrev pub big_decimal_of_text : List ℕ → Result Scalar SerdeError
big_decimal_of_text text =
    if is_big_decimal_in_range text then Ok (value.big_decimal text) else Err (InvalidInput (codes "cannot parse " ++ text ++ codes " as bigDecimal"))

-- what the settings answer
abbrev pub or_document_refusal : {A : Type 0} → Result A DocumentError → (A → Scalar) → Result Scalar SerdeError
or_document_refusal (Ok x) f = Ok (f x)
or_document_refusal (Err e) f = Err (refusal_of_document e)

-- a document read as a scalar of the kind; by the node nothing is decided
abbrev pub scalar_of_document : ShapeType → Document → Result Scalar SerdeError
scalar_of_document kind.Document d = Ok (value.document d)
scalar_of_document kind.Boolean (doc.boolean b) = Ok (value.boolean b)
scalar_of_document kind.Byte (doc.number n) = whole_of_number byte n
scalar_of_document kind.Short (doc.number n) = whole_of_number short n
scalar_of_document kind.Integer (doc.number n) = whole_of_number integer n
scalar_of_document kind.Long (doc.number n) = whole_of_number long n
scalar_of_document kind.BigInteger (doc.number n) = Ok (value.big_integer (number_text n))
scalar_of_document kind.BigInteger (doc.string s) = big_integer_of_text s
scalar_of_document kind.BigDecimal (doc.number n) = Ok (value.big_decimal (number_text n))
scalar_of_document kind.BigDecimal (doc.string s) = big_decimal_of_text s
scalar_of_document kind.String (doc.string s) = Ok (value.text s)
scalar_of_document kind.Blob (doc.string s) = or_document_refusal (plain_blob s) (λ bytes. value.blob bytes)
scalar_of_document kind.Timestamp (doc.number n) = or_document_refusal (plain_number_timestamp n) (λ seconds. value.timestamp seconds)
scalar_of_document kind.Timestamp (doc.string s) = or_document_refusal (plain_text_timestamp s) (λ seconds. value.timestamp seconds)
scalar_of_document k d = Err (mismatch k d)
