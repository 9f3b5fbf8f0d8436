-- Scalars at a node of a kind, or at none.
use Rattle.std.specs.Prelude.{ℕ, ℤ, List, Option, Some, option_map, if◌then◌else◌}
use Rattle.std.specs.Option.{option_map_or}
use Rattle.std.specs.Fmt.{signed_decimal}
use Rattle.base64.specs.Engines.{standard}
use Rattle.base64.specs.GeneralPurpose.{decoded_of}
use Rattle.serde_json.specs.Data.{Num}
use Rattle.serde_json.specs.Find.{as_integer}
use Rattle.smithy_types.specs.BigNumbers.{is_big_integer_in_range, is_big_decimal_in_range}
use Rattle.smithy_ids.specs.declared.shape_type.ShapeType.{ShapeType}
use Rattle.smithy_ids.specs.declared.shape_type.ShapeType.TheVariants as kind
use Rattle.smithy_model.specs.declared.floats.Floats.{Floats}
use Rattle.smithy_model.specs.declared.floats.Floats.TheVariants.{Kept, Decimals}
use Rattle.smithy_serde.specs.Ranges.{is_in_width}
use Rattle.smithy_serde.specs.Values.{Width, byte, short, integer, long, Scalar, whole, big_integer, big_decimal, text, blob, timestamp}

-- a number of this width, and a Long where it is out of its range
abbrev pub whole_within : Width → ℤ → Scalar
whole_within width z = if is_in_width width z then whole width z else whole long z

-- a number of 64 bits where a decimal stands: the text of its digits, where floats are read as decimals
abbrev pub whole_decimal : Floats → ℤ → Scalar
whole_decimal Kept z = whole long z
whole_decimal Decimals z = big_decimal (signed_decimal z)

-- a number of 64 bits: of the kind, and else a Long
abbrev pub whole_at : Floats → Option ShapeType → ℤ → Scalar
whole_at floats (Some kind.Byte) z = whole_within byte z
whole_at floats (Some kind.Short) z = whole_within short z
whole_at floats (Some kind.Integer) z = whole_within integer z
whole_at floats (Some kind.Timestamp) z = timestamp z
whole_at floats (Some kind.BigInteger) z = big_integer (signed_decimal z)
whole_at floats (Some kind.BigDecimal) z = whole_decimal floats z
whole_at floats _ z = whole long z

-- the digits of a number past 64 bits are those of a big one
abbrev pub large_decimal : Floats → List ℕ → Scalar
large_decimal Kept digits = big_integer digits
large_decimal Decimals digits = big_decimal digits

abbrev pub large_at : Floats → Option ShapeType → List ℕ → Scalar
large_at floats (Some kind.BigDecimal) digits = large_decimal floats digits
large_at floats _ digits = big_integer digits

abbrev pub integer_at : Floats → Option ShapeType → ℤ → Scalar
integer_at floats k z = if is_in_width long z then whole_at floats k z else large_at floats k (signed_decimal z)

-- none of a float
abbrev pub number_at : Floats → Option ShapeType → Num → Option Scalar
number_at floats k n = option_map (integer_at floats k) (as_integer n)

-- a text: of the kind where it has the kind's form, and else a String
abbrev pub text_at : Option ShapeType → List ℕ → Scalar
text_at (Some kind.Blob) t = option_map_or blob (decoded_of standard t) (text t)
text_at (Some kind.BigInteger) t = if is_big_integer_in_range t then big_integer t else text t
text_at (Some kind.BigDecimal) t = if is_big_decimal_in_range t then big_decimal t else text t
text_at _ t = text t
