-- The numbers of JSON texts, without rounding (RFC 8259, section 6).
use Rattle.std.specs.Prelude.{ℕ, ◌+◌, ◌==◌, ◌||◌, ◌&&◌, Bool, false, List, length, drop, take, ◌++◌, slice_index, ℤ, Option, Some, None, option_and_then, if◌then◌else◌}
use Rattle.std.specs.Str.Parse.{digits_value}
use Rattle.fast_float.specs.Text.{Parts, scan, minus, point_at, whole_of, with_sign}
use Rattle.json.specs.Word.{after_number}
use Rattle.serde_json.specs.Read as core
use Rattle.smithy_json.specs.FromData.{number_of_data}
use Rattle.smithy_json.specs.Integers.{integer_of}
use Rattle.smithy_serde.specs.DocumentReads.{whole_text}
use Rattle.smithy_types.specs.BigNumbers.{is_digit}
use Rattle.smithy_types.specs.Texts.{ascii}
use Rattle.smithy_wire.specs.Words.{Number, number_of, is_number_in_range, list_all, option_map_or, option_or}

-- the text is a number of JSON
abbrev pub is_number : List ℕ → Bool
is_number text = option_map_or (λ rest. length rest == 0) (after_number text) false

-- one without a point and without an exponent
abbrev pub is_integer : List ℕ → Bool
is_integer text = is_number text && list_all (λ b. is_digit b || (b == ascii "-")) text

-- an integer of 64 bits, as compact JSON has it
abbrev pub plain_number : List ℕ → Option Number
plain_number text = option_and_then number_of_data (core.number_of text)

-- the same of the parts of a text behind a sign
abbrev pub plain_in : Bool → Parts → Option Number
plain_in is_negative p = option_and_then number_of_data (integer_of is_negative p)

abbrev pub is_below_zero : List ℕ → Bool
is_below_zero text = slice_index text 0 == minus

-- the digits with the place of the point
unfoldable pub parts_of : List ℕ → Parts
parts_of text = scan (if is_below_zero text then drop 1 text else text)

-- the number of the digits before a place, and of those behind it
abbrev pub value_before : ℕ → Parts → ℕ
value_before place p = digits_value 10 (take place (p.whole ++ p.fraction))

abbrev pub value_behind : ℕ → Parts → ℕ
value_behind place p = digits_value 10 (drop place (p.whole ++ p.fraction))

-- the digits behind the point, once the exponent has moved it, are worth nothing
abbrev pub is_whole : Parts → Bool
is_whole p = value_behind (point_at p) p == 0

abbrev pub if_in_range : ℤ → Option Number
if_in_range z = if is_number_in_range (number_of z) then Some (number_of z) else None

-- the number of these parts, where it is whole and within 64 bits
abbrev pub exact_in : Bool → Parts → Option Number
exact_in is_negative p = if is_whole p then if_in_range (with_sign is_negative (whole_of p)) else None

abbrev pub exact_number : List ℕ → Option Number
exact_number text = exact_in (is_below_zero text) (parts_of text)

-- the number where it is whole and within 64 bits, however it is spelled: `3.0`, `1.4E9`, and `-0` as 0
abbrev pub whole_number : List ℕ → Option Number
whole_number text = option_or (plain_number text) (exact_number text)

-- the integer next to a number of these parts, toward minus infinity, where it is within 64 bits
abbrev pub size_below : Parts → ℕ
size_below p = if is_whole p then whole_of p else whole_of p + 1

abbrev pub floor_in : Bool → Parts → Option Number
floor_in is_negative p = if_in_range (with_sign is_negative (if is_negative then size_below p else whole_of p))

-- the number, or its floor, within 64 bits: `1.5` as 1, `-0.5` as -1
abbrev pub floor_number : List ℕ → Option Number
floor_number text = option_or (whole_number text) (floor_in (is_below_zero text) (parts_of text))

-- the number, whose fraction is dropped or has to be worth nothing
abbrev pub integer_number : Bool → List ℕ → Option Number
integer_number floors text = if floors then floor_number text else whole_number text

-- the decimal of the number of these parts, where it is whole and within 128 bits
abbrev pub decimal_in : Bool → Parts → Option (List ℕ)
decimal_in is_negative p = if is_whole p then whole_text is_negative (whole_of p) else None

-- that of a number, however it is spelled
abbrev pub whole_decimal : List ℕ → Option (List ℕ)
whole_decimal text = decimal_in (is_below_zero text) (parts_of text)

-- the number whose decimal the text is
abbrev pub decimal_number : List ℕ → Option Number
decimal_number text = if is_integer text then plain_number text else None
