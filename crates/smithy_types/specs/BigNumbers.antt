-- The texts of big numbers, and their coefficients.
use Rattle.std.specs.Prelude.{ℕ, ◌+◌, ◌^◌, drop, nat_le, nat_lt, nat_eq, Bool, true, not, ◌&&◌, ◌||◌, ◌==◌, codes, List, [], ◌∷◌, ◌++◌, length, if◌then◌else◌}
use Rattle.std.specs.Int.{is_in_range}
use Rattle.std.specs.List.{list_all, starts_with, before_first, after_first, position_or_len}
use Rattle.std.specs.Str.Parse.{digits_value}
use Rattle.smithy_types.specs.Texts.{ascii}

abbrev pub is_digit : ℕ → Bool
is_digit b = is_in_range 48 57 b

abbrev pub is_sign : ℕ → Bool
is_sign b = (b == ascii "+") || (b == ascii "-")

-- without one sign at its start
abbrev pub unsigned : List ℕ → List ℕ
unsigned [] = []
unsigned (b ∷ text) = if is_sign b then text else b ∷ text

abbrev pub are_digits : List ℕ → Bool
are_digits text = not (length text == 0) && list_all is_digit text

-- an optional sign and digits: the text of a big integer
abbrev pub is_signed_digits : List ℕ → Bool
is_signed_digits text = are_digits (unsigned text)

abbrev pub is_exponent_mark : ℕ → Bool
is_exponent_mark b = (b == 101) || (b == 69)

-- nothing, or `e` or `E` and signed digits
abbrev pub is_exponent : List ℕ → Bool
is_exponent [] = true
is_exponent (mark ∷ text) = is_exponent_mark mark && is_signed_digits text

-- digits with an optional point in or behind them, or a point and digits
abbrev pub is_mantissa : List ℕ → Bool
is_mantissa text =
    let whole = before_first (λ b. b == ascii ".") text in
    let part = after_first (λ b. b == ascii ".") text in
    list_all is_digit whole && list_all is_digit part && not (length whole + length part == 0)

-- what stands behind the sign and before an exponent
abbrev pub mantissa_of : List ℕ → List ℕ
mantissa_of text = before_first is_exponent_mark (unsigned text)

-- and the exponent with its mark
abbrev pub exponent_of : List ℕ → List ℕ
exponent_of text = drop (position_or_len is_exponent_mark (unsigned text)) (unsigned text)

-- an optional sign, a mantissa and an exponent: the text of a big decimal
abbrev pub is_big_decimal : List ℕ → Bool
is_big_decimal text = is_mantissa (mantissa_of text) && is_exponent (exponent_of text)

-- the number of a mantissa's digits
abbrev pub coefficient_in : List ℕ → ℕ
coefficient_in mantissa = digits_value 10 (before_first (λ b. b == ascii ".") mantissa ++ after_first (λ b. b == ascii ".") mantissa)

abbrev pub coefficient : List ℕ → ℕ
coefficient text = coefficient_in (mantissa_of text)

-- the coefficient with the sign is within 128 bits
abbrev pub has_narrow_coefficient : List ℕ → Bool
has_narrow_coefficient text =
    if starts_with nat_eq text (codes "-") then nat_le (coefficient text) (2 ^ 127) else nat_lt (coefficient text) (2 ^ 127)

abbrev pub is_big_integer_in_range : List ℕ → Bool
is_big_integer_in_range text = is_signed_digits text && has_narrow_coefficient text

abbrev pub is_big_decimal_in_range : List ℕ → Bool
is_big_decimal_in_range text = is_big_decimal text && has_narrow_coefficient text
