-- A decimal as a whole number times a power of ten.
use Rattle.std.specs.Prelude.{ℕ, suc, ℤ, pos, negsuc, neg_ℤ, ◌-ℤ◌, ◌*◌, ◌/◌, ◌^◌, min, ◌==◌, codes, List, ◌++◌, length}
use Rattle.smithy_document.specs.Words.{after_first, mantissa_of, exponent_of, coefficient, exponent_value, SerdeError, Custom}

-- a number, 2^100 with its sign where it is further from zero
abbrev pub near : ℤ → ℤ
near (pos n) = pos (min n (2 ^ 100))
near (negsuc n) = neg_ℤ (pos (min (suc n) (2 ^ 100)))

-- how many digits stand behind the point
abbrev pub fraction_len : List ℕ → ℕ
fraction_len text = length (after_first (λ b. b == 46) (mantissa_of text))

-- the integer part of a number times ten to the power
abbrev pub scaled : ℕ → ℤ → ℕ
scaled number (pos n) = number * 10 ^ n
scaled number (negsuc n) = number / 10 ^ suc n

-- the size of a decimal's integer part
abbrev pub whole_part : List ℕ → ℕ
whole_part text = scaled (coefficient text) (exponent_value (exponent_of text) -ℤ pos (fraction_len text))

abbrev pub too_large : List ℕ → SerdeError
too_large text = Custom (codes "cannot coerce bigDecimal " ++ text ++ codes " to bigInteger: integer magnitude too large")
