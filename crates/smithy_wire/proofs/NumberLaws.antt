-- The decimal of a number is a number of JSON, and is read as it.
use Rattle.std.proofs.Common.{ne_eqb, get_or, eqb-true}
use Rattle.std.specs.Char.{digit_value}
use Rattle.std.specs.Str.Parse.{AllDigits}
use Rattle.std.proofs.lemmas.Fmt.{IsAscii-decimal, decimal_is_IsNumeral}
use Rattle.std.proofs.lemmas.Str.{IsUtf8-append, IsUtf8-from_ascii}
use Rattle.std.specs.Str.{IsUtf8}
use Rattle.json.proofs.Printed.Utf8.{IsUtf8-are_ascii}
use Rattle.std.specs.List.{list_all}
use Rattle.smithy_wire.proofs.Common.{◌≡◌, refl, ap, ℕ, suc, ◌^◌, ◌<◌, ◌==◌, arith, Bool, true, false, ◌||◌, List, [], ◌∷◌, length, Option, Some, None, option_and_then, decimal, pos, negsuc}
use Rattle.json.specs.Print.{IsNumber}
use Rattle.json.specs.Word.{after_number}
use Rattle.json.proofs.Printed.Decimals.{IsNumber-decimal}
use Rattle.serde_json.proofs.Numbers.{number_of-decimal, number_of-negative}
use Rattle.smithy_json.specs.FromData.{number_of_data}
use Rattle.smithy_serde.specs.DocumentReads.{number_text}
use Rattle.smithy_types.specs.BigNumbers.{is_digit}
use Rattle.smithy_types.specs.Documents as doc
use Rattle.smithy_types.specs.Documents.{Number}
use Rattle.smithy_document.proofs.SoundDocuments.{IsSoundNumber}
use Rattle.smithy_wire.specs.ExactNumbers.{is_below_zero, is_number, is_integer, parts_of, plain_number, whole_number, exact_number, floor_in, integer_number, decimal_number}
use Rattle.std.specs.Option.{option_or, option_map_or}

no_minus : (ds : List ℕ) → AllDigits 10 ds → 0 < length ds → get_or ds 0 0 ≡ 45 → ⊥
no_minus [] h some e = omega arith
no_minus (d ∷ ds) h some e = let digit : digit_value d < 10 = h.0 in let is : d ≡ 45 = e in grind arith

behind_minus : (ds : List ℕ) → AllDigits 10 ds → 0 < length ds → IsNumber ds → IsNumber (45 ∷ ds)
unfolding after_number
behind_minus [] h some is = absurd (omega arith)
behind_minus (d ∷ ds) h some is = rw (ne_eqb d 45 (no_minus (d ∷ ds) h some)) at is

-- a sound number's decimal is a number of JSON
pub decimal_is_number : (n : Number) → IsSoundNumber n → IsNumber (number_text n)
decimal_is_number (doc.positive n) h = IsNumber-decimal n h
decimal_is_number (doc.negative (pos n)) h = absurd h
decimal_is_number (doc.negative (negsuc n)) h =
    let fits : suc n < 2 ^ 64 = omega (arith, h) in
    let e = decimal_is_IsNumeral (suc n) fits in
    behind_minus (decimal (suc n)) e.0.1 e.0.0 (IsNumber-decimal (suc n) fits)

-- and is read as the number
pub decimal_is_plain : (n : Number) → IsSoundNumber n → plain_number (number_text n) ≡ Some n
decimal_is_plain (doc.positive n) h = ap (option_and_then number_of_data) (number_of-decimal n h)
decimal_is_plain (doc.negative (pos n)) h = absurd h
decimal_is_plain (doc.negative (negsuc n)) h = ap (option_and_then number_of_data) (number_of-negative n h)

pub decimal_is_whole : (n : Number) → IsSoundNumber n → whole_number (number_text n) ≡ Some n
decimal_is_whole n h = ap (λ o. option_or o (exact_number (number_text n))) (decimal_is_plain n h)

pub decimal_is_read : (floors : Bool) (n : Number) → IsSoundNumber n → integer_number floors (number_text n) ≡ Some n
decimal_is_read false n h = decimal_is_whole n h
decimal_is_read true n h = ap (λ o. option_or o (floor_in (is_below_zero (number_text n)) (parts_of (number_text n)))) (decimal_is_whole n h)

digit_is : (d : ℕ) → digit_value d < 10 → (is_digit d || (d == 45)) ≡ true
digit_is d h = grind arith

digits_are : (ds : List ℕ) → AllDigits 10 ds → list_all (λ b. is_digit b || (b == 45)) ds ≡ true
digits_are [] h = refl
digits_are (d ∷ ds) h = rw (digit_is d h.0) (digits_are ds h.1)

pub is_number-from : (text : List ℕ) → IsNumber text → is_number text ≡ true
is_number-from text h = rw h refl

pub is_number-means : (text : List ℕ) → is_number text ≡ true → IsNumber text
is_number-means text e = go (after_number text) e
  where
    go : (o : Option (List ℕ)) → option_map_or (λ rest. length rest == 0) o false ≡ true → o ≡ Some []
    go None e = absurd (cc e)
    go (Some []) e = refl
    go (Some (b ∷ rest)) e = let none : length (b ∷ rest) ≡ 0 = eqb-true (length (b ∷ rest)) 0 e in absurd (omega (arith, none))

decimal_digits : (n : Number) → IsSoundNumber n → list_all (λ b. is_digit b || (b == 45)) (number_text n) ≡ true
decimal_digits (doc.positive n) h = digits_are (decimal n) (decimal_is_IsNumeral n h).0.1
decimal_digits (doc.negative (pos n)) h = absurd h
decimal_digits (doc.negative (negsuc n)) h = digits_are (decimal (suc n)) (decimal_is_IsNumeral (suc n) (omega (arith, h))).0.1

pub decimal_is_integer : (n : Number) → IsSoundNumber n → is_integer (number_text n) ≡ true
decimal_is_integer n h = rw (is_number-from (number_text n) (decimal_is_number n h)) (decimal_digits n h)

pub decimal_is_decimal : (n : Number) → IsSoundNumber n → decimal_number (number_text n) ≡ Some n
decimal_is_decimal n h = rw (decimal_is_integer n h) (decimal_is_plain n h)

pub decimal_utf8 : (n : Number) → IsSoundNumber n → IsUtf8 (number_text n)
decimal_utf8 (doc.positive n) h = IsUtf8-from_ascii (decimal n) (IsAscii-decimal n h)
decimal_utf8 (doc.negative (pos n)) h = absurd h
decimal_utf8 (doc.negative (negsuc n)) h = IsUtf8-append (45 ∷ []) (decimal (suc n)) (IsUtf8-are_ascii (45 ∷ []) refl) (IsUtf8-from_ascii (decimal (suc n)) (IsAscii-decimal (suc n) (omega (arith, h))))
