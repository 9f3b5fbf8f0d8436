-- What std reads as a number of 64 bits, where no plus stands first.
use Rattle.std.proofs.Common.{◌≡◌, ◌≢◌, refl, sym, ap, ◌∙◌, ℕ, ◌^◌, Bool, true, false, not, cond, ◌&&◌, List, [], ◌∷◌, length, drop, get_or, codes, nat_eq, Some, None, Result, Ok, Err, ℤ, pos, neg_ℤ, FitsSigned, w64, arith, int_le, int_lt}
use Rattle.std.specs.List.{list_all, starts_with}
use Rattle.std.specs.Result.{result_ok}
use Rattle.std.specs.Cmp.Derive.{both_true}
use Rattle.std.specs.Str.Parse.{AllDigits, IsNumeral, ParsesSigned, starts_with_minus, without_leading_sign, signed_digits_value}
use Rattle.std.proofs.lemmas.Bool.{and_parts, ne_eqb, true_from_ne_false}
use Rattle.std.proofs.lemmas.Str.{digit_value_digit}
use Rattle.std.proofs.lemmas.Str.Parse.{digit_from_value, without_leading_plus_none}
use Rattle.jiff_core.proofs.SignedLemmas.{signed_arith}
use Rattle.smithy_types.specs.BigNumbers.{is_digit, are_digits}
use Rattle.smithy_types.specs.TimestampReading.{epoch_seconds_of}
use Rattle.smithy_types.proofs.Coefficients.{is_digit-in_range}
use Rattle.smithy_types.proofs.Readings.{within}

to_digits : (ds : List ℕ) → AllDigits 10 ds → list_all is_digit ds ≡ true
to_digits [] h = refl
to_digits (d ∷ ds) h = let r = digit_from_value d h.0 in both_true (within 48 57 d r.0 r.1) (to_digits ds h.1)

from_digits : (ds : List ℕ) → list_all is_digit ds ≡ true → AllDigits 10 ds
from_digits [] h = tt
from_digits (d ∷ ds) h =
    let parts = and_parts (is_digit d) (list_all is_digit ds) h in
    let value = digit_value_digit d (is_digit-in_range d parts.0) in
    let r = is_digit-in_range d parts.0 in
    (omega arith, from_digits ds parts.1)

to_numeral : (ds : List ℕ) → IsNumeral 10 ds → are_digits ds ≡ true
to_numeral ds h = both_true (ap not (ne_eqb (length ds) 0 (λ e. omega arith))) (to_digits ds h.1)

from_numeral : (ds : List ℕ) → are_digits ds ≡ true → IsNumeral 10 ds
from_numeral [] h = absurd (cc h)
from_numeral (d ∷ ds) h = (omega arith, from_digits (d ∷ ds) (and_parts _ _ h).1)

no_plus : (text : List ℕ) → starts_with nat_eq text (codes "+") ≡ false → get_or text 0 0 ≢ 43
no_plus [] h e = absurd (omega arith)
no_plus (b ∷ text) h e =
    let plus : starts_with nat_eq (43 ∷ text) (codes "+") ≡ true = refl in
    absurd (let same = ap (λ k. starts_with nat_eq (k ∷ text) (codes "+")) e in cc)

-- the digits behind a sign
digits_of : (text : List ℕ) → starts_with nat_eq text (codes "+") ≡ false → without_leading_sign text ≡ cond (starts_with_minus text) (drop 1 text) text
digits_of text h = ap (cond (starts_with_minus text) (drop 1 text)) (without_leading_plus_none text (no_plus text h))

in_range : (z : ℤ) → FitsSigned w64 z → (int_le (neg_ℤ (pos (2 ^ 63))) z ≡ true) × (int_lt z (pos (2 ^ 63)) ≡ true)
in_range z fits = (true_from_ne_false _ (λ e. omega (arith, signed_arith)), true_from_ne_false _ (λ e. omega (arith, signed_arith)))

fits_range : (z : ℤ) → int_le (neg_ℤ (pos (2 ^ 63))) z ≡ true → int_lt z (pos (2 ^ 63)) ≡ true → FitsSigned w64 z
fits_range z low high = omega (arith, signed_arith)

-- whether the text is of the form and its number fits
test : List ℕ → Bool
test text = are_digits (cond (starts_with_minus text) (drop 1 text) text) && int_le (neg_ℤ (pos (2 ^ 63))) (signed_digits_value 10 text) && int_lt (signed_digits_value 10 text) (pos (2 ^ 63))

to_test : (text : List ℕ) → starts_with nat_eq text (codes "+") ≡ false → IsNumeral 10 (without_leading_sign text) → FitsSigned w64 (signed_digits_value 10 text) → test text ≡ true
unfolding test
to_test text plus numeral fits =
    let range = in_range (signed_digits_value 10 text) fits in
    both_true (both_true (ap are_digits (sym (digits_of text plus)) ∙ to_numeral (without_leading_sign text) numeral) range.0) range.1

from_test : (text : List ℕ) → starts_with nat_eq text (codes "+") ≡ false → test text ≡ true → IsNumeral 10 (without_leading_sign text) × FitsSigned w64 (signed_digits_value 10 text)
unfolding test
from_test text plus h =
    let high = and_parts _ _ h in
    let low = and_parts _ _ high.0 in
    (from_numeral (without_leading_sign text) (ap are_digits (digits_of text plus) ∙ low.0), fits_range (signed_digits_value 10 text) low.1 high.1)

seconds_by_test : (text : List ℕ) → epoch_seconds_of text ≡ cond (test text) (Some (signed_digits_value 10 text)) None
unfolding test
seconds_by_test text = refl

pub read_seconds : {E : Type 0} (text : List ℕ) (r : Result ℤ E) → ParsesSigned w64 10 text r → starts_with nat_eq text (codes "+") ≡ false → result_ok r ≡ epoch_seconds_of text
read_seconds text (Ok z) h plus =
    ap Some h.1 ∙ sym (seconds_by_test text ∙ ap (λ b. cond b (Some (signed_digits_value 10 text)) None) (to_test text plus h.0.0 h.0.1))
read_seconds text (Err e) h plus = go (test text) refl ∙ sym (seconds_by_test text)
  where
    go : (b : Bool) → test text ≡ b → None ≡ cond b (Some (signed_digits_value 10 text)) None
    go true same = absurd (h (from_test text plus same))
    go false same = refl

-- what std reads, where it is a number that fits
pub parsed : (text : List ℕ) → starts_with nat_eq text (codes "+") ≡ false → (r : Result ℤ (Unit {0})) × ParsesSigned w64 10 text r
parsed text plus = go (test text) refl
  where
    go : (b : Bool) → test text ≡ b → (r : Result ℤ (Unit {0})) × ParsesSigned w64 10 text r
    go true same = (Ok (signed_digits_value 10 text), (from_test text plus same, refl))
    go false same = (Err tt, λ h. let other = to_test text plus h.0 h.1 in cc)
