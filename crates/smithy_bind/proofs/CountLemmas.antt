-- The count that a word is.
use Rattle.std.proofs.Common.{◌≡◌, ◌≢◌, refl, sym, ap, ◌∙◌, ℕ, ◌<◌, ◌≤◌, Bool, true, false, not, cond, ◌&&◌, List, [], ◌∷◌, length, get_or, nat_le, nat_eq, Some, None, unwrap_or, Result, Ok, Err, arith}
use Rattle.std.specs.List.{list_all}
use Rattle.std.specs.Result.{result_ok}
use Rattle.std.specs.Cmp.Derive.{both_true}
use Rattle.std.specs.Str.Parse.{AllDigits, ParsesUnsigned, digits_value, without_leading_plus}
use Rattle.std.proofs.lemmas.Bool.{and_parts, ne_eqb, leb-true, le-leb}
use Rattle.std.proofs.lemmas.Str.{digit_value_digit}
use Rattle.std.proofs.lemmas.Str.Parse.{without_leading_plus_none}
use Rattle.smithy_types.specs.BigNumbers.{is_digit, are_digits}
use Rattle.smithy_types.proofs.Coefficients.{is_digit-in_range}
use Rattle.smithy_bind.specs.Commands.{count_of}

-- the word is a count
test : List ℕ → Bool
test word = are_digits word && nat_le (length word) 6 && nat_le (digits_value 10 word) 100000

by_test : (word : List ℕ) → count_of word ≡ cond (test word) (Some (digits_value 10 word)) None
unfolding test count_of
by_test word = refl

pub record Passes (word : List ℕ) : Type 0 where
  pub some : 0 < length word
  pub digits : list_all is_digit word ≡ true
  pub short : length word ≤ 6
  pub small : digits_value 10 word ≤ 100000

filled : (word : List ℕ) → not (nat_eq (length word) 0) ≡ true → 0 < length word
filled [] h = absurd (cc h)
filled (d ∷ ds) h = omega arith

passes : (word : List ℕ) → test word ≡ true → Passes word
unfolding test
passes word h =
    let small = and_parts (are_digits word && nat_le (length word) 6) (nat_le (digits_value 10 word) 100000) h in
    let short = and_parts (are_digits word) (nat_le (length word) 6) small.0 in
    let digits = and_parts (not (nat_eq (length word) 0)) (list_all is_digit word) short.0 in
    record { some = filled word digits.0; digits = digits.1; short = leb-true _ _ short.1; small = leb-true _ _ small.1 }

pub no_count : (word : List ℕ) → (Passes word → ⊥) → None ≡ count_of word
no_count word h = go (test word) refl ∙ sym (by_test word)
  where
    go : (b : Bool) → test word ≡ b → None ≡ cond b (Some (digits_value 10 word)) None
    go true same = absurd (h (passes word same))
    go false same = refl

all_digits : (ds : List ℕ) → list_all is_digit ds ≡ true → AllDigits 10 ds
all_digits [] h = tt
all_digits (d ∷ ds) h =
    let parts = and_parts (is_digit d) (list_all is_digit ds) h in
    let r = is_digit-in_range d parts.0 in
    let value = digit_value_digit d r in
    (omega arith, all_digits ds parts.1)

digit_first : (word : List ℕ) → list_all is_digit word ≡ true → get_or word 0 0 ≢ 43
digit_first [] h e = absurd (omega arith)
digit_first (d ∷ ds) h e =
    let r = is_digit-in_range d (and_parts (is_digit d) (list_all is_digit ds) h).0 in
    absurd (omega arith)

no_plus : (word : List ℕ) → list_all is_digit word ≡ true → without_leading_plus word ≡ word
no_plus word h = without_leading_plus_none word (digit_first word h)

pub too_long : (word : List ℕ) → 6 < length word → None ≡ count_of word
too_long word h = no_count word (λ p. let s = p.short in omega arith)

pub no_digits : (word : List ℕ) → list_all is_digit word ≡ false → None ≡ count_of word
no_digits word h = no_count word (λ p. let d = p.digits in cc)

pub unread : {E : Type 0} (word : List ℕ) (r : Result ℕ E) → list_all is_digit word ≡ true → ParsesUnsigned 32 10 word r → result_ok r ≡ None → None ≡ count_of word
unread word (Ok n) digits h none = absurd (cc none)
unread word (Err e) digits h none = no_count word (λ p. h (rw (no_plus word digits) ((p.some, all_digits word digits), (let s = p.small in omega arith))))

-- what std reads of digits
pub record Reads (word : List ℕ) (n : ℕ) : Type 0 where
  pub some : 0 < length word
  pub same : n ≡ digits_value 10 word

reads : {E : Type 0} (word : List ℕ) (r : Result ℕ E) (n : ℕ) → list_all is_digit word ≡ true → ParsesUnsigned 32 10 word r → result_ok r ≡ Some n → Reads word n
reads word (Err e) n digits h ok = absurd (cc ok)
reads word (Ok m) n digits h ok =
    let plain = no_plus word digits in
    record { some = rw plain at h.0.0.0; same = sym (ap (λ o. unwrap_or o 0) ok) ∙ h.1 ∙ ap (digits_value 10) plain }

pub too_large : {E : Type 0} (word : List ℕ) (r : Result ℕ E) (n : ℕ) → list_all is_digit word ≡ true → ParsesUnsigned 32 10 word r → result_ok r ≡ Some n → 100000 < n → None ≡ count_of word
too_large word r n digits h ok large =
    let same = (reads word r n digits h ok).same in
    no_count word (λ p. let s = p.small in omega arith)

pub counts : {E : Type 0} (word : List ℕ) (r : Result ℕ E) (n : ℕ) → list_all is_digit word ≡ true → length word ≤ 6 → ParsesUnsigned 32 10 word r → result_ok r ≡ Some n → n ≤ 100000 → Some n ≡ count_of word
unfolding test
counts word r n digits short h ok small =
    let read = reads word r n digits h ok in
    let same = read.same in
    let some = read.some in
    let is_some : are_digits word ≡ true = both_true (ap not (ne_eqb (length word) 0 (λ e. omega arith))) digits in
    let is_short : nat_le (length word) 6 ≡ true = le-leb _ _ short in
    let is_small : nat_le (digits_value 10 word) 100000 ≡ true = le-leb _ _ (let b = small in omega arith) in
    let passed : test word ≡ true = both_true (both_true is_some is_short) is_small in
    ap Some same ∙ sym (by_test word ∙ ap (λ b. cond b (Some (digits_value 10 word)) None) passed)
