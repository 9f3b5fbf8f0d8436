-- A number in decimal may stand as a header's value.
use Rattle.smithy_binding.proofs.Common.{◌≡◌, refl, ◌∙◌, arith, ℕ, ◌+◌, ◌<◌, ◌≤◌, ◌^◌, ◌%◌, Bool, true, false, ◌&&◌, ◌||◌, ◌==◌, List, [], ◌∷◌, ◌++◌, decimal, nat_le, le-leb, list_all-append, is_header_value, is_header_value_byte}
use Rattle.std.specs.Int.{is_in_range}
use Rattle.std.proofs.lemmas.Fmt.{decimal_by_steps}

visible : (b : ℕ) → 48 ≤ b → b ≤ 57 → is_header_value_byte b ≡ true
visible b low high = go (b == 9) (nat_le 32 b) (nat_le b 126) (is_in_range 128 255 b) (le-leb 32 b (omega arith)) (le-leb b 126 (omega arith))
  where
    go : (w x y z : Bool) → x ≡ true → y ≡ true → (w || (x && y) || z) ≡ true
    go true x y z e f = refl
    go false x y z e f = rw (e, f) refl

pub legal_decimal : (n : ℕ) → n < 2 ^ 64 → is_header_value (decimal n) ≡ true
legal_decimal n h = decimal_by_steps (λ (m : ℕ) (ds : List ℕ). is_header_value ds ≡ true) one more n h
  where
    one : (m : ℕ) → m < 10 → is_header_value ((48 + m) ∷ []) ≡ true
    one m l = rw (visible (48 + m) (omega arith) (omega (arith, l))) refl

    more : (m : ℕ) (ds : List ℕ) → 10 ≤ m → is_header_value ds ≡ true → is_header_value (ds ++ ((48 + m % 10) ∷ [])) ≡ true
    more m ds l e = list_all-append is_header_value_byte ds ((48 + m % 10) ∷ []) ∙ rw (e, visible (48 + m % 10) (omega arith) (omega arith)) refl
