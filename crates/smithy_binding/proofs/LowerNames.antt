-- A name in lower case is a token where the name is one.
use Rattle.smithy_binding.proofs.Common.{◌≡◌, refl, ap, sym, ◌∙◌, ℕ, suc, ◌≤◌, nat_lt, Bool, true, false, not, ◌&&◌, ◌==◌, List, [], ◌∷◌, length, arith, ltb-true, ltb-false, ne_eqb, list_all, str_to_ascii_lowercase, agree_below, agree_below_at, le-ltb, is_token, is_token_byte}
use Rattle.std.specs.Char.{to_ascii_lowercase}

agree : agree_below (λ b. is_token_byte (to_ascii_lowercase b)) is_token_byte 128 ≡ true
agree = refl

lower_above : (b : ℕ) → 128 ≤ b → to_ascii_lowercase b ≡ b
lower_above b h = let low : nat_lt b 65 ≡ false = le-ltb b 65 (omega (arith, h)) in let high : nat_lt b 91 ≡ false = le-ltb b 91 (omega (arith, h)) in rw (low, high) refl

is_token_byte-lower : (b : ℕ) → is_token_byte (to_ascii_lowercase b) ≡ is_token_byte b
is_token_byte-lower b = go (nat_lt b 128) refl
  where
    go : (below : Bool) → nat_lt b 128 ≡ below → is_token_byte (to_ascii_lowercase b) ≡ is_token_byte b
    go true e = agree_below_at (λ b. is_token_byte (to_ascii_lowercase b)) is_token_byte 128 b agree (ltb-true b 128 e)
    go false e = ap is_token_byte (lower_above b (ltb-false b 128 e))

all-lower : (name : List ℕ) → list_all is_token_byte (str_to_ascii_lowercase name) ≡ list_all is_token_byte name
all-lower [] = refl
all-lower (b ∷ name) = λ i. is_token_byte-lower b i && all-lower name i

pub is_token-lower : (name : List ℕ) → is_token (str_to_ascii_lowercase name) ≡ is_token name
is_token-lower [] = refl
is_token-lower (b ∷ name) =
    let some : (suc (length (str_to_ascii_lowercase name)) == 0) ≡ (suc (length name) == 0) = more _ _ in
    λ i. not (some i) && all-lower (b ∷ name) i
  where
    more : (m n : ℕ) → (suc m == 0) ≡ (suc n == 0)
    more m n = none m ∙ sym (none n)
      where
        none : (m : ℕ) → (suc m == 0) ≡ false
        none m = ne_eqb (suc m) 0 (λ e. omega (arith, e))
