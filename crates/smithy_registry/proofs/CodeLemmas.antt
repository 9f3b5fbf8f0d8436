-- Texts cut at their first `;`.
use Rattle.std.proofs.Common.{◌≡◌, refl, ℕ, zero, suc, ◌+◌, Bool, true, false, ◌||◌, List, [], ◌∷◌, drop, Option, Some, None, option_map, Bor, arith, if◌then◌else◌}
use Rattle.std.specs.List.{list_any, position_or_len, before_first, after_first}
use Rattle.smithy_ids.specs.ShapeIds.{CutsAt, is_hash, has_hash}
use Rattle.smithy_registry.specs.ErrorCodes.{cut_at_semicolon, is_colon, past_hash, LacksColons}

-- what `split_once` gives at `;`
pub cut_shown : (text : List ℕ) (r : Option (Bor (List ℕ) × Bor (List ℕ))) → CutsAt 59 text r → option_map (λ p. (p.0.now, p.1.now)) r ≡ cut_at_semicolon text
cut_shown text None h = rw h refl
cut_shown text (Some p) h = rw (h.has, h.before, h.after) refl

module _ (p : ℕ → Bool) where
  -- no byte before the first that passes passes
  before_lacks : (xs : List ℕ) → list_any p (before_first p xs) ≡ false
  before_lacks [] = refl
  before_lacks (x ∷ xs) = go (p x) refl (before_lacks xs)
    where
      go : (b : Bool) → p x ≡ b → list_any p (before_first p xs) ≡ false → list_any p (before_first p (x ∷ xs)) ≡ false
      go true q rest = rw q refl
      go false q rest = let one : 1 + position_or_len p xs ≡ suc (position_or_len p xs) = omega arith in rw (q, one, q) rest

  drop_lacks : (n : ℕ) (xs : List ℕ) → list_any p xs ≡ false → list_any p (drop n xs) ≡ false
  drop_lacks zero xs h = h
  drop_lacks (suc n) [] h = refl
  drop_lacks (suc n) (x ∷ xs) h = drop_lacks n xs (go (p x) h)
    where
      go : (b : Bool) → (b || list_any p xs) ≡ false → list_any p xs ≡ false
      go true e = absurd (cc e)
      go false e = e

pub lacks_colons : LacksColons
lacks_colons code = go (before_first is_colon code) (before_lacks is_colon code)
  where
    go : (text : List ℕ) → list_any is_colon text ≡ false → list_any is_colon (past_hash text) ≡ false
    go text h = at (has_hash text)
      where
        at : (b : Bool) → list_any is_colon (if b then after_first is_hash text else text) ≡ false
        at true = drop_lacks is_colon (position_or_len is_hash text + 1) text h
        at false = h
