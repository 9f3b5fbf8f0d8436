-- Texts that stand in one buffer.
use Rattle.std.specs.Prelude.{⊤, ◌≤◌, ℕ, List, [], ◌∷◌, map, slice_range}
use Rattle.std.specs.Str.{IsCharBoundary}

-- where a text begins and ends
abbrev pub Cut : Type 0
Cut = ℕ × ℕ

-- the pieces of a text at these cuts
abbrev pub pieces : List ℕ → List Cut → List (List ℕ)
pieces bytes cuts = map (λ c. slice_range bytes c.0 c.1) cuts

-- a text may be cut at both ends of each of them
abbrev pub AreCuts : List ℕ → List Cut → Type 0
AreCuts bytes [] = ⊤
AreCuts bytes (c ∷ cuts) = (c.0 ≤ c.1) × IsCharBoundary bytes c.0 × IsCharBoundary bytes c.1 × AreCuts bytes cuts
