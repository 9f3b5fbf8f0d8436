-- Paths without a point at their start.
use Rattle.smithy_wire.proofs.Common.{◌≡◌, ◌≢◌, refl, sym, ap, ℕ, ◌==◌, Bool, true, false, if◌then◌else◌, List, [], ◌∷◌}
use Rattle.std.proofs.Common.{eqb-true}
use Rattle.smithy_wire.specs.WireText.{without_point}

pub point_off : (path rest : List ℕ) → path ≡ 46 ∷ rest → rest ≡ without_point path
point_off path rest is = sym (ap without_point is)

pub point_none : (path : List ℕ) → ((rest : List ℕ) → path ≢ 46 ∷ rest) → path ≡ without_point path
point_none [] none = refl
point_none (b ∷ path) none = go (b == 46) refl
  where
    go : (t : Bool) → (b == 46) ≡ t → b ∷ path ≡ (if t then path else b ∷ path)
    go true is = absurd (none path (ap (λ c. c ∷ path) (eqb-true b 46 is)))
    go false is = refl
