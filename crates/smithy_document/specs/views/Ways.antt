-- Ways into what has parts, a position at a time.
use Rattle.std.specs.Prelude.{ℕ, ◌-◌, ◌==◌, List, [], ◌∷◌, ◌++◌, Option, if◌then◌else◌}
use Rattle.smithy_document.specs.Words.{unwrap_or}

-- the part that was handed out last, d itself where none was
abbrev pub last_handed : {D : Type 0} → (ℕ → Option D) → ℕ → D → D
last_handed part next d = if next == 0 then d else unwrap_or (part (next - 1)) d

-- what is opened along a way, the innermost first
abbrev pub opened_on : {D P O : Type 0} → (D → P → D) → (D → P → O) → D → List P → List O
opened_on step opens d [] = []
opened_on step opens d (p ∷ ps) = opened_on step opens (step d p) ps ++ opens d p ∷ []
