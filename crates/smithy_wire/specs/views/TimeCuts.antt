-- A text that is cut at its first point.
use Rattle.std.specs.Prelude.{◌≡◌, ◌==◌, ℕ, List, [], Option, Some, None}
use Rattle.std.specs.List.{before_first, after_first}
use Rattle.smithy_types.specs.Texts.{ascii}
use Rattle.smithy_wire.specs.Words.{Bor}

abbrev pub CutsAtPoint : List ℕ → Option (Bor (List ℕ) × Bor (List ℕ)) → Type 0
CutsAtPoint text None = after_first (λ b. b == ascii ".") text ≡ []
CutsAtPoint text (Some cut) = (cut.0.now ≡ before_first (λ b. b == ascii ".") text) × (cut.1.now ≡ after_first (λ b. b == ascii ".") text)
