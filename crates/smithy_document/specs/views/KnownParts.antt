-- The parts of an object whose names are members'.
use Rattle.std.specs.Prelude.{◌≡◌, ◌<◌, ◌≤◌, ◌-◌, ℕ, List, [], ◌∷◌, drop, length, slice_get, flat_map, Option, Some, None}
use Rattle.smithy_document.specs.Words.{Schema, known, IsMember}
use Rattle.smithy_serde.specs.Held as held
use Rattle.smithy_document.specs.OpenDocuments.{Part}

-- from a position on, the first part whose name is a member's is this member's, and stands before the position behind it
pub record IsNextKnown (node m : Schema) (ps : List Part) (from behind : ℕ) : Type 0 where
  pub part : Part
  pub there : slice_get ps (behind - 1) ≡ Some part
  pub later : from < behind
  pub within : behind ≤ length ps
  pub field : flat_map (known node) (drop from ps) ≡ (m, held.document part.1) ∷ flat_map (known node) (drop behind ps)
  pub is_member : IsMember node m

abbrev pub FindsKnown : Schema → List Part → ℕ → Option (ℕ × Schema) → Type 0
FindsKnown node ps from None = flat_map (known node) (drop from ps) ≡ []
FindsKnown node ps from (Some found) = IsNextKnown node found.1 ps from found.0
