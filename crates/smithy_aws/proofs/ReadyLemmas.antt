-- Which member a write is for.
use Rattle.std.proofs.Common.{◌≡◌, refl, ℕ, Option, Some, None, option_and_then, is_some}
use Rattle.std.specs.Bool.{then_some}
use Rattle.smithy_schema.specs.Nodes.{Schema, member_at}

-- the one at its position, where there is one
pub at_index : (s : Schema) (i : ℕ) → option_and_then (member_at s) (then_some (is_some (member_at s i)) i) ≡ member_at s i
at_index s i = go (member_at s i) refl
  where
    go : (o : Option Schema) → member_at s i ≡ o → option_and_then (member_at s) (then_some (is_some o) i) ≡ o
    go None at = refl
    go (Some m) at = at
