use Rattle.smithy_binding.proofs.PlacingLaws.{IsSome-place}
use Rattle.smithy_binding.proofs.laws.conforming_is_placed.Goals as goal

pub returns : goal.returns
returns c = IsSome-place
