use Rattle.smithy_types.proofs.ReadBack.{timestamps_read_back}
use Rattle.smithy_types.proofs.laws.timestamps_are_read_back.Goals as goal

pub returns : goal.returns
returns c = timestamps_read_back
