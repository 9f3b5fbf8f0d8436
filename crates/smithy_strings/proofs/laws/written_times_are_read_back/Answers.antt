use Rattle.smithy_strings.proofs.TimeLists.{times_are_read}
use Rattle.smithy_strings.proofs.laws.written_times_are_read_back.Goals as goal

pub returns : goal.returns
returns c = times_are_read
