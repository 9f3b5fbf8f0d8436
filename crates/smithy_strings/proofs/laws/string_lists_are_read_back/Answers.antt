use Rattle.smithy_strings.proofs.ListReading.{lists_are_read_back}
use Rattle.smithy_strings.proofs.laws.string_lists_are_read_back.Goals as goal

pub returns : goal.returns
returns c = lists_are_read_back
