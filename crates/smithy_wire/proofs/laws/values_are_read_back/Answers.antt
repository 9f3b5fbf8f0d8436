use Rattle.smithy_wire.proofs.ValueReads.{reads_value, reads_structure}
use Rattle.smithy_wire.proofs.laws.values_are_read_back.Goals as goal

pub returns-clause-value : goal.returns-clause-value
returns-clause-value c = reads_value

pub returns-clause-structure : goal.returns-clause-structure
returns-clause-structure c = reads_structure
