use Rattle.smithy_wire.proofs.SaidLemmas.{values_are_said, fields_are_said}
use Rattle.smithy_wire.proofs.laws.values_are_said.Goals as goal

pub returns-clause-value : goal.returns-clause-value
returns-clause-value c = values_are_said

pub returns-clause-fields : goal.returns-clause-fields
returns-clause-fields c = fields_are_said
