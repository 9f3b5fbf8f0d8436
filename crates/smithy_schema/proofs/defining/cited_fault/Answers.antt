use Rattle.std.proofs.Common.{rules}
use Rattle.smithy_schema.specs.Defining.{citing_fault}
use Rattle.smithy_schema.proofs.defining.cited_fault.Goals as goal

pub returns-then-not-cites_declared : goal.returns-then-not-cites_declared
unfolding citing_fault
returns-then-not-cites_declared c = search rules

pub returns : goal.returns
unfolding citing_fault
returns c = search rules
