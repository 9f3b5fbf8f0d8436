use Rattle.std.proofs.Common.{sym, ◌∙◌}
use Rattle.smithy_schema.specs.views.Stored.{table_stored}
use Rattle.smithy_schema.proofs.PlaceLemmas.{fault_here, fault_later}
use Rattle.smithy_schema.proofs.defining.first_fault.Goals as goal

pub returns-then-is_some : goal.returns-then-is_some
returns-then-is_some c =
    sym (c.loop-position.invariant ∙ fault_here (table_stored c.args.nodes.now) c.args.members.now c.loop-position.position c.position_fault-fault.result c.loop-position-test.true c.position_fault-fault.ensures (sym c.if-is_some.ensures))

pub loop-position-preserved : goal.loop-position-preserved
loop-position-preserved c =
    c.loop-position.invariant ∙ fault_later (table_stored c.args.nodes.now) c.args.members.now c.loop-position.position c.position_fault-fault.result c.loop-position-test.true c.position_fault-fault.ensures (sym c.if-is_some.ensures)
