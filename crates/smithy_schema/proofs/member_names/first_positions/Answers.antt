use Rattle.smithy_schema.specs.views.Stored.{table_stored}
use Rattle.smithy_schema.proofs.NamedLemmas.{one_more_named}
use Rattle.smithy_schema.proofs.member_names.first_positions.Goals as goal

pub loop-position-preserved : goal.loop-position-preserved
loop-position-preserved c =
    one_more_named (table_stored c.args.nodes.now) c.args.members.now c.loop-position.position c.loop-position.positions c.add_member.new.positions _ c.loop-position-test.true c.name_at.ensures c.in_ok-add_member.ensures c.loop-position.invariant
