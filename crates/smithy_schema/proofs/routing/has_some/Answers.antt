use Rattle.std.proofs.Common.{sym, ◌∙◌}
use Rattle.smithy_schema.specs.views.Stored.{table_stored}
use Rattle.smithy_schema.proofs.RoutingLemmas.{some_here, some_later}
use Rattle.smithy_schema.proofs.routing.has_some.Goals as goal

pub returns-then-is_bound_at-bound : goal.returns-then-is_bound_at-bound
returns-then-is_bound_at-bound c =
    sym (c.loop-member.invariant ∙ some_here (table_stored c.args.nodes.now) c.args.members.now c.loop-member.member-index c.args.bound c.is_bound_at.result c.loop-member-test.true c.is_bound_at.ensures c.if-is_bound_at-bound.true)

pub loop-member-preserved : goal.loop-member-preserved
loop-member-preserved c =
    c.loop-member.invariant ∙ some_later (table_stored c.args.nodes.now) c.args.members.now c.loop-member.member-index c.args.bound c.is_bound_at.result c.loop-member-test.true c.is_bound_at.ensures c.if-is_bound_at-bound.false
