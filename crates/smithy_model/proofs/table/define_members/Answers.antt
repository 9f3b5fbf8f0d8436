use Rattle.smithy_model.specs.views.SpotView.{spot_view}
use Rattle.smithy_model.specs.views.NodeView.{spots_of}
use Rattle.smithy_model.proofs.NodeLemmas.{member-more}
use Rattle.smithy_model.proofs.table.define_members.Goals as goal

pub loop-position-preserved : goal.loop-position-preserved
loop-position-preserved c =
    member-more (spots_of c.args.spots.now) c.args.shape.now c.args.first c.in_ok-index.index c.args.members.now c.loop-position.position c.index-members-position.result (spot_view c.in-Some.spot)
    c.args.table.now c.loop-position.table c.define_member.new.table _ c.loop-position-test.true c.index-members-position.is c.in-Some.ensures c.in_ok-index.ensures c.in_ok-define_member.ensures c.loop-position.invariant
