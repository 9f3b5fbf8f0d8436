use Rattle.smithy_router.proofs.Common.{segment_seen}
use Rattle.smithy_router.proofs.Growing.{child_there}
use Rattle.smithy_router.proofs.tree.child_for.Goals as goal

pub returns-in-Some-clause-child : goal.returns-in-Some-clause-child
returns-in-Some-clause-child c =
    child_there c.args.nodes.now.items c.args.place (segment_seen c.args.segment.now) c.index.result.now c.in-Some.child c.requires.place c.index.ensures c.in-Some.ensures c.requires.within
