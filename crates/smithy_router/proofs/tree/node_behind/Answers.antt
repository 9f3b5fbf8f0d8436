use Rattle.smithy_router.proofs.Common.{map, segment_seen}
use Rattle.smithy_router.proofs.Growing.{grows_through, leads_at}
use Rattle.smithy_router.proofs.tree.node_behind.Goals as goal

pub returns-in_err-place-clause-grown : goal.returns-in_err-place-clause-grown
returns-in_err-place-clause-grown c = grows_through c.args.nodes.now.items c.loop-segment.nodes.items c.child_for.new.nodes.items c.loop-segment.invariant.grown c.child_for.ensures.grown

pub loop-segment-preserved : goal.loop-segment-preserved
loop-segment-preserved c = record {
  grown = grows_through c.args.nodes.now.items c.loop-segment.nodes.items c.child_for.new.nodes.items c.loop-segment.invariant.grown c.child_for.ensures.grown;
  leads =
      leads_at c.loop-segment.nodes.items c.child_for.new.nodes.items c.args.start c.loop-segment.place c.in_ok-place.place (map segment_seen c.args.segments.now) c.args.segments.now c.loop-segment.segment-index
      c.segment-item.result c.loop-segment-test.true c.segment-item.is c.child_for.ensures.grown c.loop-segment.invariant.leads c.in_ok-place.ensures.child;
  within = c.in_ok-place.ensures.child.within;
}
