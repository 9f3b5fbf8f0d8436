use Rattle.smithy_router.proofs.Common.{◌<◌, drop, map, length, segment_seen, Grows, Leads}
use Rattle.smithy_router.proofs.tree.node_behind.Given as goal

abbrev pub invariant-loop-segment : goal.invariant-loop-segment
invariant-loop-segment l = record {
  grown : Grows l.fn.nodes.items l.nodes.items;
  leads : Leads l.nodes.items l.start (map segment_seen l.segments) l.place (map segment_seen (drop l.segment-index l.segments));
  within : l.place < length l.nodes.items;
}
