use Rattle.smithy_router.proofs.Common.{◌≡◌, ◌++◌, drop, map, part_seen, segment_seen, segments_in}
use Rattle.smithy_router.proofs.template_route.segments_in.Given as goal

abbrev pub invariant-loop-part : goal.invariant-loop-part
invariant-loop-part l =
    map segment_seen l.segments.items ++ segments_in (map part_seen (drop l.part-index l.parts)) ≡ segments_in (map part_seen l.parts)
