use Rattle.smithy_router.proofs.Common.{◌≡◌, drop, map, paths_stand, segment_seen}
use Rattle.smithy_router.proofs.path.stand.Given as goal

abbrev pub invariant-loop-i : goal.invariant-loop-i
invariant-loop-i l =
    paths_stand l.relation l.is_greedy (map segment_seen (drop l.i l.segments)) l.other_is_greedy (map segment_seen l.rest)
    ≡ paths_stand l.relation l.is_greedy (map segment_seen l.segments) l.other_is_greedy (map segment_seen l.others)
