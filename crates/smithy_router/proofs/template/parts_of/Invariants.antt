use Rattle.smithy_router.proofs.Common.{◌≡◌, map, length, each, part_of, part_seen, parts_left}
use Rattle.smithy_router.proofs.TemplateLemmas.{in_front}
use Rattle.smithy_router.proofs.template.parts_of.Given as goal

abbrev pub invariant-loop-segment : goal.invariant-loop-segment
invariant-loop-segment l = in_front (map part_seen l.parts.items) (each part_of (parts_left 47 l.rest)) ≡ each part_of (parts_left 47 l.initial.rest)

abbrev pub decreases-loop-segment : goal.decreases-loop-segment
decreases-loop-segment l = length (parts_left 47 l.rest)
