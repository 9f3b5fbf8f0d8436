use Rattle.smithy_router.proofs.Common.{◌≡◌, drop, map, part_seen, are_sound}
use Rattle.smithy_router.proofs.routable.are_sound.Given as goal

abbrev pub invariant-loop-i : goal.invariant-loop-i
invariant-loop-i l = are_sound (map part_seen (drop l.i l.parts)) ≡ are_sound (map part_seen l.parts)
