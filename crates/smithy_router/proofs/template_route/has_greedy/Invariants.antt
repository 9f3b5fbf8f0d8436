use Rattle.smithy_router.proofs.Common.{◌≡◌, drop, map, part_seen, has_greedy}
use Rattle.smithy_router.proofs.template_route.has_greedy.Given as goal

abbrev pub invariant-loop-part : goal.invariant-loop-part
invariant-loop-part l = has_greedy (map part_seen (drop l.part-index l.parts)) ≡ has_greedy (map part_seen l.parts)
