use Rattle.smithy_binding.proofs.Common.{◌≡◌, drop, holes_of, is_greedy_last, is_greedy_last_behind, behind_holes, literal_alone, template_shown}
use Rattle.smithy_binding.proofs.clear.is_greedy_last.Given as goal

abbrev pub invariant-loop-hole : goal.invariant-loop-hole
invariant-loop-hole l =
    is_greedy_last_behind l.is_greedy (holes_of (behind_holes (drop l.hole-index l.template.holes.items) (literal_alone l.template.last.now)))
    ≡ is_greedy_last (holes_of (template_shown l.template))
