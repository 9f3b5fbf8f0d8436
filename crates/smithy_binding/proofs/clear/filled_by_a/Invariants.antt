use Rattle.smithy_binding.proofs.Common.{◌≡◌, ◌++◌, drop, string_bytes, filled_by_a, behind_holes, literal_alone, template_shown}
use Rattle.smithy_binding.proofs.clear.filled_by_a.Given as goal

abbrev pub invariant-loop-hole : goal.invariant-loop-hole
invariant-loop-hole l =
    string_bytes l.out ++ filled_by_a (behind_holes (drop l.hole-index l.template.holes.items) (literal_alone l.template.last.now)) ≡ filled_by_a (template_shown l.template)
