use Rattle.smithy_binding.proofs.Common.{◌≡◌, drop, are_whole_segments, are_whole_behind, behind_holes, literal_alone, template_shown}
use Rattle.smithy_binding.proofs.clear.are_whole_segments.Given as goal

abbrev pub invariant-loop-hole : goal.invariant-loop-hole
invariant-loop-hole l =
    are_whole_behind l.is_behind (behind_holes (drop l.hole-index l.template.holes.items) (literal_alone l.template.last.now))
    ≡ are_whole_segments (template_shown l.template).first (template_shown l.template).rest
