use Rattle.smithy_binding.proofs.Common.{◌≡◌, behind_holes}
use Rattle.smithy_binding.specs.views.LeftTemplates.{template_left, left_len}
use Rattle.smithy_binding.proofs.template.cut_rest.Given as goal

abbrev pub invariant-loop-hole : goal.invariant-loop-hole
invariant-loop-hole l = behind_holes l.holes.items (template_left l.rest) ≡ template_left l.template

abbrev pub decreases-loop-hole : goal.decreases-loop-hole
decreases-loop-hole l = left_len l.rest
