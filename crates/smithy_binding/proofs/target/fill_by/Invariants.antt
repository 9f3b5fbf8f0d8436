use Rattle.smithy_binding.proofs.Common.{◌≡◌, ◌++◌, string_bytes, then_give, filled_by, text_under}
use Rattle.smithy_binding.specs.views.LeftTemplates.{template_left, left_len}
use Rattle.smithy_binding.proofs.target.fill_by.Given as goal

-- what is left of the template is to be filled behind what was written
abbrev pub invariant-loop-hole : goal.invariant-loop-hole
invariant-loop-hole l = record {
  filled : then_give (filled_by (text_under l.texts) (template_left l.rest)) (λ t. string_bytes l.out ++ t) ≡ filled_by (text_under l.texts) (template_left l.template);
}

abbrev pub decreases-loop-hole : goal.decreases-loop-hole
decreases-loop-hole l = left_len l.rest
