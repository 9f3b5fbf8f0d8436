use Rattle.smithy_binding.proofs.Common.{◌≡◌, filled_by, text_under}
use Rattle.std.specs.Result.{result_err}
use Rattle.smithy_binding.specs.views.LeftTemplates.{template_left, left_len}
use Rattle.smithy_binding.proofs.target.first_missing.Given as goal

-- what is left of the template lacks the same text
abbrev pub invariant-loop-hole : goal.invariant-loop-hole
invariant-loop-hole l = record {
  missing : result_err (filled_by (text_under l.texts) (template_left l.rest)) ≡ result_err (filled_by (text_under l.texts) (template_left l.template));
}

abbrev pub decreases-loop-hole : goal.decreases-loop-hole
decreases-loop-hole l = left_len l.rest
