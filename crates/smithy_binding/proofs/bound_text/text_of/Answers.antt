use Rattle.smithy_binding.proofs.Common.{sym, ◌∙◌, value_in}
use Rattle.smithy_strings.specs.Wire.{wire}
use Rattle.smithy_binding.proofs.Refusals.{IfErr-each}
use Rattle.smithy_binding.proofs.bound_text.text_of.Goals as goal

pub returns-clause-err : goal.returns-clause-err
returns-clause-err c =
    IfErr-each c.text_or_no_year.result _ _
    (λ t f e. (e.0, sym (λ i. wire (c.format_in.ensures i) (c.has_media_type.ensures i) c.args.place (value_in t c.args.value.now)) ∙ e.1)) c.text_or_no_year.ensures.err
