use Rattle.smithy_binding.proofs.Common.{ap, sym, ◌∙◌, IfOk-weaker, filled_fault, filled_by}
use Rattle.smithy_binding.proofs.Refusals.{IfErr-then}
use Rattle.smithy_binding.specs.views.LeftTemplates.{template_left}
use Rattle.smithy_binding.proofs.target.fill.Goals as goal

pub returns-clause-ok : goal.returns-clause-ok
returns-clause-ok c =
    let template = template_left c.args.template in
    let same = sym (ap (λ texts. filled_by texts template) c.in_ok-texts.ensures) in
    IfOk-weaker c.fill_by.result _ _ (λ t e. same ∙ e) c.fill_by.ensures.ok

pub returns-clause-err : goal.returns-clause-err
returns-clause-err c =
    let template = template_left c.args.template in
    let same = sym (ap (λ texts. filled_by texts template) c.in_ok-texts.ensures) in
    IfErr-then c.fill_by.result _ _ (λ f e. ap filled_fault same ∙ e) c.fill_by.ensures.err
