use Rattle.smithy_binding.proofs.Common.{rules, ◌≡◌, refl, Some, IfErr, map, filled_fault, fill, TellsFault, label_pair}
use Rattle.smithy_binding.proofs.Fills.{filled-given}
use Rattle.smithy_binding.proofs.Refusals.{IfErr-then}
use Rattle.smithy_binding.specs.views.LeftTemplates.{template_left}
use Rattle.smithy_binding.proofs.target.whole_target.Goals as goal

pub returns-clause-ok : goal.returns-clause-ok
returns-clause-ok c = rw (← c.args.template.same, c.in_ok-target.ensures.ok, c.in_ok-push_query.ensures) refl

pub returns-in_err-target-clause-err : goal.returns-in_err-target-clause-err
returns-in_err-target-clause-err c =
    let filled = fill (template_left c.args.template.rest) (map label_pair c.args.labels.now) in
    let told : IfErr c.from_residual.result (λ e. TellsFault e (λ f. filled_fault filled ≡ Some f)) = search rules in
    IfErr-then c.from_residual.result _ _ (λ f e. rw (← c.args.template.same) (filled-given filled c.args.query.now f e)) told
