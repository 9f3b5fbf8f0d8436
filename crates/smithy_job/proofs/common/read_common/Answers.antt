use Rattle.std.proofs.Common.{refl, rules, sym}
use Rattle.smithy_json.specs.views.JsonView.{view}
use Rattle.smithy_job.proofs.CommonLemmas.{common-so, common-refused}
use Rattle.smithy_job.proofs.common.read_common.Goals as goal

pub returns-in_err-model-clause-value : goal.returns-in_err-model-clause-value
returns-in_err-model-clause-value c =
    common-refused (view c.args.job.now) c.in-Some.endpoint.now c.in-Some-omit_of.omit (sym c.in-Some.ensures) (sym c.in-Some-omit_of.ensures)
    c.in_err-model.field-0.0 c.from_residual.result (search rules) c.in_err-model.ensures

pub returns-clause-value : goal.returns-clause-value
returns-clause-value c =
    common-so (view c.args.job.now) c.in-Some.endpoint.now c.in-Some-omit_of.omit (sym c.in-Some.ensures) (sym c.in-Some-omit_of.ensures) _ refl refl refl c.in_ok-model.ensures
