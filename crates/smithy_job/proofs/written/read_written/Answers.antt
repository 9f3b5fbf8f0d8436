use Rattle.std.proofs.Common.{rules}
use Rattle.smithy_json.specs.views.JsonView.{view}
use Rattle.smithy_model.specs.views.ModelView.{asked_view}
use Rattle.smithy_job.proofs.WrittenLemmas.{written_refused}
use Rattle.smithy_job.proofs.written.read_written.Goals as goal

pub returns-in_err-model : goal.returns-in_err-model
returns-in_err-model c =
    written_refused c.args.floats (asked_view c.args.asked) c.args.key.now (view c.args.job.now) c.in_err-model.field-0.0 c.from_residual.result (search rules) c.in_err-model.ensures
