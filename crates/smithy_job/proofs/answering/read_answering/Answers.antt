use Rattle.std.proofs.Common.{rules}
use Rattle.smithy_json.specs.views.JsonView.{view}
use Rattle.smithy_job.proofs.AnsweringLemmas.{answering-so, answering-refused}
use Rattle.smithy_job.proofs.answering.read_answering.Goals as goal

pub returns-in_err-output : goal.returns-in_err-output
returns-in_err-output c =
    answering-refused (view c.args.job.now) c.in_ok-code.code c.in_ok-code.ensures.value c.in_err-output.field-0.0 c.from_residual-in_err-output.result (search rules) c.in_err-output.ensures

pub returns : goal.returns
returns c = answering-so (view c.args.job.now) c.in_ok-code.code c.in_ok-code.ensures.value c.in_ok-output.output c.in_ok-code.ensures.digits c.in_ok-output.ensures
