use Rattle.std.proofs.Common.{rules}
use Rattle.smithy_aws.specs.ErrorShapes.{error_in}
use Rattle.uses.specs.AwsAnswers.{body_value}
use Rattle.uses.proofs.AwsAnswering.{error_refused, error_told, not_found, output_refused, output_told}
use Rattle.uses.proofs.answers.body_answer.Goals as goal

pub returns-in_err-response_error : goal.returns-in_err-response_error
returns-in_err-response_error c =
    not_found (error_in c.args.errors c.args.response.now) (body_value c.args.output.now.table c.args.output.now.index.0 c.args.response.now) (λ error. body_value c.args.table.now error c.args.response.now)
    c.in_err-response_error.field-0.0 c.from_residual.result (search rules) c.in_err-response_error.ensures

pub returns-in_err-value-in-None : goal.returns-in_err-value-in-None
returns-in_err-value-in-None c =
    output_refused (error_in c.args.errors c.args.response.now) (body_value c.args.output.now.table c.args.output.now.index.0 c.args.response.now) (λ error. body_value c.args.table.now error c.args.response.now)
    (rw c.in-None.is at c.in_ok-response_error.ensures) c.in_err-value-in-None.field-0.0 c.from_residual-in_err-value-in-None.result (search rules) c.in_err-value-in-None.ensures

pub returns-in_ok-value-in-None : goal.returns-in_ok-value-in-None
returns-in_ok-value-in-None c =
    output_told (error_in c.args.errors c.args.response.now) (body_value c.args.output.now.table c.args.output.now.index.0 c.args.response.now) (λ error. body_value c.args.table.now error c.args.response.now)
    (rw c.in-None.is at c.in_ok-response_error.ensures) c.in_ok-value-in-None.value c.in_ok-value-in-None.ensures

pub returns-in_err-value-in-Some : goal.returns-in_err-value-in-Some
returns-in_err-value-in-Some c =
    error_refused (error_in c.args.errors c.args.response.now) (body_value c.args.output.now.table c.args.output.now.index.0 c.args.response.now) (λ error. body_value c.args.table.now error c.args.response.now)
    c.in-Some.error (rw c.in-Some.is at c.in_ok-response_error.ensures) c.in_err-value-in-Some.field-0.0 c.from_residual-in_err-value-in-Some.result (search rules) c.in_err-value-in-Some.ensures

pub returns-in_ok-value-in-Some : goal.returns-in_ok-value-in-Some
returns-in_ok-value-in-Some c =
    error_told (error_in c.args.errors c.args.response.now) (body_value c.args.output.now.table c.args.output.now.index.0 c.args.response.now) (λ error. body_value c.args.table.now error c.args.response.now)
    c.in-Some.error (rw c.in-Some.is at c.in_ok-response_error.ensures) c.in_ok-value-in-Some.value c.in_ok-value-in-Some.ensures
