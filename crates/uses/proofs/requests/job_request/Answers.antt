use Rattle.std.proofs.Common.{rules}
use Rattle.smithy_json.specs.JsonView.{view}
use Rattle.smithy_schema.specs.References.{schema_of}
use Rattle.smithy_serde.specs.StructValues.{members_of}
use Rattle.smithy_job.specs.Jobs.{job}
use Rattle.smithy_job.specs.JobView.{IsJob}
use Rattle.smithy_job.proofs.ValueLemmas.{refuses}
use Rattle.uses.specs.Answering.{AnswersJob}
use Rattle.uses.proofs.JobLemmas.{job_answered}
use Rattle.uses.proofs.requests.job_request.Goals as goal

pub returns-in_err-table : goal.returns-in_err-table
returns-in_err-table c =
    let o = job (view c.args.value.now) in
    refuses IsJob AnswersJob o o c.in_err-table.field-0.0 c.from_residual.result (search rules) (λ none. none) c.in_err-table.ensures

pub returns : goal.returns
returns c =
    job_answered AnswersJob (job (view c.args.value.now)) c.in_ok-table.field-0 (schema_of c.in-Some.schema) (members_of c.with_writes-input.result) c.rest_request.result
    c.in_ok-table.ensures c.in-Some.ensures.node (search rules) c.rest_request.ensures.answer
