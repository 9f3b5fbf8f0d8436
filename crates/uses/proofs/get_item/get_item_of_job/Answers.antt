use Rattle.std.proofs.Common.{rules, sym, subst}
use Rattle.smithy_json.specs.JsonView.{view}
use Rattle.smithy_schema.specs.References.{schema_of}
use Rattle.smithy_serde.specs.StructValues.{members_of}
use Rattle.smithy_binding.specs.Refusing.{Answers}
use Rattle.smithy_job.specs.Jobs.{job}
use Rattle.smithy_job.specs.JobView.{IsJob}
use Rattle.smithy_job.proofs.ValueLemmas.{refuses}
use Rattle.smithy_recovery.proofs.Joining.{writes_of-list_of}
use Rattle.uses.specs.GetItem.{get_item_request, AnswersGetItem}
use Rattle.uses.proofs.JobLemmas.{job_answered}
use Rattle.uses.proofs.get_item.get_item_of_job.Goals as goal

pub returns-in_err-table : goal.returns-in_err-table
returns-in_err-table c =
    let o = job (view c.args.value.now) in
    refuses IsJob AnswersGetItem o o c.in_err-table.field-0.0 c.from_residual.result (search rules) (λ none. none) c.in_err-table.ensures

pub returns : goal.returns
returns c =
    let schema = schema_of c.in-Some.schema in
    let ws = members_of c.with_writes-input.result in
    let told = subst (λ us. Answers c.get_item_request.result (get_item_request schema us c.in_ok-table.field-0.endpoint.now c.in_ok-table.field-0.omit)) (sym (writes_of-list_of ws)) c.get_item_request.ensures in
    job_answered AnswersGetItem (job (view c.args.value.now)) c.in_ok-table.field-0 schema ws c.get_item_request.result
    c.in_ok-table.ensures c.in-Some.ensures.node (search rules) told
