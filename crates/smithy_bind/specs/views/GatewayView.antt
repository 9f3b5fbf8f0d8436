-- The request that the code sends on.
use Rattle.std.specs.Prelude.{◌≡◌, Some, Result}
use Rattle.smithy_http.specs.Requests.{Request}
use Rattle.smithy_schema.specs.Nodes.{Schema, at_place}
use Rattle.smithy_recovery.specs.Finding.{Finds}
use Rattle.smithy_recovery.specs.declared.error.RecoverError.{RecoverError}
use Rattle.smithy_model.specs.declared.error.JobError.{JobError}
use Rattle.smithy_job.specs.declared.gateway.Gateway.{Gateway}
use Rattle.smithy_job.specs.declared.gateway.Sending.{Sending}
use Rattle.smithy_bind.specs.Gateway.{gatewayed_by, sent_on}
use Rattle.smithy_bind.specs.Outcome.{json_calls, json_reading}
use Rattle.smithy_bind.specs.declared.told.Answer.{Answer}
use Rattle.smithy_bind.specs.views.AnswerView.{Gives}

-- it is the request that a job's request is sent on as, by the schema in its table, or there is none
abbrev pub FindsSent : Sending → Gateway → Result Request RecoverError → Type 0
FindsSent to job result =
    (s : Schema) → at_place job.recovering.table job.recovering.index.0 ≡ Some s
    → Finds (λ x. x) result (sent_on to (json_reading s job.recovering.endpoint.now) json_calls job.recovering.omit job.rpc_endpoint.now job.recovering.request)

-- it is what is told of that request
abbrev pub TellsSent : Gateway → Result Answer JobError → Type 0
TellsSent job result =
    (s : Schema) → at_place job.recovering.table job.recovering.index.0 ≡ Some s
    → Gives (gatewayed_by job.to (json_reading s job.recovering.endpoint.now) json_calls job.recovering.omit job.rpc_endpoint.now job.recovering.request) result
