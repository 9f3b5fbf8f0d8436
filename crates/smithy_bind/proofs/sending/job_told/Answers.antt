use Rattle.std.proofs.Common.{rules}
use Rattle.smithy_json.specs.JsonView.{view}
use Rattle.smithy_schema.specs.References.{schema_of}
use Rattle.smithy_serde.specs.StructValues.{members_of}
use Rattle.smithy_job.specs.Jobs.{job}
use Rattle.smithy_bind.specs.Outcome.{json_bodies, sent_by, sent_job}
use Rattle.smithy_bind.proofs.JobLemmas.{job_sent}
use Rattle.smithy_bind.proofs.sending.job_told.Goals as goal

pub returns : goal.returns
unfolding sent_job
returns g c =
    job_sent (sent_by c.args.sending (json_bodies (g.C.Codec.text c.args.codec))) (job (view c.args.value.now)) c.in_ok-table.field-0 (schema_of c.in-Some.schema) (members_of c.with_writes-input.result) c.input_told.result c.in_ok-table.ensures c.in-Some.ensures.node (search rules) c.input_told.ensures
