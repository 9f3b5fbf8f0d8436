use Rattle.std.proofs.Common.{rules}
use Rattle.smithy_json.specs.JsonView.{view}
use Rattle.smithy_schema.specs.References.{schema_of}
use Rattle.smithy_serde.specs.StructValues.{members_of}
use Rattle.smithy_job.specs.Answering.{answering}
use Rattle.smithy_bind.specs.Outcome.{json_bodies, served_to}
use Rattle.smithy_bind.proofs.ServedLemmas.{output_served}
use Rattle.smithy_bind.proofs.served.served.Goals as goal

pub returns : goal.returns
unfolding served_to
returns g c =
    output_served (json_bodies (g.C.Codec.text c.args.codec)) (answering (view c.args.value.now)) c.in_ok-job.job (schema_of c.in-Some.schema) (members_of c.with_writes-output.result) c.output_told.result c.in_ok-job.ensures c.in-Some.ensures.node (search rules) c.output_told.ensures
