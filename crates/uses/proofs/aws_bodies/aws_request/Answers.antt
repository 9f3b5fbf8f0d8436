use Rattle.smithy_schema.specs.References.{schema_of}
use Rattle.smithy_serde.specs.StructValues.{members_of}
use Rattle.smithy_aws.specs.Inputs.{input_of}
use Rattle.smithy_aws.specs.Requests.{rest_json1_request, taken_input}
use Rattle.uses.proofs.AwsRequests.{made, not_made}
use Rattle.uses.proofs.aws_bodies.aws_request.Goals as goal

pub returns-in-Some : goal.returns-in-Some
returns-in-Some c =
    made (taken_input (schema_of c.args.schema)) (λ s. rest_json1_request s (members_of c.args.input) c.args.endpoint.now c.args.omit)
    (input_of c.in-Some.by) c.request.result (rw c.in-Some.is at c.in_ok-by.ensures) c.request.ensures

pub returns-in-None : goal.returns-in-None
returns-in-None c =
    not_made (taken_input (schema_of c.args.schema)) (λ s. rest_json1_request s (members_of c.args.input) c.args.endpoint.now c.args.omit)
    c.unplaced.result (rw c.in-None.is at c.in_ok-by.ensures) c.unplaced.ensures
