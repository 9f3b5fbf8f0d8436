use Rattle.std.proofs.Common.{◌≡◌, refl, ap, ◌∙◌, Some}
use Rattle.smithy_schema.specs.Nodes.{Table, at_place}
use Rattle.smithy_schema.specs.References.{schema_of}
use Rattle.smithy_serde.specs.StoredValues.{writes_in}
use Rattle.smithy_serde.specs.StructValues.{members_of}
use Rattle.uses.specs.UpdateConfiguration.{table, input, schema_at, input_node}
use Rattle.uses.proofs.AwsRequests.{update_answered}
use Rattle.uses.proofs.update_configuration.update_configuration_request.Goals as goal

pub returns : goal.returns
returns c =
    let is : Some (schema_of c.in-Some.schema) ≡ Some (schema_at input_node) = c.in-Some.ensures.node ∙ ap (λ (t : Table). at_place t 2) c.requires in
    let same : schema_of c.in-Some.schema ≡ schema_at input_node = cc is in
    let writes : members_of c.with_writes-input.result ≡ input c.args.id.now c.args.content.now
    = c.with_writes-input.ensures.members ∙ ap (λ (t : Table). writes_in t c.in_ok-writes.writes) c.requires ∙ c.in_ok-writes.ensures.writes in
    update_answered (schema_of c.in-Some.schema) (members_of c.with_writes-input.result) (input c.args.id.now c.args.content.now) _ c.aws_request.result same writes refl c.aws_request.ensures
