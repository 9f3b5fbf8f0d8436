use Rattle.std.proofs.Common.{◌≡◌, refl, ap, ◌∙◌, Some}
use Rattle.smithy_schema.specs.Nodes.{Table, at_place}
use Rattle.smithy_schema.specs.References.{schema_of}
use Rattle.smithy_serde.specs.StoredValues.{writes_in}
use Rattle.smithy_serde.specs.StructValues.{members_of}
use Rattle.uses.specs.GetObject.{table, schema_at, input_node}
use Rattle.uses.proofs.GetObjectSchema.{model_answered}
use Rattle.uses.proofs.get_object.get_object_request.Goals as goal

pub returns : goal.returns
returns c =
    let is : Some (schema_of c.in-Some.schema) ≡ Some (schema_at input_node) = c.in-Some.ensures.node ∙ ap (λ (t : Table). at_place t 4) c.in-Ok.ensures in
    let same : schema_of c.in-Some.schema ≡ schema_at input_node = cc is in
    let writes : members_of c.with_writes-input.result ≡ writes_in table c.args.writes
    = c.with_writes-input.ensures.members ∙ ap (λ (t : Table). writes_in t c.args.writes) c.in-Ok.ensures in
    model_answered (schema_of c.in-Some.schema) (members_of c.with_writes-input.result) (writes_in table c.args.writes) _ c.rest_request.result same writes refl c.rest_request.ensures.answer
