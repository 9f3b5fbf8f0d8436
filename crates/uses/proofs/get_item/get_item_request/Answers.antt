use Rattle.smithy_schema.specs.References.{schema_of}
use Rattle.smithy_serde.specs.StructValues.{members_of}
use Rattle.uses.proofs.AwsRequests.{get_item_answered}
use Rattle.uses.proofs.get_item.get_item_request.Goals as goal

pub returns : goal.returns
returns c =
    get_item_answered _ _ (schema_of c.args.schema) (members_of c.args.input) c.args.endpoint.now c.args.omit c.request.result c.service.ensures c.operation.ensures c.request.ensures
