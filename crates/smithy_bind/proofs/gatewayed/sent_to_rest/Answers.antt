use Rattle.smithy_bind.proofs.GatewayLemmas.{rest_by_json}
use Rattle.smithy_bind.proofs.gatewayed.sent_to_rest.Goals as goal

pub returns : goal.returns
returns c = λ s at.
    rest_by_json c.args.job.now.recovering.table c.args.job.now.recovering.index s _ c.args.job.now.recovering.endpoint.now c.args.job.now.recovering.omit c.args.job.now.recovering.request
    c.to_rest.result c.rest_json-rest.result c.aws_json-rpc.result c.rest_json-rest.ensures.content_type c.aws_json-rpc.ensures.content_type c.json_codec.ensures at c.in-Some.ensures.node c.requires.checked c.schema_is_well_made.ensures
    c.args.job.now.rpc_endpoint.now c.to_rest.ensures.ok c.to_rest.ensures.none
