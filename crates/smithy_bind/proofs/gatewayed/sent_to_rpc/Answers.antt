use Rattle.smithy_bind.proofs.GatewayLemmas.{rpc_by_json, target_is_legal}
use Rattle.smithy_bind.proofs.gatewayed.sent_to_rpc.Goals as goal

pub returns : goal.returns
returns c = λ s at.
    rpc_by_json c.args.job.now.recovering.table c.args.job.now.recovering.index s _ c.args.job.now.recovering.endpoint.now c.args.job.now.recovering.omit c.args.job.now.recovering.request
    c.to_rpc.result c.rest_json-rest.result c.aws_json-rpc.result c.rest_json-rest.ensures.content_type c.aws_json-rpc.ensures.content_type c.json_codec.ensures at c.in-Some.ensures.node c.requires.checked c.schema_is_well_made.ensures
    c.args.job.now.rpc_endpoint.now (target_is_legal c.args.job.now.rpc_endpoint.now c.requires.target) c.to_rpc.ensures.ok c.to_rpc.ensures.target c.to_rpc.ensures.headers c.to_rpc.ensures.none
