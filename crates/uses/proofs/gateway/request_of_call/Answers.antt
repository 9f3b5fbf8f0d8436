use Rattle.uses.proofs.GatewayLemmas.{request_by_json, no_call_by_json}
use Rattle.uses.proofs.gateway.request_of_call.Goals as goal

pub returns-clause-request : goal.returns-clause-request
returns-clause-request c =
    request_by_json c.rest_json-rest.result c.aws_json-rpc.result c.args.table.now c.args.place c.args.endpoint.now c.args.omit c.args.call.now c.to_rest.result c.rest_json-rest.ensures.content_type c.to_rest.ensures.ok

pub returns-clause-none : goal.returns-clause-none
returns-clause-none c =
    no_call_by_json c.rest_json-rest.result c.aws_json-rpc.result c.args.table.now c.args.place c.args.endpoint.now c.args.omit c.args.call.now c.to_rest.result c.rest_json-rest.ensures.content_type c.to_rest.ensures.none
