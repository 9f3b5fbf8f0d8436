use Rattle.uses.proofs.GatewayLemmas.{call_by_json, no_input_by_json}
use Rattle.uses.proofs.gateway.call_of.Goals as goal

pub returns-clause-call : goal.returns-clause-call
returns-clause-call c =
    call_by_json c.rest_json-rest.result c.aws_json-rpc.result c.args.table.now c.args.place c.args.endpoint.now c.args.omit c.args.request.now c.to_rpc.result c.rest_json-rest.ensures.content_type c.to_rpc.ensures.ok

pub returns-clause-none : goal.returns-clause-none
returns-clause-none c =
    no_input_by_json c.rest_json-rest.result c.aws_json-rpc.result c.args.table.now c.args.place c.args.endpoint.now c.args.omit c.args.request.now c.to_rpc.result c.rest_json-rest.ensures.content_type c.to_rpc.ensures.none
