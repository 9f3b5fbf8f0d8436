use Rattle.uses.proofs.WayBackLemmas.{input_by_json, none_by_json}
use Rattle.uses.proofs.recovering.input_of.Goals as goal

pub returns-clause-input : goal.returns-clause-input
returns-clause-input c =
    input_by_json c.rest_json-protocol.result c.args.endpoint.now c.args.omit c.args.request.now c.recover_request.result c.rest_json-protocol.ensures.content_type c.recover_request.ensures.ok

pub returns-clause-none : goal.returns-clause-none
returns-clause-none c =
    none_by_json c.rest_json-protocol.result c.args.endpoint.now c.args.omit c.args.request.now c.recover_request.result c.rest_json-protocol.ensures.content_type c.args.table.now c.args.place c.recover_request.ensures.not_placed
