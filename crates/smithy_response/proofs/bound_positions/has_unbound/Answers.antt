use Rattle.smithy_response.proofs.Common.{schema_of}
use Rattle.smithy_response.proofs.BoundBits.{unbound_by_bit}
use Rattle.smithy_response.proofs.bound_positions.has_unbound.Goals as goal

pub returns : goal.returns
returns c = unbound_by_bit (schema_of c.args.schema) c.response_routing.result c.response_routing.ensures.in_place c.response_routing.ensures.word
