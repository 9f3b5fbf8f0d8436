use Rattle.smithy_response.proofs.Common.{schema_of}
use Rattle.smithy_response.proofs.BoundBits.{next_by_bits}
use Rattle.smithy_response.proofs.bound_positions.next_bound.Goals as goal

pub returns-clause-next : goal.returns-clause-next
returns-clause-next c = next_by_bits (schema_of c.args.schema) c.response_routing-word.result c.args.from c.next_set.result c.response_routing-word.ensures.word c.if-word-ge-BEHIND.false c.next_set.ensures.next
