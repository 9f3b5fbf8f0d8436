use Rattle.smithy_response.proofs.Common.{schema_of}
use Rattle.smithy_response.proofs.BoundBits.{bound_behind, bound_own}
use Rattle.smithy_response.proofs.bound_positions.has_bound.Goals as goal

pub returns-then-word-ge-BEHIND : goal.returns-then-word-ge-BEHIND
returns-then-word-ge-BEHIND c = bound_behind (schema_of c.args.schema) c.response_routing-word.result c.response_routing-word.ensures.word c.if-word-ge-BEHIND.true

pub returns-else-word-ge-BEHIND : goal.returns-else-word-ge-BEHIND
returns-else-word-ge-BEHIND c = bound_own (schema_of c.args.schema) c.response_routing-word.result c.response_routing-word.ensures.word c.if-word-ge-BEHIND.false
