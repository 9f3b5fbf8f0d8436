use Rattle.smithy_response.proofs.Common.{◌≡◌, ◌-◌, length, list_any, schema_of, members_of, members_from}
use Rattle.smithy_response.proofs.bound_positions.has_payload.Given as goal

abbrev pub invariant-loop-position : goal.invariant-loop-position
invariant-loop-position l = list_any (λ m. m.node.traits.http_payload) (members_of (schema_of l.schema)) ≡ list_any (λ m. m.node.traits.http_payload) (members_from (schema_of l.schema) l.from)

abbrev pub decreases-loop-position : goal.decreases-loop-position
decreases-loop-position l = length (schema_of l.schema).node.members - l.from
