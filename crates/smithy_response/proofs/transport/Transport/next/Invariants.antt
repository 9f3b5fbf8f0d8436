use Rattle.smithy_response.proofs.Common.{schema_of, places_left}
use Rattle.smithy_response.proofs.Passing.{Passing}
use Rattle.smithy_response.proofs.transport.Transport.next.Given as goal

abbrev pub invariant-loop-position : goal.invariant-loop-position
invariant-loop-position l = Passing (schema_of l.schema) l.is_given l.fn.self l.self

abbrev pub decreases-loop-position : goal.decreases-loop-position
decreases-loop-position l = places_left (schema_of l.schema) l.self
