use Rattle.std.proofs.Common.{◌≡◌, length}
use Rattle.smithy_http.specs.Facts.{values_of_name}
use Rattle.smithy_recovery.proofs.header_values.next_named.Given as goal

abbrev pub invariant-loop-own : goal.invariant-loop-own
invariant-loop-own l = values_of_name l.name l.headers ≡ values_of_name l.name l.initial.headers

abbrev pub decreases-loop-own : goal.decreases-loop-own
decreases-loop-own l = length l.headers
