use Rattle.std.proofs.Common.{[], ◌*◌, ◌+◌}
use Rattle.smithy_schema.specs.Nodes.{Table}
use Rattle.smithy_serde.specs.StoredValues.{value_in, writes_in, listed}
use Rattle.smithy_recovery.specs.Shallow.{value_nesting, writes_nesting}
use Rattle.smithy_recovery.proofs.InRange.{WritesLeft}
use Rattle.smithy_recovery.proofs.ranges.+in_range.Given as goal

-- each group counts twice, so that its writes count between it and their values

abbrev pub decreases-is_in_range : goal.decreases-is_in_range
decreases-is_in_range l = 2 * value_nesting (value_in [] l.value.now)

abbrev pub decreases-are_in_range : goal.decreases-are_in_range
decreases-are_in_range l = 2 * writes_nesting (writes_in [] l.writes.now) + 1

abbrev pub invariant-are_in_range-parts : goal.invariant-are_in_range-parts
invariant-are_in_range-parts l = (t : Table) → WritesLeft (listed t l.part-iterator) (writes_in t l.writes)
