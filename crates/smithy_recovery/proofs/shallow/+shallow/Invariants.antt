use Rattle.std.proofs.Common.{[], ◌*◌, ◌+◌}
use Rattle.smithy_schema.specs.Nodes.{Table}
use Rattle.smithy_serde.specs.StoredValues.{value_in, writes_in, listed}
use Rattle.smithy_recovery.specs.Shallow.{value_nesting, writes_nesting}
use Rattle.smithy_recovery.proofs.Nested.{Left}
use Rattle.smithy_recovery.proofs.shallow.+shallow.Given as goal

-- each group counts twice, so that its writes count between it and their values

abbrev pub decreases-is_shallow : goal.decreases-is_shallow
decreases-is_shallow l = 2 * value_nesting (value_in [] l.value.now)

abbrev pub decreases-are_shallow : goal.decreases-are_shallow
decreases-are_shallow l = 2 * writes_nesting (writes_in [] l.writes.now) + 1

abbrev pub invariant-are_shallow-parts : goal.invariant-are_shallow-parts
invariant-are_shallow-parts l = (t : Table) → Left l.levels (writes_nesting (listed t l.part-iterator)) (writes_nesting (writes_in t l.writes))
