use Rattle.std.proofs.Common.{◌≡◌, ◌++◌, length}
use Rattle.smithy_schema.specs.Nodes.{Table}
use Rattle.smithy_serde.specs.StoredValues.{writes_in, listed}
use Rattle.smithy_serde.specs.Values.{keys_of}
use Rattle.smithy_recovery.proofs.FieldNames.{shown}
use Rattle.smithy_recovery.proofs.shaped.keys_of.Given as goal

-- the keys so far, and those of what is left
abbrev pub invariant-entries : goal.invariant-entries
invariant-entries l = (t : Table) → shown l.keys.items ++ keys_of (listed t l.parts) ≡ keys_of (writes_in t l.entries)

abbrev pub decreases-entries : goal.decreases-entries
decreases-entries l = length l.parts
