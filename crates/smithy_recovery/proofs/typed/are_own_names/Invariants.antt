use Rattle.std.proofs.Common.{◌≡◌}
use Rattle.smithy_schema.specs.Nodes.{Table}
use Rattle.smithy_schema.specs.References.{schema_of}
use Rattle.smithy_serde.specs.StoredValues.{writes_in}
use Rattle.smithy_serde.specs.Values as value
use Rattle.smithy_recovery.specs.TypedWrites.{has_no_default}
use Rattle.smithy_recovery.proofs.TypedSteps.{own_names_from}
use Rattle.smithy_recovery.proofs.typed.are_own_names.Given as goal

abbrev pub invariant-loop-place : goal.invariant-loop-place
invariant-loop-place l =
    (t : Table) → own_names_from l.prefix (writes_in t l.entries) l.place ≡ has_no_default l.prefix (schema_of l.member) (value.map (writes_in t l.entries))
