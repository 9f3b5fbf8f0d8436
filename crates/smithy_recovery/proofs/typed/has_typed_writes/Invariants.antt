use Rattle.std.proofs.Common.{◌≡◌}
use Rattle.smithy_schema.specs.References.{schema_of}
use Rattle.smithy_serde.specs.StoredValues.{listed, writes_in, AreListedDefined}
use Rattle.smithy_serde.specs.Values.{list_of}
use Rattle.smithy_recovery.specs.views.KnownShapes.{AreKnown}
use Rattle.smithy_recovery.specs.TypedWrites.{has_typed_writes}
use Rattle.smithy_recovery.proofs.typed.has_typed_writes.Given as goal

abbrev pub invariant-loop-node : goal.invariant-loop-node
invariant-loop-node l =
    let schema = schema_of l.schema in
    record {
      same : has_typed_writes schema (list_of (listed l.table l.node-iterator)) ≡ has_typed_writes schema (list_of (writes_in l.table l.writes));
      defined : AreListedDefined l.table l.node-iterator;
      known : AreKnown l.table l.known;
    }
