use Rattle.std.proofs.Common.{◌≡◌}
use Rattle.std.specs.List.{range_with_len}
use Rattle.smithy_schema.specs.Places.{places_of}
use Rattle.smithy_model.proofs.nodes.indexes_from.Given as goal

abbrev pub invariant-loop-position : goal.invariant-loop-position
invariant-loop-position l = places_of l.indexes.items ≡ range_with_len l.first l.position
