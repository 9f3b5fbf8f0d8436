use Rattle.std.proofs.Common.{◌≡◌, map}
use Rattle.std.specs.List.{range_with_len}
use Rattle.smithy_serde.specs.Values.{writes_of}
use Rattle.smithy_serde.specs.StoredValues.{writes_in, AreDefined}
use Rattle.smithy_bind.specs.Generating.{table, number_write}
use Rattle.smithy_bind.proofs.generated_writes.numbers.Given as goal

abbrev pub invariant-loop-place : goal.invariant-loop-place
invariant-loop-place l = record {
  writes : writes_in table l.writes ≡ writes_of (map (number_write l.count) (range_with_len 0 l.place));
  defined : AreDefined table l.writes;
}
