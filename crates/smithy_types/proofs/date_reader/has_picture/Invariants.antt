use Rattle.std.proofs.Common.{◌≡◌, drop}
use Rattle.smithy_types.specs.TimestampReading.{has_picture}
use Rattle.smithy_types.proofs.date_reader.has_picture.Given as goal

abbrev pub invariant-loop-place : goal.invariant-loop-place
invariant-loop-place l = has_picture (drop l.place l.picture) (drop l.place l.text) ≡ has_picture l.picture l.text
