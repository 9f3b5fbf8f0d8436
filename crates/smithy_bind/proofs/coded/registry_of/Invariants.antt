use Rattle.std.proofs.Common.{List, drop}
use Rattle.smithy_schema.specs.Nodes.{Schema}
use Rattle.smithy_model.specs.PlacedView.{StandAt}
use Rattle.smithy_bind.proofs.CodedLemmas.{Registering}
use Rattle.smithy_bind.proofs.coded.registry_of.Given as goal

abbrev pub invariant-loop-place : goal.invariant-loop-place
invariant-loop-place l = (all : List Schema) → StandAt l.table l.places all → Registering l.table all (drop l.place-index l.places) l.builder
