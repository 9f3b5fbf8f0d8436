use Rattle.std.proofs.Common.{◌≡◌, drop}
use Rattle.smithy_types.specs.Results.{each}
use Rattle.smithy_schema.specs.Places.{places_of}
use Rattle.smithy_model.specs.Nodes.{index_named}
use Rattle.smithy_model.specs.views.NodeView.{spots_of}
use Rattle.smithy_model.specs.views.NameView.{texts}
use Rattle.smithy_model.proofs.Each.{and_rest}
use Rattle.smithy_model.proofs.table.indexes_named.Given as goal

abbrev pub invariant-loop-name : goal.invariant-loop-name
invariant-loop-name l =
    and_rest (places_of l.indexes.items) (each (index_named (spots_of l.spots)) (texts (drop l.name-index l.names))) ≡ each (index_named (spots_of l.spots)) (texts l.names)
