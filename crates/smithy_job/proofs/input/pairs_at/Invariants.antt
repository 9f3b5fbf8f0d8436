use Rattle.std.proofs.Common.{drop}
use Rattle.smithy_json.specs.views.JsonView.{items_view}
use Rattle.smithy_schema.specs.References.{schema_of}
use Rattle.smithy_job.specs.Inputs.{pairs_in}
use Rattle.smithy_job.specs.views.Tables.{Keeps, nodes_with}
use Rattle.smithy_job.proofs.ValueLemmas.{SoFar}
use Rattle.smithy_job.proofs.input.pairs_at.Given as goal

abbrev pub invariant-loop-item : goal.invariant-loop-item
invariant-loop-item l = record {
  kept : Keeps (nodes_with (nodes_with l.model.table.now l.model.earlier.now) l.fn.names.items) (nodes_with (nodes_with l.model.table.now l.model.earlier.now) l.names.items);
  so_far : SoFar (nodes_with (nodes_with l.model.table.now l.model.earlier.now) l.names.items) l.writes (pairs_in l.model.floats (schema_of l.schema) (items_view (drop l.item-index l.items))) (pairs_in l.model.floats (schema_of l.schema) (items_view l.items));
}
