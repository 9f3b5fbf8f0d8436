use Rattle.std.proofs.Common.{drop, option_map}
use Rattle.smithy_json.specs.views.JsonView.{items_view, members_view}
use Rattle.smithy_schema.specs.References.{schema_of}
use Rattle.smithy_job.specs.Values.{elements_in, entries_in, members_in}
use Rattle.smithy_job.specs.views.Tables.{Keeps, nodes_with}
use Rattle.smithy_job.proofs.ValueLemmas.{SoFar}
use Rattle.smithy_job.proofs.value.+value.Given as goal

abbrev pub invariant-elements_at-loop-item : goal.invariant-elements_at-loop-item
invariant-elements_at-loop-item l = record {
  kept : Keeps (nodes_with (nodes_with l.model.table.now l.model.earlier.now) l.fn.names.items) (nodes_with (nodes_with l.model.table.now l.model.earlier.now) l.names.items);
  so_far : SoFar (nodes_with (nodes_with l.model.table.now l.model.earlier.now) l.names.items) l.writes (elements_in l.model.floats (option_map schema_of l.element) (items_view (drop l.item-index l.items))) (elements_in l.model.floats (option_map schema_of l.element) (items_view l.items));
}

abbrev pub invariant-entries_at-loop-member : goal.invariant-entries_at-loop-member
invariant-entries_at-loop-member l = record {
  kept : Keeps (nodes_with (nodes_with l.model.table.now l.model.earlier.now) l.fn.names.items) (nodes_with (nodes_with l.model.table.now l.model.earlier.now) l.names.items);
  so_far : SoFar (nodes_with (nodes_with l.model.table.now l.model.earlier.now) l.names.items) l.writes (entries_in l.model.floats (option_map schema_of l.key) (option_map schema_of l.value) (members_view (drop l.member-index l.members))) (entries_in l.model.floats (option_map schema_of l.key) (option_map schema_of l.value) (members_view l.members));
}

abbrev pub invariant-members_at-loop-member : goal.invariant-members_at-loop-member
invariant-members_at-loop-member l = record {
  kept : Keeps (nodes_with (nodes_with l.model.table.now l.model.earlier.now) l.fn.names.items) (nodes_with (nodes_with l.model.table.now l.model.earlier.now) l.names.items);
  so_far : SoFar (nodes_with (nodes_with l.model.table.now l.model.earlier.now) l.names.items) l.writes (members_in l.model.floats (option_map schema_of l.here) (members_view (drop l.member-index l.members))) (members_in l.model.floats (option_map schema_of l.here) (members_view l.members));
}
