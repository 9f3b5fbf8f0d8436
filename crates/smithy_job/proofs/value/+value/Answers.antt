use Rattle.std.proofs.Common.{◌≡◌, rules, true, false, option_map}
use Rattle.smithy_json.specs.views.JsonView.{view, items_view, members_view}
use Rattle.smithy_schema.specs.References.{schema_of}
use Rattle.smithy_serde.specs.Values.{list, map, structure, null, boolean}
use Rattle.smithy_job.specs.Values.{kind_of, is_document_kind, is_structure_kind, label_at, value_in, elements_in, entries_in, members_in}
use Rattle.smithy_job.proofs.TableLemmas.{keeps-all, keeps-both, any-label, label-kept}
use Rattle.smithy_job.proofs.ScalarLemmas.{null_is, boolean_is}
use Rattle.smithy_job.proofs.ValueLemmas.{so_far-start, so_far-end, value_more, entry_more, group_refused, next_refused, has_scalar, reads_scalar, has_list, has_map, has_structure}
use Rattle.smithy_job.proofs.CycleLemmas.{at_document, at_null, at_boolean, at_number, at_string, at_array, at_structure, at_map, next_element, no_element, next_entry, no_entry, next_member, no_member}
use Rattle.smithy_job.proofs.value.+value.Goals as goal

pub elements_at-loop-item-init : goal.elements_at-loop-item-init
elements_at-loop-item-init t c = record {
  kept = keeps-all _;
  so_far = so_far-start _ _ _ c.new-writes.ensures.writes c.new-writes.ensures.defined;
}

pub elements_at-returns-in_err-value-clause-writes :
    goal.elements_at-returns-in_err-value-clause-writes
elements_at-returns-in_err-value-clause-writes t c =
    next_refused _ _ _ _ (value_in c.args.model.floats (option_map schema_of c.args.element) (view c.item-item.result)) _ c.in_err-value.field-0.0 c.from_residual.result (search rules)
    (rw (next_element c.args.model.floats (option_map schema_of c.args.element) c.args.items.now c.loop-item.item-index c.item-item.result c.loop-item-test.true c.item-item.is) at c.loop-item.invariant.so_far)
    c.in_err-value.ensures.value

pub elements_at-loop-item-preserved : goal.elements_at-loop-item-preserved
elements_at-loop-item-preserved t c = record {
  kept = keeps-both _ _ _ c.loop-item.invariant.kept c.in_ok-value.ensures.kept;
  so_far =
      value_more _ _ c.loop-item.writes c.push.new.self c.index_of-index.result _ c.in_ok-value.value (value_in c.args.model.floats (option_map schema_of c.args.element) (view c.item-item.result)) _ _ c.in_ok-value.ensures.kept
      (any-label c.args.model.table.now c.args.model.earlier.now c.value_at.new.names.items c.index_of-index.result.0 (label_at (option_map schema_of c.args.element)) c.index_of-index.ensures) c.in_ok-value.ensures.value c.in_ok-push.ensures.ok c.in_ok-push.ensures.ok_defined
      (rw (next_element c.args.model.floats (option_map schema_of c.args.element) c.args.items.now c.loop-item.item-index c.item-item.result c.loop-item-test.true c.item-item.is) at c.loop-item.invariant.so_far);
}

pub elements_at-returns-clause-writes : goal.elements_at-returns-clause-writes
elements_at-returns-clause-writes t c = so_far-end _ _ _ _ (no_element _ _ _ _ c.loop-item-test.false) c.loop-item.invariant.so_far

pub entries_at-loop-member-init : goal.entries_at-loop-member-init
entries_at-loop-member-init t c = record {
  kept = keeps-all _;
  so_far = so_far-start _ _ _ c.new-writes.ensures.writes c.new-writes.ensures.defined;
}

pub entries_at-returns-in_err-found-clause-writes :
    goal.entries_at-returns-in_err-found-clause-writes
entries_at-returns-in_err-found-clause-writes t c =
    next_refused _ _ _ _ (value_in c.args.model.floats (option_map schema_of c.args.value) (view c.member-item.result.1)) _ c.in_err-found.field-0.0 c.from_residual.result (search rules)
    (rw (next_entry c.args.model.floats (option_map schema_of c.args.key) (option_map schema_of c.args.value) c.args.members.now c.loop-member.member-index c.member-item.result c.loop-member-test.true c.member-item.is) at c.loop-member.invariant.so_far)
    c.in_err-found.ensures.value

pub entries_at-loop-member-preserved : goal.entries_at-loop-member-preserved
entries_at-loop-member-preserved t c = record {
  kept = keeps-both _ _ _ c.loop-member.invariant.kept c.in_ok-found.ensures.kept;
  so_far =
      entry_more _ _ c.loop-member.writes c.push.new.self c.push-in-loop-member.new.self c.index_of-key_index.result c.index_of-value_index.result _ _ c.in_ok-text.text c.in_ok-found.found _
      (value_in c.args.model.floats (option_map schema_of c.args.value) (view c.member-item.result.1)) _ _ c.in_ok-found.ensures.kept
      (any-label c.args.model.table.now c.args.model.earlier.now c.value_at.new.names.items c.index_of-key_index.result.0 (label_at (option_map schema_of c.args.key)) c.index_of-key_index.ensures)
      (any-label c.args.model.table.now c.args.model.earlier.now c.value_at.new.names.items c.index_of-value_index.result.0 (label_at (option_map schema_of c.args.value)) c.index_of-value_index.ensures)
      (rw c.kind_of-key_kind.ensures at c.in_ok-text.ensures) c.in_ok-found.ensures.value
      c.in_ok-push.ensures.ok c.in_ok-push.ensures.ok_defined c.in_ok-push-2.ensures.ok c.in_ok-push-2.ensures.ok_defined
      (rw (next_entry c.args.model.floats (option_map schema_of c.args.key) (option_map schema_of c.args.value) c.args.members.now c.loop-member.member-index c.member-item.result c.loop-member-test.true c.member-item.is) at c.loop-member.invariant.so_far);
}

pub entries_at-returns-clause-writes : goal.entries_at-returns-clause-writes
entries_at-returns-clause-writes t c = so_far-end _ _ _ _ (no_entry _ _ _ _ _ c.loop-member-test.false) c.loop-member.invariant.so_far

pub members_at-loop-member-init : goal.members_at-loop-member-init
members_at-loop-member-init t c = record {
  kept = keeps-all _;
  so_far = so_far-start _ _ _ c.new-writes.ensures.writes c.new-writes.ensures.defined;
}

pub members_at-returns-in_err-value-clause-writes :
    goal.members_at-returns-in_err-value-clause-writes
members_at-returns-in_err-value-clause-writes t c =
    next_refused _ _ _ _ (value_in c.args.model.floats (option_map schema_of c.member_at-node.result) (view c.member-item.result.1)) _ c.in_err-value.field-0.0 c.from_residual-in_err-value.result (search rules)
    (rw (next_member c.args.model.floats (option_map schema_of c.args.here) c.args.members.now c.loop-member.member-index c.member-item.result c.loop-member-test.true c.member-item.is, ← c.member_at-node.ensures) at c.loop-member.invariant.so_far)
    c.in_err-value.ensures.value

pub members_at-loop-member-preserved : goal.members_at-loop-member-preserved
members_at-loop-member-preserved t c =
    let kept = keeps-both _ _ _ c.in_ok-index.ensures.kept c.in_ok-value.ensures.kept in
    record {
      kept = keeps-both _ _ _ c.loop-member.invariant.kept kept;
      so_far =
          value_more _ _ c.loop-member.writes c.push.new.self c.in_ok-index.index _ c.in_ok-value.value (value_in c.args.model.floats (option_map schema_of c.member_at-node.result) (view c.member-item.result.1)) _ _ kept
          (label-kept _ _ _ _ c.in_ok-value.ensures.kept c.in_ok-index.ensures.index) c.in_ok-value.ensures.value c.in_ok-push.ensures.ok c.in_ok-push.ensures.ok_defined
          (rw (next_member c.args.model.floats (option_map schema_of c.args.here) c.args.members.now c.loop-member.member-index c.member-item.result c.loop-member-test.true c.member-item.is, ← c.member_at-node.ensures) at c.loop-member.invariant.so_far);
    }

pub members_at-returns-clause-writes : goal.members_at-returns-clause-writes
members_at-returns-clause-writes t c = so_far-end _ _ _ _ (no_member _ _ _ _ c.loop-member-test.false) c.loop-member.invariant.so_far

pub value_at-returns-then-is_document-clause-value :
    goal.value_at-returns-then-is_document-clause-value
value_at-returns-then-is_document-clause-value t c =
    let document : is_document_kind (kind_of (option_map schema_of c.args.here)) ≡ true = search rules in
    reads_scalar _ _ _ c.document_value.result (at_document c.args.model.floats _ (view c.args.value.now) document) c.document_value.ensures

pub value_at-returns-in_err-elements-in-Array-clause-value :
    goal.value_at-returns-in_err-elements-in-Array-clause-value
value_at-returns-in_err-elements-in-Array-clause-value t c =
    let no_document : is_document_kind (kind_of (option_map schema_of c.args.here)) ≡ false = search rules in
    group_refused _ list (elements_in c.args.model.floats (option_map schema_of c.element_of.result) (items_view c.as_slice.result.now)) _ c.in_err-elements-in-Array.field-0.0 c.from_residual-in_err-elements-in-Array.result (search rules)
    (rw (c.element_of.ensures, c.as_slice.ensures.value) (at_array c.args.model.floats _ c.args.value.now no_document c.in-Array.items c.in-Array.is)) c.in_err-elements-in-Array.ensures.writes

pub value_at-returns-in_err-members-in-Object-clause-value :
    goal.value_at-returns-in_err-members-in-Object-clause-value
value_at-returns-in_err-members-in-Object-clause-value t c =
    let no_document : is_document_kind (kind_of (option_map schema_of c.args.here)) ≡ false = search rules in
    let a_structure : is_structure_kind (kind_of (option_map schema_of c.args.here)) ≡ true = search rules in
    group_refused _ structure (members_in c.args.model.floats (option_map schema_of c.args.here) (members_view c.as_slice-then-is_structure.result.now)) _ c.in_err-members-in-Object.field-0.0 c.from_residual-in_err-members-in-Object.result (search rules)
    (rw c.as_slice-then-is_structure.ensures.value (at_structure c.args.model.floats _ c.args.value.now no_document c.in-Object.members c.in-Object.is a_structure)) c.in_err-members-in-Object.ensures.writes

pub value_at-returns-then-is_structure-clause-value :
    goal.value_at-returns-then-is_structure-clause-value
value_at-returns-then-is_structure-clause-value t c =
    let no_document : is_document_kind (kind_of (option_map schema_of c.args.here)) ≡ false = search rules in
    let a_structure : is_structure_kind (kind_of (option_map schema_of c.args.here)) ≡ true = search rules in
    has_structure _ _ _ _ (at_structure c.args.model.floats _ c.args.value.now no_document c.in-Object.members c.in-Object.is a_structure) (rw c.as_slice-then-is_structure.ensures.value at c.in_ok-members-in-Object.ensures.writes)

pub value_at-returns-in_err-entries-in-Object-clause-value :
    goal.value_at-returns-in_err-entries-in-Object-clause-value
value_at-returns-in_err-entries-in-Object-clause-value t c =
    let no_document : is_document_kind (kind_of (option_map schema_of c.args.here)) ≡ false = search rules in
    let no_structure : is_structure_kind (kind_of (option_map schema_of c.args.here)) ≡ false = search rules in
    group_refused _ map (entries_in c.args.model.floats (option_map schema_of c.key_of.result) (option_map schema_of c.value_of.result) (members_view c.as_slice-members.result.now)) _ c.in_err-entries-in-Object.field-0.0
    c.from_residual-in_err-entries-in-Object.result (search rules)
    (rw (c.key_of.ensures, c.value_of.ensures, c.as_slice-members.ensures.value) (at_map c.args.model.floats _ c.args.value.now no_document c.in-Object.members c.in-Object.is no_structure)) c.in_err-entries-in-Object.ensures.writes

pub value_at-returns-in-Null-clause-value : goal.value_at-returns-in-Null-clause-value
value_at-returns-in-Null-clause-value t c =
    let no_document : is_document_kind (kind_of (option_map schema_of c.args.here)) ≡ false = search rules in
    has_scalar _ _ null _ (at_null c.args.model.floats _ c.args.value.now no_document c.in-Null.is) null_is

pub value_at-returns-in-Bool-clause-value : goal.value_at-returns-in-Bool-clause-value
value_at-returns-in-Bool-clause-value t c =
    let no_document : is_document_kind (kind_of (option_map schema_of c.args.here)) ≡ false = search rules in
    has_scalar _ _ (boolean c.in-Bool.truth) _ (at_boolean c.args.model.floats _ c.args.value.now no_document c.in-Bool.truth c.in-Bool.is) (boolean_is c.in-Bool.truth)

pub value_at-returns-in-Number-clause-value : goal.value_at-returns-in-Number-clause-value
value_at-returns-in-Number-clause-value t c =
    let no_document : is_document_kind (kind_of (option_map schema_of c.args.here)) ≡ false = search rules in
    reads_scalar _ _ _ c.number_value.result (at_number c.args.model.floats _ c.args.value.now no_document c.in-Number.number c.in-Number.is) (rw c.kind_of-kind.ensures at c.number_value.ensures)

pub value_at-returns-in_ok-text_value-in-String-clause-value :
    goal.value_at-returns-in_ok-text_value-in-String-clause-value
value_at-returns-in_ok-text_value-in-String-clause-value t c =
    let no_document : is_document_kind (kind_of (option_map schema_of c.args.here)) ≡ false = search rules in
    has_scalar _ _ _ _ (at_string c.args.model.floats _ c.args.value.now no_document c.in-String.text c.in-String.is) (rw c.kind_of-kind.ensures at c.in_ok-text_value-in-String.ensures)

pub value_at-returns-in_ok-elements-in-Array-clause-value :
    goal.value_at-returns-in_ok-elements-in-Array-clause-value
value_at-returns-in_ok-elements-in-Array-clause-value t c =
    let no_document : is_document_kind (kind_of (option_map schema_of c.args.here)) ≡ false = search rules in
    has_list _ _ _ _ (at_array c.args.model.floats _ c.args.value.now no_document c.in-Array.items c.in-Array.is) (rw (c.element_of.ensures, c.as_slice.ensures.value) at c.in_ok-elements-in-Array.ensures.writes)

pub value_at-returns-in_ok-entries-in-Object-clause-value :
    goal.value_at-returns-in_ok-entries-in-Object-clause-value
value_at-returns-in_ok-entries-in-Object-clause-value t c =
    let no_document : is_document_kind (kind_of (option_map schema_of c.args.here)) ≡ false = search rules in
    let no_structure : is_structure_kind (kind_of (option_map schema_of c.args.here)) ≡ false = search rules in
    has_map _ _ _ _ (at_map c.args.model.floats _ c.args.value.now no_document c.in-Object.members c.in-Object.is no_structure) (rw (c.key_of.ensures, c.value_of.ensures, c.as_slice-members.ensures.value) at c.in_ok-entries-in-Object.ensures.writes)
