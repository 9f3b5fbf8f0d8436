use Rattle.smithy_wire.proofs.Common.{◌≡◌, ◌*◌, ◌+◌, length, drop}
use Rattle.smithy_serde.specs.StoredValues.{value_in, writes_in, kept_writes, listed}
use Rattle.smithy_wire.specs.Misfits.{entry_misfit, field_misfit, item_misfit}
use Rattle.smithy_serde.specs.Nesting.{value_nesting, writes_nesting}
use Rattle.smithy_wire.specs.views.FormView.{form_view}
use Rattle.smithy_wire.proofs.MisfitWalks.{Left}
use Rattle.smithy_wire.proofs.misfit.+misfit.Given as goal

-- each group counts four times, so that its writes count between it and their values, and a member before its value

abbrev pub decreases-test_value : goal.decreases-test_value
decreases-test_value l = 4 * value_nesting (value_in l.table.now l.value.now)

abbrev pub decreases-test_named : goal.decreases-test_named
decreases-test_named l = 4 * value_nesting (value_in l.table.now l.value.now) + 1

abbrev pub decreases-test_field : goal.decreases-test_field
decreases-test_field l = 4 * value_nesting (value_in l.table.now l.value.now) + 2

abbrev pub decreases-test_items : goal.decreases-test_items
decreases-test_items l = 4 * writes_nesting (writes_in l.table.now l.items.now) + 3

abbrev pub decreases-test_entries : goal.decreases-test_entries
decreases-test_entries l = 4 * writes_nesting (writes_in l.table.now l.entries.now) + 3

abbrev pub decreases-test_fields : goal.decreases-test_fields
decreases-test_fields l = 4 * writes_nesting (writes_in l.table.now l.fields.now) + 3

abbrev pub decreases-test_entries-entries : goal.decreases-test_entries-entries
decreases-test_entries-entries l = length l.parts

abbrev pub invariant-test_items-items : goal.invariant-test_items-items
invariant-test_items-items l =
    item_misfit (form_view l.form) l.position (listed l.table (drop l.position (kept_writes l.items))) ≡ item_misfit (form_view l.form) 0 (writes_in l.table l.items)

abbrev pub invariant-test_entries-entries : goal.invariant-test_entries-entries
invariant-test_entries-entries l =
    Left (entry_misfit (form_view l.form) (listed l.table l.parts)) (entry_misfit (form_view l.form) (writes_in l.table l.entries))
    (writes_nesting (listed l.table l.parts)) (writes_nesting (writes_in l.table l.entries))

abbrev pub invariant-test_fields-fields : goal.invariant-test_fields-fields
invariant-test_fields-fields l =
    Left (field_misfit (form_view l.form) (listed l.table l.node-iterator)) (field_misfit (form_view l.form) (writes_in l.table l.fields))
    (writes_nesting (listed l.table l.node-iterator)) (writes_nesting (writes_in l.table l.fields))
