use Rattle.smithy_wire.proofs.Common.{◌∙◌, ◌<◌, ◌*◌, ◌+◌, ap, arith, Err}
use Rattle.smithy_serde.specs.Values.{text_of_key}
use Rattle.smithy_serde.specs.StoredValues.{value_in, writes_in, kept_writes}
use Rattle.smithy_wire.specs.Misfits.{behind, item_misfit, misfit, wrong_name}
use Rattle.smithy_wire.specs.Forms.{part_form}
use Rattle.smithy_serde.specs.Nesting.{value_nesting, writes_nesting}
use Rattle.smithy_wire.specs.Unwire.{part_step}
use Rattle.smithy_wire.specs.Words.{option_or}
use Rattle.smithy_wire.specs.views.FormView.{form_view}
use Rattle.smithy_wire.proofs.MisfitWalks.{nothing_first, found_first, as_same, list_is, map_is, struct_is, list_inside, map_inside, struct_inside, null_is, scalar_is, scalar_text, entry_here, value_here, no_write, within_writes, past_writes, item_below, item_at, items_begin, items_end}
use Rattle.smithy_wire.proofs.misfit.+misfit.Goals as goal

-- ---- a value

pub test_value-returns-in-Null : goal.test_value-returns-in-Null
test_value-returns-in-Null n c = null_is (form_view c.args.form) c.args.table.now c.args.value.now c.in-Null.is

pub test_value-returns-in_err-test_kind-in-List : goal.test_value-returns-in_err-test_kind-in-List
test_value-returns-in_err-test_kind-in-List n c =
    let t = c.args.table.now in
    found_first _ _ _ c.in_err-test_kind-in-List.field-0.0 c.from_residual.result c.from_residual.ensures.1 (c.in_err-test_kind-in-List.ensures t) (list_is (form_view c.args.form) t c.args.value.now c.in-List.items c.in-List.is)

pub test_value-returns-in_ok-test_kind-in-List : goal.test_value-returns-in_ok-test_kind-in-List
test_value-returns-in_ok-test_kind-in-List n c =
    let t = c.args.table.now in
    let all = nothing_first _ _ _ (c.in_ok-test_kind-in-List.ensures t) (list_is (form_view c.args.form) t c.args.value.now c.in-List.items c.in-List.is) in
    as_same c.test_items.result _ _ (ap (λ g. item_misfit g 0 (writes_in t c.in-List.items)) c.element.ensures ∙ all) c.test_items.ensures

pub test_value-returns-in_err-test_kind-in-Map : goal.test_value-returns-in_err-test_kind-in-Map
test_value-returns-in_err-test_kind-in-Map n c =
    let t = c.args.table.now in
    found_first _ _ _ c.in_err-test_kind-in-Map.field-0.0 c.from_residual-in_err-test_kind-in-Map.result c.from_residual-in_err-test_kind-in-Map.ensures.1 (c.in_err-test_kind-in-Map.ensures t) (map_is (form_view c.args.form) t c.args.value.now c.in-Map.entries c.in-Map.is)

pub test_value-returns-in_ok-test_kind-in-Map : goal.test_value-returns-in_ok-test_kind-in-Map
test_value-returns-in_ok-test_kind-in-Map n c =
    let t = c.args.table.now in
    let all = nothing_first _ _ _ (c.in_ok-test_kind-in-Map.ensures t) (map_is (form_view c.args.form) t c.args.value.now c.in-Map.entries c.in-Map.is) in
    as_same c.test_entries.result _ _ all c.test_entries.ensures

pub test_value-returns-in_err-test_kind-in-Struct : goal.test_value-returns-in_err-test_kind-in-Struct
test_value-returns-in_err-test_kind-in-Struct n c =
    let t = c.args.table.now in
    found_first _ _ _ c.in_err-test_kind-in-Struct.field-0.0 c.from_residual-in_err-test_kind-in-Struct.result c.from_residual-in_err-test_kind-in-Struct.ensures.1 (c.in_err-test_kind-in-Struct.ensures t) (struct_is (form_view c.args.form) t c.args.value.now c.in-Struct.fields c.in-Struct.is)

pub test_value-returns-in_err-test_count-in-Struct : goal.test_value-returns-in_err-test_count-in-Struct
test_value-returns-in_err-test_count-in-Struct n c =
    let t = c.args.table.now in
    let all = nothing_first _ _ _ (c.in_ok-test_kind-in-Struct.ensures t) (struct_is (form_view c.args.form) t c.args.value.now c.in-Struct.fields c.in-Struct.is) in
    found_first _ _ _ c.in_err-test_count-in-Struct.field-0.0 c.from_residual-in_err-test_count-in-Struct.result c.from_residual-in_err-test_count-in-Struct.ensures.1 (c.in_err-test_count-in-Struct.ensures t) all

pub test_value-returns-in_ok-test_count-in-Struct : goal.test_value-returns-in_ok-test_count-in-Struct
test_value-returns-in_ok-test_count-in-Struct n c =
    let t = c.args.table.now in
    let all = nothing_first _ _ _ (c.in_ok-test_kind-in-Struct.ensures t) (struct_is (form_view c.args.form) t c.args.value.now c.in-Struct.fields c.in-Struct.is) in
    as_same c.test_fields.result _ _ (nothing_first _ _ _ (c.in_ok-test_count-in-Struct.ensures t) all) c.test_fields.ensures

pub test_value-returns-in_err-test_kind-in_default : goal.test_value-returns-in_err-test_kind-in_default
test_value-returns-in_err-test_kind-in_default n c =
    let t = c.args.table.now in
    let all = scalar_is (form_view c.args.form) t c.args.value.now c.in_default.not-Null c.in_default.not-List c.in_default.not-Map c.in_default.not-Struct in
    found_first _ _ _ c.in_err-test_kind-in_default.field-0.0 c.from_residual-in_err-test_kind-in_default.result c.from_residual-in_err-test_kind-in_default.ensures.1 (c.in_err-test_kind-in_default.ensures t) all

pub test_value-returns-in_ok-test_kind-in_default : goal.test_value-returns-in_ok-test_kind-in_default
test_value-returns-in_ok-test_kind-in_default n c =
    let t = c.args.table.now in
    let all = scalar_is (form_view c.args.form) t c.args.value.now c.in_default.not-Null c.in_default.not-List c.in_default.not-Map c.in_default.not-Struct in
    as_same c.test_text.result _ _ (nothing_first _ _ _ (c.in_ok-test_kind-in_default.ensures t) all)
    (scalar_text (form_view c.args.form) t c.args.value.now c.test_text.result c.in_default.not-List c.in_default.not-Map c.in_default.not-Struct (c.test_text.ensures t))

pub test_value-test_items-requires : goal.test_value-test_items-requires
test_value-test_items-requires n c =
    let t = c.args.table.now in
    let inside = list_inside (form_view c.args.form) t c.args.value.now c.in-List.items c.in-List.is in
    let below : 4 * writes_nesting (writes_in t c.in-List.items) + 3 < n = omega (arith, inside, c.decreases) in
    (below, tt)

pub test_value-test_entries-requires : goal.test_value-test_entries-requires
test_value-test_entries-requires n c =
    let t = c.args.table.now in
    let inside = map_inside (form_view c.args.form) t c.args.value.now c.in-Map.entries c.in-Map.is in
    let below : 4 * writes_nesting (writes_in t c.in-Map.entries) + 3 < n = omega (arith, inside, c.decreases) in
    (below, tt)

pub test_value-test_fields-requires : goal.test_value-test_fields-requires
test_value-test_fields-requires n c =
    let t = c.args.table.now in
    let inside = struct_inside (form_view c.args.form) t c.args.value.now c.in-Struct.fields c.in-Struct.is in
    let below : 4 * writes_nesting (writes_in t c.in-Struct.fields) + 3 < n = omega (arith, inside, c.decreases) in
    (below, tt)

-- ---- entries

pub test_entries-returns-in_err-within : goal.test_entries-returns-in_err-within
test_entries-returns-in_err-within n c =
    let t = c.args.table.now in
    let f = form_view c.args.form in
    let value = c.in-Some-next.value.now in
    let left = c.entries.invariant in
    let here = value_here t _ _ _ c.in-Some-next.ensures.steps f (text_of_key (value_in t c.in-Some.key.now)) _ (entry_here t _ _ _ c.in-Some.ensures.steps f _ left.same) in
    let named = ap (λ key. behind (part_step f key) (misfit (part_form f key) (value_in t value))) (c.key_text-name.ensures t) in
    let formed = ap (λ g. behind (part_step f c.key_text-name.result.now) (misfit g (value_in t value))) c.part.ensures in
    let stepped = ap (λ step. behind step (misfit (form_view c.part.result) (value_in t value))) c.part_step.ensures in
    found_first _ _ _ c.in_err-within.field-0.0 c.from_residual.result c.from_residual.ensures.1
    (as_same (Err c.in_err-within.field-0.0) _ _ (stepped ∙ formed ∙ named) (c.in_err-within.ensures (misfit (form_view c.part.result) (value_in t value)) c.test_value-tried.ensures)) here

-- ---- items

pub test_items-items-init : goal.test_items-items-init
test_items-items-init n c = items_begin c.args.table.now (form_view c.args.form) c.args.items.now

pub test_items-unreachable-requires : goal.test_items-unreachable-requires
test_items-unreachable-requires n c =
    let t = c.args.table.now in
    let ws = c.args.items.now in
    no_write (kept_writes ws) c.items.position (within_writes t ws _ (c.len-position-end.ensures t) _ c.items-test.true) c.in_default.ensures

pub test_items-test_value-tried-requires : goal.test_items-test_value-tried-requires
test_items-test_value-tried-requires n c =
    let t = c.args.table.now in
    let inside = item_below t c.args.items.now c.items.position c.in-Some.item.now c.in-Some.ensures in
    let below : 4 * value_nesting (value_in t c.in-Some.item.now) < n = omega (arith, inside, c.decreases) in
    (below, tt)

pub test_items-items-preserved : goal.test_items-items-preserved
test_items-items-preserved n c =
    let t = c.args.table.now in
    let f = form_view c.args.form in
    let here = item_at t f c.args.items.now c.items.position c.in-Some.item.now _ c.in-Some.ensures c.items.invariant in
    nothing_first _ _ _ (c.in_ok-within.ensures (misfit f (value_in t c.in-Some.item.now)) c.test_value-tried.ensures) here

pub test_items-returns-in_err-within : goal.test_items-returns-in_err-within
test_items-returns-in_err-within n c =
    let t = c.args.table.now in
    let f = form_view c.args.form in
    let here = item_at t f c.args.items.now c.items.position c.in-Some.item.now _ c.in-Some.ensures c.items.invariant in
    found_first _ _ _ c.in_err-within.field-0.0 c.from_residual.result c.from_residual.ensures.1 (c.in_err-within.ensures (misfit f (value_in t c.in-Some.item.now)) c.test_value-tried.ensures) here

pub test_items-returns : goal.test_items-returns
test_items-returns n c =
    let t = c.args.table.now in
    let ws = c.args.items.now in
    items_end t (form_view c.args.form) ws c.items.position _ (past_writes t ws _ (c.len-position-end.ensures t) _ c.items-test.false) c.items.invariant

-- ---- a member

pub test_field-returns : goal.test_field-returns
test_field-returns n c =
    let f = form_view c.args.form in
    let name = c.args.name.now in
    let found = option_or (wrong_name f name) (misfit (part_form f name) (value_in c.args.table.now c.args.value.now)) in
    as_same c.within.result _ _ (ap (λ step. behind step found) c.part_step.ensures) (c.within.ensures found c.test_named-tried.ensures)
