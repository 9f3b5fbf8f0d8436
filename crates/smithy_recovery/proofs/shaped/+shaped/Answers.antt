use Rattle.std.proofs.Common.{◌+◌, ◌*◌, ◌<◌, not, Some, ap, sym, subst, ◌∙◌, refl, arith, true}
use Rattle.smithy_schema.specs.References.{schema_of}
use Rattle.smithy_serde.specs.declared.scalar.Group.TheVariants as group
use Rattle.smithy_serde.specs.Shaped.{are_shaped, are_entries_shaped, are_fields_shaped}
use Rattle.smithy_serde.specs.StoredValues.{value_in, writes_in, listed, AreListedDefined}
use Rattle.smithy_recovery.specs.Shallow.{value_nesting, writes_nesting}
use Rattle.smithy_recovery.specs.views.ShapedParts.{are_parts_shaped}
use Rattle.smithy_recovery.proofs.FieldNames.{cited_table}
use Rattle.smithy_recovery.proofs.Shaping.{as_same, still_all, part_defined, part_ranges, part_below, still_more, test_more, test_past, test_end, part_is, no_part_is, key_shaped, value_shaped, field_known, field_unknown, inside_defined, inside_ranges, inside_below, list_unfit, list_without, list_with, map_unfit, map_without, map_with, structure_unfit, structure_with}
use Rattle.smithy_recovery.proofs.shaped.+shaped.Goals as goal

-- ---- a value

pub is_followed-returns-then-not-fits-clause-test : goal.is_followed-returns-then-not-fits-clause-test
is_followed-returns-then-not-fits-clause-test n c =
    let t = c.args.table.now in
    list_unfit t _ c.in-List.elements (schema_of c.args.node) c.requires.in_range c.in-List.is (sym (c.fits.ensures t) ∙ c.if-not-fits.true)

pub is_followed-are_elements_followed-requires : goal.is_followed-are_elements_followed-requires
is_followed-are_elements_followed-requires n c =
    let t = c.args.table.now in
    let is = c.in-List.is in
    let inside = inside_below t _ group.List c.in-List.elements is in
    let below : 3 * writes_nesting (writes_in t c.in-List.elements) + 2 < n = omega (arith, inside, c.decreases) in
    (below, (cited_table (schema_of c.args.node) (schema_of c.args.node).node.element (schema_of c.in-Some.element) c.in-Some.ensures ∙ c.requires.table, (inside_defined t _ group.List _ is c.requires.defined, (inside_ranges t _ group.List _ is c.requires.in_range, c.requires.known))))

pub is_followed-returns-in-Some-clause-test : goal.is_followed-returns-in-Some-clause-test
is_followed-returns-in-Some-clause-test n c =
    let t = c.args.table.now in
    let same = list_with t _ c.in-List.elements (schema_of c.args.node) c.requires.in_range c.in-List.is (sym (c.fits.ensures t) ∙ c.if-not-fits.false) _ c.in-Some.ensures in
    as_same c.are_elements_followed.result _ _ same c.are_elements_followed.ensures.test

pub is_followed-returns-in-None-clause-test : goal.is_followed-returns-in-None-clause-test
is_followed-returns-in-None-clause-test n c =
    let t = c.args.table.now in
    list_without t _ c.in-List.elements (schema_of c.args.node) c.requires.in_range c.in-List.is (sym (c.fits.ensures t) ∙ c.if-not-fits.false) c.in-None.ensures

pub is_followed-returns-then-not-branch-clause-test : goal.is_followed-returns-then-not-branch-clause-test
is_followed-returns-then-not-branch-clause-test n c =
    let t = c.args.table.now in
    map_unfit t _ c.in-Map.entries (schema_of c.args.node) c.requires.in_range c.in-Map.is (sym (c.in_ok-takes_map-in-Map.ensures t) ∙ c.if-not-branch.true)

pub is_followed-are_entries_followed-requires : goal.is_followed-are_entries_followed-requires
is_followed-are_entries_followed-requires n c =
    let t = c.args.table.now in
    let is = c.in-Map.is in
    let inside = inside_below t _ group.Map c.in-Map.entries is in
    let below : 3 * writes_nesting (writes_in t c.in-Map.entries) + 2 < n = omega (arith, inside, c.decreases) in
    (below, (cited_table (schema_of c.args.node) (schema_of c.args.node).node.value (schema_of c.in-Some-value.entry) c.in-Some-value.ensures ∙ c.requires.table, (inside_defined t _ group.Map _ is c.requires.defined, (inside_ranges t _ group.Map _ is c.requires.in_range, c.requires.known))))

pub is_followed-returns-in-Some-value-clause-test : goal.is_followed-returns-in-Some-value-clause-test
is_followed-returns-in-Some-value-clause-test n c =
    let t = c.args.table.now in
    let same = map_with t _ c.in-Map.entries (schema_of c.args.node) c.requires.in_range c.in-Map.is (sym (c.in_ok-takes_map-in-Map.ensures t) ∙ c.if-not-branch.false) _ c.in-Some-value.ensures in
    as_same c.are_entries_followed.result _ _ same c.are_entries_followed.ensures.test

pub is_followed-returns-in-None-value-clause-test : goal.is_followed-returns-in-None-value-clause-test
is_followed-returns-in-None-value-clause-test n c =
    let t = c.args.table.now in
    map_without t _ c.in-Map.entries (schema_of c.args.node) c.requires.in_range c.in-Map.is (sym (c.in_ok-takes_map-in-Map.ensures t) ∙ c.if-not-branch.false) c.in-None-value.ensures

pub is_followed-returns-then-not-branch-2-clause-test : goal.is_followed-returns-then-not-branch-2-clause-test
is_followed-returns-then-not-branch-2-clause-test n c =
    let t = c.args.table.now in
    structure_unfit t _ c.in-Struct.fields (schema_of c.args.node) c.requires.in_range c.in-Struct.is (sym c.in_ok-takes_structure-in-Struct.ensures.test ∙ c.if-not-branch-2.true)

pub is_followed-are_fields_followed-requires : goal.is_followed-are_fields_followed-requires
is_followed-are_fields_followed-requires n c =
    let t = c.args.table.now in
    let is = c.in-Struct.is in
    let inside = inside_below t _ group.Structure c.in-Struct.fields is in
    let below : 3 * writes_nesting (writes_in t c.in-Struct.fields) + 2 < n = omega (arith, inside, c.decreases) in
    (below, (c.requires.table, (inside_defined t _ group.Structure _ is c.requires.defined, (inside_ranges t _ group.Structure _ is c.requires.in_range, c.in_ok-takes_structure-in-Struct.ensures.known))))

pub is_followed-returns-else-not-branch-2-clause-test : goal.is_followed-returns-else-not-branch-2-clause-test
is_followed-returns-else-not-branch-2-clause-test n c =
    let t = c.args.table.now in
    let same = structure_with t _ c.in-Struct.fields (schema_of c.args.node) c.requires.in_range c.in-Struct.is (sym c.in_ok-takes_structure-in-Struct.ensures.test ∙ c.if-not-branch-2.false) in
    as_same c.are_fields_followed.result _ _ same c.are_fields_followed.ensures.test

-- ---- elements

pub are_elements_followed-parts-init : goal.are_elements_followed-parts-init
are_elements_followed-parts-init n c =
    let t = c.args.table.now in
    let gives = c.into_iter-part-iterator.ensures.into_iter_gives in
    let taken = ap (listed t) gives ∙ sym (c.iter-part-items.ensures.writes t) in
    let defined = subst (AreListedDefined t) (sym gives) (c.iter-part-items.ensures.defined t c.requires.defined) in
    record { still = still_all t _ _ taken defined c.requires.in_range; same = ap (are_shaped (Some (schema_of c.args.element))) taken; known = c.requires.known }

pub are_elements_followed-is_followed-requires : goal.are_elements_followed-is_followed-requires
are_elements_followed-is_followed-requires n c =
    let t = c.args.table.now in
    let first = c.in-Some.ensures.steps in
    let s = c.parts.invariant.still in
    let inside = part_below t _ _ _ _ first s in
    let below : 3 * value_nesting (value_in t c.in-Some.part.now) < n = omega (arith, inside, c.decreases) in
    (below, (c.requires.table, (part_defined t _ _ _ _ first s, (part_ranges t _ _ _ _ first s, c.parts.invariant.known))))

pub are_elements_followed-parts-preserved : goal.are_elements_followed-parts-preserved
are_elements_followed-parts-preserved n c =
    let t = c.args.table.now in
    let first = c.in-Some.ensures.steps in
    let s = c.parts.invariant.still in
    let f = are_shaped (Some (schema_of c.args.element)) in
    record {
      still = still_more t _ _ _ _ first s;
      same = test_more t _ _ _ _ first s f f _ _ c.parts.invariant.same refl (sym c.in_ok-is_followed.ensures.test ∙ c.if-not-branch.false);
      known = c.in_ok-is_followed.ensures.known;
    }

pub are_elements_followed-returns-then-not-branch-clause-test : goal.are_elements_followed-returns-then-not-branch-clause-test
are_elements_followed-returns-then-not-branch-clause-test n c =
    let t = c.args.table.now in
    let f = are_shaped (Some (schema_of c.args.element)) in
    test_past t _ _ _ _ c.in-Some.ensures.steps c.parts.invariant.still f f _ _ c.parts.invariant.same refl (sym c.in_ok-is_followed.ensures.test ∙ c.if-not-branch.true)

pub are_elements_followed-returns-clause-test : goal.are_elements_followed-returns-clause-test
are_elements_followed-returns-clause-test n c =
    test_end c.args.table.now _ (are_shaped (Some (schema_of c.args.element))) true _ c.in-None.ensures.steps.0 c.parts.invariant.same refl

-- ---- keys and values in turn

pub is_part_followed-returns-then-is_key-clause-test : goal.is_part_followed-returns-then-is_key-clause-test
is_part_followed-returns-then-is_key-clause-test n c =
    let t = c.args.table.now in
    c.fits.ensures t ∙ key_shaped c.args.is_key (Some (schema_of c.args.entry)) _ c.if-is_key.true c.requires.in_range

pub is_part_followed-is_followed-requires : goal.is_part_followed-is_followed-requires
is_part_followed-is_followed-requires n c =
    let below : 3 * value_nesting (value_in c.args.table.now c.args.part.now) < n = omega (arith, c.decreases) in
    (below, (c.requires.table, (c.requires.defined, (c.requires.in_range, c.requires.known))))

pub is_part_followed-returns-clause-test : goal.is_part_followed-returns-clause-test
is_part_followed-returns-clause-test n c =
    let same = value_shaped c.args.is_key (Some (schema_of c.args.entry)) (value_in c.args.table.now c.args.part.now) c.if-is_key.false in
    as_same c.is_followed.result _ _ same c.is_followed.ensures.test

pub are_entries_followed-parts-init : goal.are_entries_followed-parts-init
are_entries_followed-parts-init n c =
    let t = c.args.table.now in
    let gives = c.into_iter-part-iterator.ensures.into_iter_gives in
    let taken = ap (listed t) gives ∙ sym (c.iter-part-items.ensures.writes t) in
    let defined = subst (AreListedDefined t) (sym gives) (c.iter-part-items.ensures.defined t c.requires.defined) in
    record { still = still_all t _ _ taken defined c.requires.in_range; same = ap (are_entries_shaped (Some (schema_of c.args.entry))) taken; known = c.requires.known }

pub are_entries_followed-is_part_followed-requires : goal.are_entries_followed-is_part_followed-requires
are_entries_followed-is_part_followed-requires n c =
    let t = c.args.table.now in
    let first = c.in-Some.ensures.steps in
    let s = c.parts.invariant.still in
    let inside = part_below t _ _ _ _ first s in
    let below : 3 * value_nesting (value_in t c.in-Some.part.now) + 1 < n = omega (arith, inside, c.decreases) in
    (below, (c.requires.table, (part_defined t _ _ _ _ first s, (part_ranges t _ _ _ _ first s, c.parts.invariant.known))))

pub are_entries_followed-parts-preserved : goal.are_entries_followed-parts-preserved
are_entries_followed-parts-preserved n c =
    let t = c.args.table.now in
    let first = c.in-Some.ensures.steps in
    let s = c.parts.invariant.still in
    let k = c.parts.is_key in
    let entry = Some (schema_of c.args.entry) in
    record {
      still = still_more t _ _ _ _ first s;
      same = test_more t _ _ _ _ first s (are_parts_shaped k entry) (are_parts_shaped (not k) entry) _ _ c.parts.invariant.same (part_is k entry _ _ _) (sym c.in_ok-is_part_followed.ensures.test ∙ c.if-not-branch.false);
      known = c.in_ok-is_part_followed.ensures.known;
    }

pub are_entries_followed-returns-then-not-branch-clause-test : goal.are_entries_followed-returns-then-not-branch-clause-test
are_entries_followed-returns-then-not-branch-clause-test n c =
    let t = c.args.table.now in
    let k = c.parts.is_key in
    let entry = Some (schema_of c.args.entry) in
    test_past t _ _ _ _ c.in-Some.ensures.steps c.parts.invariant.still (are_parts_shaped k entry) (are_parts_shaped (not k) entry) _ _ c.parts.invariant.same (part_is k entry _ _ _) (sym c.in_ok-is_part_followed.ensures.test ∙ c.if-not-branch.true)

pub are_entries_followed-returns-clause-test : goal.are_entries_followed-returns-clause-test
are_entries_followed-returns-clause-test n c =
    let k = c.parts.is_key in
    let entry = Some (schema_of c.args.entry) in
    test_end c.args.table.now _ (are_parts_shaped k entry) k _ c.in-None.ensures.steps.0 c.parts.invariant.same (no_part_is k entry)

-- ---- the members of a structure

pub are_fields_followed-parts-init : goal.are_fields_followed-parts-init
are_fields_followed-parts-init n c =
    let t = c.args.table.now in
    let gives = c.into_iter-place-iterator.ensures.into_iter_gives in
    let taken = ap (listed t) gives ∙ sym (c.iter-place-items.ensures.writes t) in
    let defined = subst (AreListedDefined t) (sym gives) (c.iter-place-items.ensures.defined t c.requires.defined) in
    record { still = still_all t _ _ taken defined c.requires.in_range; same = ap (are_fields_shaped (Some (schema_of c.args.node))) taken; known = c.requires.known }

pub are_fields_followed-returns-in_default-clause-test : goal.are_fields_followed-returns-in_default-clause-test
are_fields_followed-returns-in_default-clause-test n c =
    let t = c.args.table.now in
    let f = are_fields_shaped (Some (schema_of c.args.node)) in
    test_past t _ _ _ _ c.in-Some.ensures.steps c.parts.invariant.still f f _ _ c.parts.invariant.same refl (field_unknown _ _ c.in_default.ensures.member)

pub are_fields_followed-is_followed-requires : goal.are_fields_followed-is_followed-requires
are_fields_followed-is_followed-requires n c =
    let t = c.args.table.now in
    let first = c.in-Some.ensures.steps in
    let s = c.parts.invariant.still in
    let inside = part_below t _ _ _ _ first s in
    let below : 3 * value_nesting (value_in t c.in-Some.part.now) < n = omega (arith, inside, c.decreases) in
    (below, (c.in-Some-member_of.ensures.table, (part_defined t _ _ _ _ first s, (part_ranges t _ _ _ _ first s, c.parts.invariant.known))))

pub are_fields_followed-parts-preserved : goal.are_fields_followed-parts-preserved
are_fields_followed-parts-preserved n c =
    let t = c.args.table.now in
    let first = c.in-Some.ensures.steps in
    let s = c.parts.invariant.still in
    let f = are_fields_shaped (Some (schema_of c.args.node)) in
    record {
      still = still_more t _ _ _ _ first s;
      same = test_more t _ _ _ _ first s f f _ _ c.parts.invariant.same refl (field_known _ _ _ c.in-Some-member_of.ensures.member ∙ sym c.in_ok-is_followed.ensures.test ∙ c.if-not-branch.false);
      known = c.in_ok-is_followed.ensures.known;
    }

pub are_fields_followed-returns-then-not-branch-clause-test : goal.are_fields_followed-returns-then-not-branch-clause-test
are_fields_followed-returns-then-not-branch-clause-test n c =
    let t = c.args.table.now in
    let f = are_fields_shaped (Some (schema_of c.args.node)) in
    test_past t _ _ _ _ c.in-Some.ensures.steps c.parts.invariant.still f f _ _ c.parts.invariant.same refl (field_known _ _ _ c.in-Some-member_of.ensures.member ∙ sym c.in_ok-is_followed.ensures.test ∙ c.if-not-branch.true)

pub are_fields_followed-returns-clause-test : goal.are_fields_followed-returns-clause-test
are_fields_followed-returns-clause-test n c =
    test_end c.args.table.now _ (are_fields_shaped (Some (schema_of c.args.node))) true _ c.in-None.ensures.steps.0 c.parts.invariant.same refl
