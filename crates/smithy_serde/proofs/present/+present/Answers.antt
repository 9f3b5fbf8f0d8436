use Rattle.std.proofs.Common.{rules, ◌≡◌, ◌∷◌, sym, ◌∙◌}
use Rattle.smithy_serde.specs.StoredValues.{kept_writes, writes_in}
use Rattle.smithy_serde.proofs.PresentLemmas.{list_present, map_present, struct_present, list_defined, map_defined, struct_defined, scalar_present, part_more, member_more, null_more, defined_more, defined_past, parts_begin, members_begin, defined_begin, parts_end, members_end, none_left}
use Rattle.smithy_serde.proofs.present.+present.Goals as goal

pub present-returns-in_ok-present_parts-in-List-clause-value : goal.present-returns-in_ok-present_parts-in-List-clause-value
present-returns-in_ok-present_parts-in-List-clause-value n c = λ t. list_present t _ _ _ c.in-List.is (c.in_ok-present_parts-in-List.ensures.writes t)

pub present-returns-in_ok-present_parts-in-List-clause-defined : goal.present-returns-in_ok-present_parts-in-List-clause-defined
present-returns-in_ok-present_parts-in-List-clause-defined n c = λ t. list_defined t _ _ _ c.in-List.is (c.in_ok-present_parts-in-List.ensures.defined t)

pub present-returns-in_ok-present_parts-in-Map-clause-value : goal.present-returns-in_ok-present_parts-in-Map-clause-value
present-returns-in_ok-present_parts-in-Map-clause-value n c = λ t. map_present t _ _ _ c.in-Map.is (c.in_ok-present_parts-in-Map.ensures.writes t)

pub present-returns-in_ok-present_parts-in-Map-clause-defined : goal.present-returns-in_ok-present_parts-in-Map-clause-defined
present-returns-in_ok-present_parts-in-Map-clause-defined n c = λ t. map_defined t _ _ _ c.in-Map.is (c.in_ok-present_parts-in-Map.ensures.defined t)

pub present-returns-in_ok-present_members-in-Struct-clause-value : goal.present-returns-in_ok-present_members-in-Struct-clause-value
present-returns-in_ok-present_members-in-Struct-clause-value n c = λ t. struct_present t _ _ _ c.in-Struct.is (c.in_ok-present_members-in-Struct.ensures.writes t)

pub present-returns-in_ok-present_members-in-Struct-clause-defined : goal.present-returns-in_ok-present_members-in-Struct-clause-defined
present-returns-in_ok-present_members-in-Struct-clause-defined n c = λ t. struct_defined t _ _ _ c.in-Struct.is (c.in_ok-present_members-in-Struct.ensures.defined t)

pub present-returns-in_default : goal.present-returns-in_default
present-returns-in_default n c = record { value = λ t. scalar_present t _ c.in_default.not-List c.in_default.not-Map c.in_default.not-Struct; defined = λ t d. d }

-- ---- items and entries

pub present_parts-parts-init : goal.present_parts-parts-init
present_parts-parts-init n c =
    let taken : c.into_iter-write-iterator.result.rest.items ≡ kept_writes c.args.parts = search rules in
    record { writes = λ t. parts_begin t _ _ _ (c.new-kept.ensures.writes t) taken; defined = defined_begin _ _ _ c.new-kept.ensures.defined taken }

pub present_parts-parts-preserved : goal.present_parts-parts-preserved
present_parts-parts-preserved n c =
    let first : c.parts.write-iterator.rest.items ≡ c.in-Some.write ∷ c.next.new.self.rest.items = search rules in
    record {
      writes = λ t. part_more t (writes_in t c.args.parts) c.in-Some.write _ _ _ _ _ first (c.in_ok-push.ensures.ok t) (c.in_ok-present.ensures.value t) (c.parts.invariant.writes t);
      defined = defined_more _ _ _ c.in-Some.write _ _ _ first c.in_ok-push.ensures.ok_defined c.in_ok-present.ensures.defined c.parts.invariant.defined;
    }

pub present_parts-returns-clause-writes : goal.present_parts-returns-clause-writes
present_parts-returns-clause-writes n c =
    let none = none_left _ (sym c.parts.write-iterator.rest.ok.0 ∙ c.in-None.ensures.steps.0) in
    λ t. parts_end t _ _ (writes_in t c.args.parts) none (c.parts.invariant.writes t)

-- ---- members

pub present_members-members-init : goal.present_members-members-init
present_members-members-init n c =
    let taken : c.into_iter-write-iterator.result.rest.items ≡ kept_writes c.args.members = search rules in
    record { writes = λ t. members_begin t _ _ _ (c.new-kept.ensures.writes t) taken; defined = defined_begin _ _ _ c.new-kept.ensures.defined taken }

pub present_members-members-preserved-in-Null : goal.present_members-members-preserved-in-Null
present_members-members-preserved-in-Null n c =
    let first : c.members.write-iterator.rest.items ≡ c.in-Some.write ∷ c.next.new.self.rest.items = search rules in
    record {
      writes = λ t. null_more t (writes_in t c.args.members) c.in-Some.write _ _ _ first c.in-Null.is (c.members.invariant.writes t);
      defined = defined_past _ _ c.in-Some.write _ _ first c.members.invariant.defined;
    }

pub present_members-members-preserved : goal.present_members-members-preserved
present_members-members-preserved n c =
    let first : c.members.write-iterator.rest.items ≡ c.in-Some.write ∷ c.next.new.self.rest.items = search rules in
    record {
      writes = λ t. member_more t (writes_in t c.args.members) c.in-Some.write _ _ _ _ _ first (c.in_ok-push-in_default.ensures.ok t) (c.in_ok-present-in_default.ensures.value t) c.in_default.not-Null (c.members.invariant.writes t);
      defined = defined_more _ _ _ c.in-Some.write _ _ _ first c.in_ok-push-in_default.ensures.ok_defined c.in_ok-present-in_default.ensures.defined c.members.invariant.defined;
    }

pub present_members-returns-clause-writes : goal.present_members-returns-clause-writes
present_members-returns-clause-writes n c =
    let none = none_left _ (sym c.members.write-iterator.rest.ok.0 ∙ c.in-None.ensures.steps.0) in
    λ t. members_end t _ _ (writes_in t c.args.members) none (c.members.invariant.writes t)
