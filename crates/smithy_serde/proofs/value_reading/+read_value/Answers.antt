use Rattle.std.proofs.Common.{rules, refl, sym, subst, ap, ◌∙◌}
use Rattle.smithy_schema.specs.Nodes.{Schema}
use Rattle.smithy_schema.specs.References.{schema_of}
use Rattle.smithy_serde.specs.views.Handing.{same_kept, at_elements, at_entries, at_members}
use Rattle.smithy_serde.specs.StoredValues.{AreDefined}
use Rattle.smithy_serde.specs.views.ValueBuilding.{list_nodes, map_nodes, struct_table, TakesElement, TakesEntry, TakesMember}
use Rattle.smithy_serde.proofs.BuilderItems.{element_taken, element_refused, entry_taken, entry_refused, member_taken, member_refused}
use Rattle.smithy_serde.proofs.MembersReading.{members_read, members_refused}
use Rattle.smithy_serde.proofs.ReadValue.{at_node, value_null, value_scalar, value_scalar_err, value_planned, list_value, list_value_err, map_value, map_value_err, structure_value, structure_value_err, shape_here, placed_here, has_node_at}
use Rattle.smithy_serde.proofs.ReadWalk.{not_opened, begins, halted, stopped, taken, hidden, answered}
use Rattle.smithy_serde.proofs.value_reading.+read_value.Goals as goal

pub ListBuilderElementConsumer::element-returns-in_err-value : goal.ListBuilderElementConsumer::element-returns-in_err-value
ListBuilderElementConsumer::element-returns-in_err-value g t c = let whole = element_refused c.args.self.now c.args.self.now _ _ _ c.in_err-value.ensures refl in search rules

pub ListBuilderElementConsumer::element-returns : goal.ListBuilderElementConsumer::element-returns
ListBuilderElementConsumer::element-returns g t c = element_taken c.args.self.now _ _ _ _ c.in_ok-value.ensures (c.in_ok-push.ensures.ok c.args.self.now.table.now) refl

pub read_elements-returns-in_err-open_list : goal.read_elements-returns-in_err-open_list
read_elements-returns-in_err-open_list g t c = let whole = not_opened {takes = at_elements TakesElement} (same_kept list_nodes) c.args.consumer.now _ _ _ c.in_err-open_list.ensures in search rules

pub read_elements-loop-consumer-init : goal.read_elements-loop-consumer-init
read_elements-loop-consumer-init g t c = begins (same_kept list_nodes) _ _ _ c.in_ok-open_list.ensures

pub read_elements-returns-in_err-next_element : goal.read_elements-returns-in_err-next_element
read_elements-returns-in_err-next_element g t c = let whole = halted (same_kept list_nodes) _ _ _ _ _ _ c.loop-consumer.invariant c.in_err-next_element.ensures in search rules

pub read_elements-returns-in_err-element : goal.read_elements-returns-in_err-element
read_elements-returns-in_err-element g t c =
    let item = rw c.if-branch.true at c.in_ok-next_element.ensures in
    let whole = stopped (same_kept list_nodes) _ _ _ _ _ _ _ _ _ (λ _. refl) c.loop-consumer.invariant item c.in_err-element.ensures in search rules

pub read_entries-returns-in_err-open_map : goal.read_entries-returns-in_err-open_map
read_entries-returns-in_err-open_map g t c = let whole = not_opened {takes = at_entries TakesEntry} (same_kept map_nodes) c.args.consumer.now _ _ _ c.in_err-open_map.ensures in search rules

pub read_entries-loop-key-init : goal.read_entries-loop-key-init
read_entries-loop-key-init g t c = begins (same_kept map_nodes) _ _ _ c.in_ok-open_map.ensures

pub read_entries-returns-in_err-key : goal.read_entries-returns-in_err-key
read_entries-returns-in_err-key g t c = let whole = halted (same_kept map_nodes) _ _ _ _ _ _ c.loop-key.invariant c.in_err-key.ensures in search rules

pub read_entries-returns-in_err-entry : goal.read_entries-returns-in_err-entry
read_entries-returns-in_err-entry g t c =
    let item = rw c.in-Some.is at c.in_ok-key.ensures in
    let whole = stopped (same_kept map_nodes) _ _ _ _ _ _ _ _ _ (λ _. refl) c.loop-key.invariant item c.in_err-entry.ensures in search rules

pub read_members-returns-in_err-open_struct : goal.read_members-returns-in_err-open_struct
read_members-returns-in_err-open_struct g t c = let whole = not_opened {takes = at_members TakesMember} (same_kept struct_table) c.args.consumer.now _ _ _ c.in_err-open_struct.ensures in search rules

pub read_members-loop-member-init : goal.read_members-loop-member-init
read_members-loop-member-init g t c = begins (same_kept struct_table) _ _ _ c.in_ok-open_struct.ensures

pub read_members-returns-in_err-member : goal.read_members-returns-in_err-member
read_members-returns-in_err-member g t c = let whole = halted (same_kept struct_table) _ _ _ _ _ _ c.loop-member.invariant c.in_err-member.ensures in search rules

pub read_members-returns-in_err-settle : goal.read_members-returns-in_err-settle
read_members-returns-in_err-settle g t c =
    let item = rw c.in-Some.is at c.in_ok-member.ensures in
    let whole = answered (same_kept struct_table) _ _ _ _ _ _ _ _ _ _ _ c.loop-member.invariant item.advanced c.in-Err.ensures c.in_err-settle.ensures in search rules

pub MapBuilderEntryConsumer::entry-returns-in_err-value : goal.MapBuilderEntryConsumer::entry-returns-in_err-value
MapBuilderEntryConsumer::entry-returns-in_err-value g t c = let whole = entry_refused c.args.self.now c.args.self.now c.args.key _ _ _ c.in_err-value.ensures refl in search rules

pub MapBuilderEntryConsumer::entry-returns : goal.MapBuilderEntryConsumer::entry-returns
MapBuilderEntryConsumer::entry-returns g t c = entry_taken c.args.self.now _ _ _ _ _ c.in_ok-value.ensures c.in_ok-push.ensures.ok c.push.ensures.same

pub StructBuilderMemberConsumer::member-returns-in_err-value : goal.StructBuilderMemberConsumer::member-returns-in_err-value
StructBuilderMemberConsumer::member-returns-in_err-value g t c = let whole = member_refused c.args.self.now (schema_of c.args.schema) _ _ _ _ c.in-Some.ensures.place c.in_err-value.ensures in search rules

pub StructBuilderMemberConsumer::member-returns : goal.StructBuilderMemberConsumer::member-returns
StructBuilderMemberConsumer::member-returns g t c = member_taken c.args.self.now _ (schema_of c.args.schema) _ _ _ _ c.in-Some.ensures.place c.in_ok-value.ensures (c.in_ok-push.ensures.ok c.args.self.now.table.now) refl

pub read_elements-loop-consumer-preserved : goal.read_elements-loop-consumer-preserved
read_elements-loop-consumer-preserved g t c =
    let item = rw c.if-branch.true at c.in_ok-next_element.ensures in
    taken (same_kept list_nodes) _ _ _ _ _ _ _ _ c.loop-consumer.invariant item c.in_ok-element.ensures

pub read_entries-loop-key-preserved : goal.read_entries-loop-key-preserved
read_entries-loop-key-preserved g t c =
    let item = rw c.in-Some.is at c.in_ok-key.ensures in
    taken (same_kept map_nodes) _ _ _ _ _ _ _ _ c.loop-key.invariant item c.in_ok-entry.ensures

pub read_members-loop-member-preserved : goal.read_members-loop-member-preserved
read_members-loop-member-preserved g t c =
    let item = rw c.in-Some.is at c.in_ok-member.ensures in
    taken (same_kept struct_table) _ _ _ _ _ _ _ _ c.loop-member.invariant item.advanced c.in_default-member.ensures

pub read_members-loop-member-preserved-in-Continue-branch-4 : goal.read_members-loop-member-preserved-in-Continue-branch-4
read_members-loop-member-preserved-in-Continue-branch-4 g t c =
    let item = rw c.in-Some.is at c.in_ok-member.ensures in
    hidden (same_kept struct_table) _ _ _ _ _ _ _ _ _ _ c.loop-member.invariant item.advanced c.in-Err.ensures c.in_ok-settle.ensures

pub read_value-returns-then-reads_null : goal.read_value-returns-then-reads_null
read_value-returns-then-reads_null g t c =
    value_null c.args.table.now c.args.node.0 _ _ _ _ _ c.in-Some.ensures.node (at_node c.shape_type-kind.ensures c.is_null.ensures c.reads_null.ensures) c.if-reads_null.true

pub read_value-returns-in_err-read-in-Scalar : goal.read_value-returns-in_err-read-in-Scalar
read_value-returns-in_err-read-in-Scalar g t c =
    let p = rw c.in-Scalar.is at c.plan_of.ensures in
    let whole = value_scalar_err c.args.table.now c.args.node.0 _ _ _ _ c.in-Scalar.kind _ _ _ c.in-Some.ensures.node (at_node c.shape_type-kind.ensures c.is_null.ensures c.reads_null.ensures) c.if-reads_null.false p c.in_err-read-in-Scalar.ensures in search rules

pub read_value-returns-in_ok-read-in-Scalar : goal.read_value-returns-in_ok-read-in-Scalar
read_value-returns-in_ok-read-in-Scalar g t c =
    let p = rw c.in-Scalar.is at c.plan_of.ensures in
    value_scalar c.args.table.now c.args.node.0 _ _ _ _ c.in-Scalar.kind _ _ _ _ c.in-Some.ensures.node (at_node c.shape_type-kind.ensures c.is_null.ensures c.reads_null.ensures) c.if-reads_null.false p c.in_ok-read-in-Scalar.ensures (c.stored.ensures.value c.args.table.now) (c.stored.ensures.defined _ c.in_ok-read-in-Scalar.ensures.of_kind c.args.table.now)

pub list_value-returns-in_err-read_elements : goal.list_value-returns-in_err-read_elements
list_value-returns-in_err-read_elements g t c =
    λ m there. let whole = list_value_err (schema_of c.args.schema) m _ _ _ _ _ c.in_err-read_elements.ensures there (c.new.ensures.writes c.args.table.now) in search rules

pub list_value-returns : goal.list_value-returns
list_value-returns g t c =
    let defined = subst (λ u. AreDefined u c.read_elements.new.consumer.writes) (ap (λ p. p.0) c.in_ok-read_elements.ensures.kept) c.read_elements.new.consumer.defined in
    λ m there. list_value (schema_of c.args.schema) m _ _ _ _ c.in_ok-read_elements.ensures there (c.new.ensures.writes c.args.table.now) defined

pub map_value-returns-in_err-read_entries : goal.map_value-returns-in_err-read_entries
map_value-returns-in_err-read_entries g t c =
    λ k m there there_2. let whole = map_value_err (schema_of c.args.schema) k m _ _ _ _ _ c.in_err-read_entries.ensures there there_2 (c.new.ensures.writes c.args.table.now) in search rules

pub map_value-returns : goal.map_value-returns
map_value-returns g t c =
    let defined = subst (λ u. AreDefined u c.read_entries.new.consumer.writes) (ap (λ p. p.0) c.in_ok-read_entries.ensures.kept) c.read_entries.new.consumer.defined in
    λ k m there there_2. map_value (schema_of c.args.schema) k m _ _ _ _ c.in_ok-read_entries.ensures there there_2 (c.new.ensures.writes c.args.table.now) defined

pub read_struct_value-returns-in_err-read_members : goal.read_struct_value-returns-in_err-read_members
read_struct_value-returns-in_err-read_members g t c =
    let whole = members_refused (schema_of c.args.schema) _ _ _ _ (sym c.requires) (c.new.ensures.writes c.args.table.now) _ c.in_err-read_members.ensures in search rules

pub read_struct_value-returns : goal.read_struct_value-returns
read_struct_value-returns g t c =
    let defined = subst (λ u. AreDefined u c.read_members.new.consumer.writes) c.in_ok-read_members.ensures.kept c.read_members.new.consumer.defined in
    members_read (schema_of c.args.schema) _ _ _ _ (sym c.requires) (c.new.ensures.writes c.args.table.now) _ c.in_ok-read_members.ensures c.in_ok-in_index_order.ensures.order (c.in_ok-in_index_order.ensures.defined c.args.table.now defined)

pub read_value-list_value-requires : goal.read_value-list_value-requires
read_value-list_value-requires g t c =
    let p = rw c.in-List.is at c.plan_of.ensures in
    let element = has_node_at c.args.table.now c.args.node.0 _ _ _ c.in-Some.ensures.node p.1 in search rules

pub read_value-returns-in-List : goal.read_value-returns-in-List
read_value-returns-in-List g t c =
    let p = rw c.in-List.is at c.plan_of.ensures in
    value_planned c.args.table.now c.args.node.0 _ _ _ _ _ _ _ _ c.in-Some.ensures.node (at_node c.shape_type-kind.ensures c.is_null.ensures c.reads_null.ensures) c.if-reads_null.false p.2
    (c.list_value.ensures p.0 (placed_here c.args.table.now c.args.node.0 _ _ _ c.in-Some.ensures.node p.1))

pub read_value-map_value-requires : goal.read_value-map_value-requires
read_value-map_value-requires g t c =
    let p = rw c.in-Map.is at c.plan_of.ensures in
    let key = has_node_at c.args.table.now c.args.node.0 _ _ _ c.in-Some.ensures.node p.2 in
    let value = has_node_at c.args.table.now c.args.node.0 _ _ _ c.in-Some.ensures.node p.3 in search rules

pub read_value-returns-in-Map : goal.read_value-returns-in-Map
read_value-returns-in-Map g t c =
    let p = rw c.in-Map.is at c.plan_of.ensures in
    value_planned c.args.table.now c.args.node.0 _ _ _ _ _ _ _ _ c.in-Some.ensures.node (at_node c.shape_type-kind.ensures c.is_null.ensures c.reads_null.ensures) c.if-reads_null.false p.4
    (c.map_value.ensures p.0 p.1 (placed_here c.args.table.now c.args.node.0 _ _ _ c.in-Some.ensures.node p.2) (placed_here c.args.table.now c.args.node.0 _ _ _ c.in-Some.ensures.node p.3))

pub read_value-read_struct_value-requires : goal.read_value-read_struct_value-requires
read_value-read_struct_value-requires g t c =
    let table = shape_here c.args.table.now c.args.node.0 _ c.in-Some.ensures.node in
    let here = ap (λ (s : Schema). s.table) c.shape_of.ensures ∙ table in search rules

pub read_value-returns-in_err-members-in-Structure : goal.read_value-returns-in_err-members-in-Structure
read_value-returns-in_err-members-in-Structure g t c =
    let p = rw c.in-Structure.is at c.plan_of.ensures in
    let members = rw c.shape_of.ensures at c.in_err-members-in-Structure.ensures in
    let whole = value_planned c.args.table.now c.args.node.0 _ _ _ _ _ _ _ _ c.in-Some.ensures.node (at_node c.shape_type-kind.ensures c.is_null.ensures c.reads_null.ensures) c.if-reads_null.false p
    (structure_value_err c.args.table.now _ _ _ _ members) in search rules

pub read_value-returns-in_ok-members-in-Structure : goal.read_value-returns-in_ok-members-in-Structure
read_value-returns-in_ok-members-in-Structure g t c =
    let p = rw c.in-Structure.is at c.plan_of.ensures in
    let members = rw c.shape_of.ensures at c.in_ok-members-in-Structure.ensures in
    value_planned c.args.table.now c.args.node.0 _ _ _ _ _ _ _ _ c.in-Some.ensures.node (at_node c.shape_type-kind.ensures c.is_null.ensures c.reads_null.ensures) c.if-reads_null.false p
    (structure_value c.args.table.now _ _ _ _ members)
