-- What the code of a test of stored values answers, and of what it asks on the way.
use Rattle.std.specs.Prelude.{◌≡◌, ◌==◌, ℕ, Bool, List, Option, Some, Result, Vec, IfOk, IsTrue, length, map, filter_map}
use Rattle.std.specs.Borrow.{Bor}
use Rattle.std.specs.Global.{Global}
use Rattle.std.specs.List.{list_any}
use Rattle.smithy_schema.specs.Nodes.{Schema, Table, shape, members_of}
use Rattle.smithy_schema.specs.References.{schema_of}
use Rattle.smithy_schema.specs.declared.parts.SchemaIndex.{SchemaIndex}
use Rattle.smithy_schema.specs.declared.schema_ref.SchemaRef.{SchemaRef}
use Rattle.smithy_serde.specs.Ranges.{is_in_range}
use Rattle.smithy_serde.specs.Shaped.{named_member, is_shaped}
use Rattle.smithy_serde.specs.StoredValues.{value_in, write_in, writes_in, IsDefined}
use Rattle.smithy_serde.specs.Values as value
use Rattle.smithy_serde.specs.Values.{Label, Value, Writes, list_of, keys_of}
use Rattle.smithy_serde.specs.declared.value.ShapeValue.{ShapeValue}
use Rattle.smithy_serde.specs.declared.value.WriteList.{WriteList}
use Rattle.smithy_binding.specs.Typed.{default_names}
use Rattle.smithy_recovery.specs.views.ShapedParts.{takes_map, is_part_shaped}
use Rattle.smithy_recovery.specs.TypedWrites.{has_no_default, member_by_index, is_typed_write, has_typed_writes}

-- where there is memory, what the test says of the value by its member
abbrev pub Tests : {E : Type 0} → (Schema → Value → Bool) → SchemaRef → Table → ShapeValue → Result Bool E → Type 0
Tests test member t v result = IfOk result (λ b. b ≡ test (schema_of member) (value_in t v))

-- of writes by their node
abbrev pub TestsWrites : {E : Type 0} → (Option Schema → Writes → Bool) → SchemaRef → Table → WriteList → Result Bool E → Type 0
TestsWrites test node t ws result = IfOk result (λ b. b ≡ test (Some (schema_of node)) (writes_in t ws))

-- of a value that is in range, whether it is shaped by the node
abbrev pub TestsSound : SchemaRef → Table → ShapeValue → Bool → Type 0
TestsSound node t v result = IsDefined t v → IsTrue (is_in_range (value_in t v)) → result ≡ is_shaped (Some (schema_of node)) (value_in t v)

-- of a map, whether the node takes it with these keys
abbrev pub TestsMap : {E : Type 0} → SchemaRef → Table → ShapeValue → WriteList → Result Bool E → Type 0
TestsMap node t v entries result = IfOk result (λ b. b ≡ takes_map (schema_of node) (value_in t v) (writes_in t entries))

-- of a key, or of a value by its node
abbrev pub TestsPart : {E : Type 0} → Bool → SchemaRef → Table → ShapeValue → Result Bool E → Type 0
TestsPart is_key node t v result = IfOk result (λ b. b ≡ is_part_shaped is_key (Some (schema_of node)) (value_in t v))

-- of the entries behind a prefix, whether none has a default's name
abbrev pub TestsNames : {E : Type 0} → List ℕ → SchemaRef → Table → WriteList → Result Bool E → Type 0
TestsNames prefix member t entries result =
    IfOk result (λ b. b ≡ has_no_default prefix (schema_of member) (value.map (writes_in t entries)))

-- a name of so many bytes may be a default's
abbrev pub may_be_default : (length : ℕ) → Bool
may_be_default bytes = list_any (λ name. bytes == length name) default_names

-- of a write, whether it is a typed input's
abbrev pub TestsWrite : {E : Type 0} → SchemaRef → Table → SchemaIndex → ShapeValue → Result Bool E → Type 0
TestsWrite schema t node v result = IfOk result (λ b. b ≡ is_typed_write (schema_of schema) (write_in t node v))

-- of the writes of an input, whether they are a typed one's
abbrev pub TestsInput : {E : Type 0} → SchemaRef → Table → WriteList → Result Bool E → Type 0
TestsInput schema t ws result = IfOk result (λ b. b ≡ has_typed_writes (schema_of schema) (list_of (writes_in t ws)))

-- the member of the node's shape that has the name of a write's node
abbrev pub member_at : SchemaRef → Label → Option Schema
member_at node l = named_member (Some (schema_of node)) l.member_name

-- the member of a schema at the index of a write's node
abbrev pub member_in : SchemaRef → Label → Option Schema
member_in schema l = member_by_index (schema_of schema) l

-- the names of the members of the node's shape, in index order
abbrev pub HasFieldNames : SchemaRef → Vec (Bor (List ℕ)) Global → Type 0
HasFieldNames node names = map (λ n. n.now) names.items ≡ filter_map (λ m. m.node.member_name) (members_of (shape (schema_of node)))

-- the keys of a map's writes
abbrev pub HasKeys : Table → WriteList → Vec (Bor (List ℕ)) Global → Type 0
HasKeys t entries keys = map (λ n. n.now) keys.items ≡ keys_of (writes_in t entries)
