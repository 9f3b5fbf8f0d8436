-- How the consumers take items that build the writes of a list, a map or a structure.
use Rattle.std.specs.Prelude.{◌≡◌, ℕ, List, Some, option_map, Result, IfOk, IfErr}
use Rattle.smithy_types.specs.Results.{then_give}
use Rattle.smithy_ids.specs.declared.shape_type.ShapeType.{ShapeType}
use Rattle.smithy_schema.specs.Nodes.{Table, Schema, at_place, shape}
use Rattle.smithy_serde.specs.Values as value
use Rattle.smithy_serde.specs.Values.{Value, Write, Writes}
use Rattle.smithy_serde.specs.Told.{appended, one_write}
use Rattle.smithy_serde.specs.StoredValues.{label_at, value_in, writes_in, IsDefined}
use Rattle.smithy_serde.specs.declared.value.ShapeValue.{ShapeValue}
use Rattle.smithy_serde.specs.declared.error.SerdeError.{SerdeError}
use Rattle.smithy_serde.specs.declared.scalar.Group.TheVariants as group
use Rattle.smithy_serde.specs.declared.builders.ListBuilder.{ListBuilder}
use Rattle.smithy_serde.specs.declared.builders.MapBuilder.{MapBuilder}
use Rattle.smithy_serde.specs.declared.builders.StructBuilder.{StructBuilder}
use Rattle.smithy_serde.specs.declared.read_plan.Plan.{Plan}
use Rattle.smithy_serde.specs.declared.read_plan.Plan.TheVariants as plan
use Rattle.smithy_serde.specs.Collecting.{Collects}
use Rattle.smithy_serde.specs.views.Handing.{Leaves, Same, HandsAll, at_elements, at_entries, at_members}
use Rattle.smithy_serde.specs.Held.{Held, Answer}
use Rattle.smithy_serde.specs.HeldReads.{read_scalar}
use Rattle.smithy_serde.specs.ReadCalls.{AtHand, Gives, type_of}
use Rattle.smithy_serde.specs.ValueRead.{write_by, entry_by, IsPlaced, value_read, value_by_kind, value_of_list, value_of_map, value_of_structure}

-- one more write, one more entry
abbrev pub add_write : Writes → Write → Writes
add_write ws w = appended ws (one_write w.label w.value)

abbrev pub add_entry : Writes → Write × Write → Writes
add_entry ws e = add_write (add_write ws e.0) e.1

-- the table and the nodes that a builder keeps
abbrev pub list_nodes : ListBuilder → Table × ℕ
list_nodes b = (b.table.now, b.element.0)

abbrev pub map_nodes : MapBuilder → Table × ℕ × ℕ
map_nodes b = (b.table.now, b.key.0, b.value.0)

abbrev pub struct_table : StructBuilder → Table
struct_table b = b.table.now

-- the writes of a map with one more entry
abbrev pub with_entry : MapBuilder → List ℕ → ShapeValue → Writes
with_entry b key v =
    let one : Writes = appended (writes_in b.table.now b.writes) (one_write (label_at b.table.now b.key.0) (value.scalar (value.text key))) in
    appended one (one_write (label_at b.table.now b.value.0) (value_in b.table.now v))

pub record TakesElement (old : ListBuilder) (held : Held) (new : ListBuilder) (answer : Answer) : Type 0 where
  pub adds : (n : Schema) → at_place old.table.now old.element.0 ≡ Some n
      → Collects add_write (then_give (value_read n held) (write_by n)) (writes_in old.table.now old.writes) (writes_in new.table.now new.writes) answer
  pub same : list_nodes new ≡ list_nodes old

pub record TakesEntry (old : MapBuilder) (key : List ℕ) (held : Held) (new : MapBuilder) (answer : Answer) : Type 0 where
  pub adds : (k n : Schema) → at_place old.table.now old.key.0 ≡ Some k → at_place old.table.now old.value.0 ≡ Some n
      → Collects add_entry (then_give (value_read n held) (entry_by k n key)) (writes_in old.table.now old.writes) (writes_in new.table.now new.writes) answer
  pub same : map_nodes new ≡ map_nodes old

-- a member of another table is refused; a refused one leaves the writes as they are
pub record TakesMember (old : StructBuilder) (node : Schema) (held : Held) (new : StructBuilder) (answer : Answer) : Type 0 where
  pub adds : IsPlaced old.table.now node
      → Collects add_write (then_give (value_read node held) (write_by node)) (writes_in old.table.now old.writes) (writes_in new.table.now new.writes) answer
  pub refused : IfErr answer (λ e. writes_in new.table.now new.writes ≡ writes_in old.table.now old.writes)
  pub same : struct_table new ≡ struct_table old

-- what is at hand is opened, and its items go to the builder of a list, of a map, of a structure
abbrev pub BuildsList : Schema → ListBuilder → ListBuilder → AtHand → AtHand → Answer → Type 0
BuildsList node start last old new answer = HandsAll (at_elements TakesElement) (Same list_nodes) group.List node start last old new answer

abbrev pub BuildsMap : Schema → MapBuilder → MapBuilder → AtHand → AtHand → Answer → Type 0
BuildsMap node start last old new answer = HandsAll (at_entries TakesEntry) (Same map_nodes) group.Map node start last old new answer

abbrev pub BuildsStructure : Schema → StructBuilder → StructBuilder → AtHand → AtHand → Answer → Type 0
BuildsStructure node start last old new answer = HandsAll (at_members TakesMember) (Same struct_table) group.Structure node start last old new answer

-- the same of a reader that shows what is at hand
abbrev pub ReadsElements : {D : Type 0} → (D → AtHand) → Schema → ListBuilder → ListBuilder → D → D → Answer → Type 0
ReadsElements at node start last old new answer = BuildsList node start last (at old) (at new) answer

abbrev pub ReadsEntries : {D : Type 0} → (D → AtHand) → Schema → MapBuilder → MapBuilder → D → D → Answer → Type 0
ReadsEntries at node start last old new answer = BuildsMap node start last (at old) (at new) answer

abbrev pub ReadsMembers : {D : Type 0} → (D → AtHand) → Schema → StructBuilder → StructBuilder → D → D → Answer → Type 0
ReadsMembers at node start last old new answer = BuildsStructure node start last (at old) (at new) answer

-- how a node of the kind is read
abbrev pub IsPlan : ShapeType → Schema → Plan → Type 0
IsPlan k node (plan.Scalar s) = (h : Held) → value_by_kind value_read k node h ≡ then_give (read_scalar (type_of s) node h) value.scalar
IsPlan k node (plan.List e) =
    (n : Schema) × (at_place node.table e.0 ≡ Some n) × ((h : Held) → value_by_kind value_read k node h ≡ value_of_list value_read node n h)
IsPlan k node (plan.Map key e) =
    (m n : Schema) × (at_place node.table key.0 ≡ Some m) × (at_place node.table e.0 ≡ Some n)
    × ((h : Held) → value_by_kind value_read k node h ≡ value_of_map value_read node m n h)
IsPlan k node plan.Structure = (h : Held) → value_by_kind value_read k node h ≡ value_of_structure value_read (shape node) h

-- the value at hand is read so, over a table
pub record ReadsSo (table : Table) (read : Held → Result Value SerdeError) (old new : AtHand) (result : Result ShapeValue SerdeError) : Type 0 where
  pub gives : Gives (value_in table) (option_map read old.held) result
  pub defined : IfOk result (λ v. IsDefined table v)
  pub leaves : Leaves old new result

-- as a list by its element's node, as a map by its key's and its value's
abbrev pub ReadsList : {D : Type 0} → (D → AtHand) → Table → Schema → ℕ → D → D → Result ShapeValue SerdeError → Type 0
ReadsList at table node element old new result =
    (m : Schema) → at_place table element ≡ Some m → ReadsSo table (value_of_list value_read node m) (at old) (at new) result

abbrev pub ReadsMap : {D : Type 0} → (D → AtHand) → Table → Schema → ℕ → ℕ → D → D → Result ShapeValue SerdeError → Type 0
ReadsMap at table node key entry old new result =
    (k m : Schema) → at_place table key ≡ Some k → at_place table entry ≡ Some m → ReadsSo table (value_of_map value_read node k m) (at old) (at new) result

-- the value at hand is read by the node at a place
pub record ReadsValue (table : Table) (place : ℕ) (old new : AtHand) (result : Result ShapeValue SerdeError) : Type 0 where
  pub gives : (n : Schema) → at_place table place ≡ Some n → Gives (value_in table) (option_map (value_read n) old.held) result
  pub defined : IfOk result (λ v. IsDefined table v)
  pub leaves : Leaves old new result
