-- What stored values stand for over tables that grow.
use Rattle.std.specs.Prelude.{◌≡◌, ℕ, codes, List, [], ◌++◌, map, Option, Some, None, IfSome, option_map, unwrap_or, Result, Ok, Err}
use Rattle.std.specs.Borrow.{Bor}
use Rattle.smithy_ids.specs.declared.shape_type.ShapeType.TheVariants as kind
use Rattle.smithy_schema.specs.Nodes.{Node, Table, Schema, bare_node, node_at, at_place}
use Rattle.smithy_serde.specs.Values.{Label, Scalar, scalar, Value, Writes, label_of}
use Rattle.smithy_serde.specs.StoredValues.{value_in, writes_in, IsDefined, AreDefined}
use Rattle.smithy_serde.specs.declared.value.ShapeValue.{ShapeValue}
use Rattle.smithy_serde.specs.declared.value.WriteList.{WriteList}
use Rattle.smithy_model.specs.declared.error.JobError.{JobError}
use Rattle.smithy_model.specs.declared.error.JobError.TheVariants.{NoJob, OutOfMemory}

-- the node of a name that is no member's
abbrev pub further_node : List ℕ → Node
further_node name = record (bare_node (codes "smithy.api#Document") kind.Document) { member_name = Some name }

-- a table with a node behind it for each of these names
abbrev pub nodes_with : Table → List (Bor (List ℕ)) → Table
nodes_with table names = table ++ map (λ n. Some (further_node n.now)) names

-- the schema at an index, which has a node
abbrev pub schema_seen : Table → ℕ → Schema
schema_seen table index = record { table = table; node = unwrap_or (node_at table index) (bare_node [] kind.Structure) }

-- each node of the one table stands at its index in the other
pub record Keeps (before after : Table) : Type 0 where
  pub keeps : (index : ℕ) (node : Node) → node_at before index ≡ Some node → node_at after index ≡ Some node

-- a node with this label stands at the index
abbrev pub HasLabel : Table → ℕ → Label → Type 0
HasLabel table index label = option_map label_of (at_place table index) ≡ Some label

-- it is a node of the table
pub record StandsIn (nodes : Table) (here : Schema) : Type 0 where
  pub table : here.table ≡ nodes
  pub index : (p : ℕ) × (at_place here.table p ≡ Some here)

abbrev pub MayStandIn : Table → Option Schema → Type 0
MayStandIn table here = IfSome here (StandsIn table)

-- what is stored is this scalar over each table
pub record IsScalar (stored : ShapeValue) (is : Scalar) : Type 0 where
  pub value : (t : Table) → value_in t stored ≡ scalar is
  pub defined : (t : Table) → IsDefined t stored

-- in each table that keeps these nodes, what is stored is this value, and has nodes
pub record IsValue (nodes : Table) (stored : ShapeValue) (is : Value) : Type 0 where
  pub value : (t : Table) → Keeps nodes t → value_in t stored ≡ is
  pub defined : (t : Table) → Keeps nodes t → IsDefined t stored

pub record AreWrites (nodes : Table) (stored : WriteList) (are : Writes) : Type 0 where
  pub writes : (t : Table) → Keeps nodes t → writes_in t stored ≡ are
  pub defined : (t : Table) → Keeps nodes t → AreDefined t stored

-- there is one, and this holds of it
abbrev pub Has : {A : Type 0} → Option A → (A → Type 0) → Type 0
Has None P = ⊥
Has (Some x) P = P x

-- what was read stands for what is defined; where it is no job, nothing is
abbrev pub ReadsAs : {A V : Type 0} → (A → V → Type 0) → Option V → Result A JobError → Type 0
ReadsAs Is defined (Ok a) = Has defined (Is a)
ReadsAs Is defined (Err NoJob) = defined ≡ None
ReadsAs Is defined (Err OutOfMemory) = Unit {0}
