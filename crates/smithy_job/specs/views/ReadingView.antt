-- What the readers of values answer, over the nodes of a model and those of names that are no member's.
use Rattle.std.specs.Prelude.{ℕ, List, Vec, Option, option_map, Result, OnOk, IfOk}
use Rattle.std.specs.Borrow.{Bor}
use Rattle.std.specs.declared.alloc.Global.{Global}
use Rattle.smithy_schema.specs.Nodes.{Schema, Table}
use Rattle.smithy_schema.specs.References.{schema_of}
use Rattle.smithy_schema.specs.declared.parts.SchemaIndex.{SchemaIndex}
use Rattle.smithy_schema.specs.declared.schema_ref.SchemaRef.{SchemaRef}
use Rattle.smithy_json.specs.views.JsonView.{Member, view, items_view, members_view}
use Rattle.smithy_json.specs.declared.value.JsonValue.{JsonValue}
use Rattle.smithy_serde.specs.Values.{Label, Value, Writes}
use Rattle.smithy_serde.specs.declared.value.ShapeValue.{ShapeValue}
use Rattle.smithy_serde.specs.declared.value.WriteList.{WriteList}
use Rattle.smithy_model.specs.declared.error.JobError.{JobError}
use Rattle.smithy_job.specs.Inputs.{input, pairs_in}
use Rattle.smithy_job.specs.Values.{value_in, elements_in, entries_in, members_in}
use Rattle.smithy_job.specs.views.Tables.{Keeps, HasLabel, IsValue, AreWrites, ReadsAs, nodes_with}
use Rattle.smithy_job.specs.declared.node.ModelNodes.{ModelNodes}

-- names that are no member's
abbrev pub Names : Type 0
Names = Vec (Bor (List ℕ)) Global

abbrev pub node_of : Option SchemaRef → Option Schema
node_of here = option_map schema_of here

-- the nodes of the model, and of the names that there are
abbrev pub nodes_before : ModelNodes → Table
nodes_before model = nodes_with model.table.now model.earlier.now

-- the same, and those of these names
abbrev pub nodes_of : ModelNodes → Names → Table
nodes_of model names = nodes_with (nodes_before model) names.items

-- the nodes that there were are there
abbrev pub KeepsNodes : {A E : Type 0} → ModelNodes → Names → Names → Result A E → Type 0
KeepsNodes model before after result = OnOk result (Keeps (nodes_of model before) (nodes_of model after))

-- the index has a node with this label
abbrev pub GivesIndex : {E : Type 0} → ModelNodes → Names → Label → Result SchemaIndex E → Type 0
GivesIndex model names label result = IfOk result (λ index. HasLabel (nodes_of model names) index.0 label)

-- what a model makes of values of JSON is read
abbrev pub ReadsValue : ModelNodes → Names → (ModelNodes → Option Value) → Result ShapeValue JobError → Type 0
ReadsValue model names value result = ReadsAs (IsValue (nodes_of model names)) (value model) result

abbrev pub ReadsWrites : ModelNodes → Names → (ModelNodes → Option Writes) → Result WriteList JobError → Type 0
ReadsWrites model names writes result = ReadsAs (AreWrites (nodes_of model names)) (writes model) result

-- the value of a value of JSON at a node of the code, by how a model's floats are read
abbrev pub value_at : Option SchemaRef → JsonValue → ModelNodes → Option Value
value_at here value model = value_in model.floats (node_of here) (view value)

-- the writes of values of JSON
abbrev pub pairs_at : SchemaRef → List JsonValue → ModelNodes → Option Writes
pairs_at schema items model = pairs_in model.floats (schema_of schema) (items_view items)

abbrev pub elements_at : Option SchemaRef → List JsonValue → ModelNodes → Option Writes
elements_at element items model = elements_in model.floats (node_of element) (items_view items)

abbrev pub entries_at : Option SchemaRef → Option SchemaRef → List Member → ModelNodes → Option Writes
entries_at key value members model = entries_in model.floats (node_of key) (node_of value) (members_view members)

abbrev pub members_at : Option SchemaRef → List Member → ModelNodes → Option Writes
members_at here members model = members_in model.floats (node_of here) (members_view members)

-- the writes of an input
abbrev pub input_at : SchemaRef → JsonValue → ModelNodes → Option Writes
input_at schema value model = input model.floats (schema_of schema) (view value)
