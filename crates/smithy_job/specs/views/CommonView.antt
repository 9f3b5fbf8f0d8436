-- What the jobs of many inputs have in common, and their inputs, as the code has them.
use Rattle.std.specs.Prelude.{◌≡◌, ℕ, List, [], ◌∷◌, map, Vec, Bool, Option, Some, IfSome, option_map, unwrap_or}
use Rattle.std.specs.Borrow.{Bor}
use Rattle.std.specs.List.{AllByRecursion}
use Rattle.std.specs.declared.alloc.Global.{Global}
use Rattle.serde_json.specs.Data.{Data}
use Rattle.smithy_json.specs.views.JsonView.{view}
use Rattle.smithy_json.specs.declared.value.JsonValue.{JsonValue}
use Rattle.smithy_schema.specs.Nodes.{Schema, Table}
use Rattle.smithy_schema.specs.References.{schema_of}
use Rattle.smithy_schema.specs.declared.schema_ref.SchemaRef.{SchemaRef}
use Rattle.smithy_serde.specs.StoredValues.{AreDefined, HasNode, writes_in}
use Rattle.smithy_serde.specs.Values.{Write, list_of}
use Rattle.smithy_serde.specs.declared.value.WriteList.{WriteList}
use Rattle.smithy_model.specs.Models as models
use Rattle.smithy_model.specs.declared.floats.Floats.TheVariants.{Kept}
use Rattle.smithy_model.specs.views.PlacedView.{IsPlaced, IsPlacedAt}
use Rattle.smithy_job.specs.Common as jobs
use Rattle.smithy_job.specs.Common.{Many, are_inputs}
use Rattle.smithy_job.specs.Inputs.{input}
use Rattle.smithy_job.specs.Jobs.{schema}
use Rattle.smithy_job.specs.views.ReadingView.{Names}
use Rattle.smithy_job.specs.views.Tables.{Keeps, nodes_with}
use Rattle.smithy_job.specs.declared.common.Common.{Common}
use Rattle.smithy_job.specs.declared.common.Inputs.{Inputs}

pub record IsCommon (stored : Common) (is : jobs.Common) : Type 0 where
  pub model : schema Kept models.input (view stored.job.now) ≡ Some is.schema
  pub placed : IsPlaced stored.model is.schema
  pub endpoint : stored.endpoint.now ≡ is.endpoint
  pub omit : stored.omit ≡ is.omit

-- its schema is that of its job's operation
abbrev pub IsReadCommon : Common → Type 0
IsReadCommon stored = IsPlacedAt (schema Kept models.input (view stored.job.now)) stored.model

-- the writes of an input, where there is one
abbrev pub writes_seen : Table → Option WriteList → Option (List Write)
writes_seen nodes stored = option_map (λ w. list_of (writes_in nodes w)) stored

-- the writes of a value, where it has the form of an input
abbrev pub input_read : Schema → Data → Option (List Write)
input_read s d = option_map list_of (input Kept s d)

-- those of values, by a node of the code
abbrev pub input_at : SchemaRef → JsonValue → Option (List Write)
input_at schema value = input_read (schema_of schema) (view value)

abbrev pub inputs_at : SchemaRef → List JsonValue → List (Option (List Write))
inputs_at schema values = map (input_read (schema_of schema)) (map view values)

-- over these nodes, what is stored are these inputs
pub record AreInputs (nodes : Table) (stored : List (Option WriteList)) (are : List (Option (List Write))) : Type 0 where
  pub writes : map (writes_seen nodes) stored ≡ are
  pub defined : AllByRecursion (λ w. IfSome w (AreDefined nodes)) stored

-- over each table that keeps the nodes of a model and of these names, what is stored are these inputs
abbrev pub AreReadOver : Table → List (Bor (List ℕ)) → List (Option WriteList) → List (Option (List Write)) → Type 0
AreReadOver table names stored are = (t : Table) → Keeps (nodes_with table names) t → AreInputs t stored are

abbrev pub AreReadBy : Table → Names → List (Option (List Write)) → Vec (Option WriteList) Global → Type 0
AreReadBy table names are stored = AreReadOver table names.items stored.items are

-- an input is read, and its names stand behind those that there were
pub record ReadsBehind (table : Table) (old new : Names) (is : Option (List Write)) (stored : Option WriteList) : Type 0 where
  pub kept : Keeps (nodes_with table old.items) (nodes_with table new.items)
  pub read : AreReadOver table new.items (stored ∷ []) (is ∷ [])

-- the nodes of the writes
abbrev pub nodes_among : Common → Inputs → Table
nodes_among common inputs = unwrap_or inputs.further common.model.table

-- what is stored are the inputs that these values are by the schema
pub record AreRead (common : Common) (is : jobs.Common) (stored : Inputs) (values : List Data) : Type 0 where
  pub inputs : AreInputs (nodes_among common stored) stored.each.items (map (input_read is.schema) values)
  -- the nodes of the writes have that of the schema
  pub node : HasNode (nodes_among common stored) common.model.index.0

-- the same, whatever the schema is that is known of what they have in common
abbrev pub IsReadBy : Common → List Data → Inputs → Type 0
IsReadBy common values stored = (is : jobs.Common) → IsCommon common is → AreRead common is stored values

-- each of these values has the form of an input
abbrev pub TellsInputs : Common → List Data → Bool → Type 0
TellsInputs common values answer = (is : jobs.Common) → IsCommon common is → answer ≡ are_inputs is values

-- what the jobs of many inputs have in common
abbrev pub IsWhole : Common → Many → Type 0
IsWhole stored is = IsCommon stored is.common
