-- Schemas of an operation, in a table.
use Rattle.std.specs.Prelude.{◌≡◌, ℕ, List, map, Option, Some, None, Result, Ok, Err}
use Rattle.std.specs.Borrow.{Bor}
use Rattle.smithy_schema.specs.Nodes.{Table, Schema, node_at, at_place}
use Rattle.smithy_schema.specs.declared.parts.SchemaIndex.{SchemaIndex}
use Rattle.smithy_model.specs.Models.{schema_in}
use Rattle.smithy_model.specs.Nodes.{Errors, errors_of, natural_node}
use Rattle.smithy_model.specs.views.ModelView.{asked_view, operation_view, shapes_view}
use Rattle.smithy_model.specs.views.NameView.{texts}
use Rattle.smithy_model.specs.views.ReachedView.{shapes_of}
use Rattle.smithy_model.specs.declared.floats.Floats.{Floats}
use Rattle.smithy_model.specs.declared.model_shapes.ModelShapes.{ModelShapes}
use Rattle.smithy_model.specs.declared.reached.Reached.{Reached}
use Rattle.smithy_model.specs.declared.shape.Asked.{Asked}
use Rattle.smithy_model.specs.declared.shape.Operation.{Operation}
use Rattle.smithy_model.specs.declared.error.JobError.{JobError}
use Rattle.smithy_model.specs.declared.error.JobError.TheVariants.{NoJob, OutOfMemory}
use Rattle.smithy_model.specs.declared.table.ModelTable.{ModelTable}
use Rattle.smithy_model.specs.declared.table.PlacedErrors.{PlacedErrors}

-- the schema's table, with its index and that of the node of natural values
pub record IsPlaced (placed : ModelTable) (schema : Schema) : Type 0 where
  pub nodes : placed.table ≡ schema.table
  pub node : at_place schema.table placed.index.0 ≡ Some schema
  pub natural : node_at schema.table placed.natural.0 ≡ Some natural_node

abbrev pub IsPlacedAt : Option Schema → ModelTable → Type 0
IsPlacedAt (Some schema) placed = IsPlaced placed schema
IsPlacedAt None placed = ⊥

-- the schema is placed, and it is refused exactly where there is none; want of memory is free
abbrev pub Places : Option Schema → Result ModelTable JobError → Type 0
Places schema (Ok placed) = IsPlacedAt schema placed
Places schema (Err NoJob) = schema ≡ None
Places schema (Err OutOfMemory) = Unit {0}

-- the schema of what is asked of an operation, by the shapes of a model
abbrev pub schema_asked : Floats → Asked → ModelShapes → Operation → Option Schema
schema_asked floats asked shapes operation = schema_in floats (asked_view asked) (shapes_view shapes) (operation_view operation)

-- the errors of these names among the shapes
abbrev pub errors_among : Reached → List (Bor (List ℕ)) → List (Bor (List ℕ)) → Option Errors
errors_among reached operation service = errors_of (shapes_of reached) (texts operation) (texts service)

-- the schemas stand at these indexes of the table
abbrev pub StandAt : Table → List SchemaIndex → List Schema → Type 0
StandAt table indexes schemas = map (λ p. at_place table p.0) indexes ≡ map Some schemas

pub record ArePlaced (placed : PlacedErrors) (errors : Errors) : Type 0 where
  pub operation : StandAt placed.table placed.operation.items errors.operation
  pub service : StandAt placed.table placed.service.items errors.service

abbrev pub ArePlacedAt : Option Errors → PlacedErrors → Type 0
ArePlacedAt (Some errors) placed = ArePlaced placed errors
ArePlacedAt None placed = ⊥

-- the same of the errors of an operation and its service
abbrev pub PlacesErrors : Option Errors → Result PlacedErrors JobError → Type 0
PlacesErrors errors (Ok placed) = ArePlacedAt errors placed
PlacesErrors errors (Err NoJob) = errors ≡ None
PlacesErrors errors (Err OutOfMemory) = Unit {0}
