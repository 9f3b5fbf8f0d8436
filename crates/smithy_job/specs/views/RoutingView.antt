-- The job of a request that the code's one stands for, whose operations are read one by one, each into a table of its own.
use Rattle.std.specs.Prelude.{◌≡◌, ℕ, List, map, Option, None, option_map, option_and_then, Result, Ok, Err}
use Rattle.serde_json.specs.Data.{Data}
use Rattle.serde_json.specs.Find.{as_str}
use Rattle.smithy_json.specs.views.JsonView.{view}
use Rattle.smithy_json.specs.declared.value.JsonValue.{JsonValue}
use Rattle.smithy_types.specs.Results.{each}
use Rattle.smithy_schema.specs.Nodes.{Schema}
use Rattle.smithy_model.specs.Models as models
use Rattle.smithy_model.specs.Among.{schema_among}
use Rattle.smithy_model.specs.views.ModelView.{shapes_view}
use Rattle.smithy_model.specs.declared.error.JobError.{JobError}
use Rattle.smithy_model.specs.declared.error.JobError.TheVariants.{NoJob, OutOfMemory}
use Rattle.smithy_model.specs.declared.table.ModelTable.{ModelTable}
use Rattle.smithy_job.specs.Routing as jobs
use Rattle.smithy_job.specs.views.Tables.{schema_seen}
use Rattle.smithy_job.specs.declared.named_operations.NamedOperations.{NamedOperations}
use Rattle.smithy_job.specs.declared.operation.Operation.{Operation}
use Rattle.smithy_job.specs.declared.routing.NamedRouting.{NamedRouting}

-- the schema that a model was read for
abbrev pub placed_seen : ModelTable → Schema
placed_seen placed = schema_seen placed.table placed.index.0

abbrev pub operation_seen : Operation → jobs.Operation
operation_seen o = record { name = o.name.now; schema = schema_seen o.table o.index.0 }

-- the operation of this name, where it has `@http`, among the shapes of a model
abbrev pub operation_among : Data → List ℕ → Option jobs.Operation
operation_among shapes name = option_and_then (jobs.with_http name) (schema_among models.input shapes name)

-- the operation that a text names, where a model has shapes
unfoldable pub named_among : Option Data → Data → Option jobs.Operation
named_among shapes d = option_and_then (λ name. option_and_then (λ ss. operation_among ss name) shapes) (as_str d)

abbrev pub operation_by : NamedOperations → Data → Option jobs.Operation
operation_by named d = named_among (option_map shapes_view named.shapes) d

-- the operations of these names, none where one is none
abbrev pub all_named : NamedOperations → Option (List jobs.Operation)
all_named named = each (operation_by named) (map view named.names.now)

-- the operations that texts name in a model
abbrev pub operations_at : JsonValue → List JsonValue → Option (List jobs.Operation)
operations_at model names = each (jobs.operation_in (view model)) (map view names)

-- the job of a request that may be one of these operations', none where one is none
abbrev pub routing_of : Option (List jobs.Operation) → NamedRouting → Option jobs.Routing
routing_of operations r = option_map (λ os. record { operations = os; request = r.request; omit = r.omit }) operations

-- it is the job of a request that may be one of the named operations'; none is refused; want of memory is free
abbrev pub NamesRouting : Option jobs.Routing → Result NamedRouting JobError → Type 0
NamesRouting defined (Ok r) = defined ≡ routing_of (all_named r.operations) r
NamesRouting defined (Err NoJob) = defined ≡ None
NamesRouting defined (Err OutOfMemory) = Unit {0}
