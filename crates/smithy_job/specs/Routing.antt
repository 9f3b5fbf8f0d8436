-- The job of a request whose operation is to be found.
use Rattle.std.specs.Prelude.{ℕ, codes, List, [], Bool, Option, Some, is_some, option_map, option_and_then}
use Rattle.serde_json.specs.Data.{Data}
use Rattle.serde_json.specs.Find.{get, as_str}
use Rattle.smithy_types.specs.Results.{each}
use Rattle.smithy_http.specs.Requests.{Request}
use Rattle.smithy_schema.specs.Nodes.{Schema}
use Rattle.smithy_serde.specs.declared.header_omit_settings.OmitFlags.{OmitFlags}
use Rattle.smithy_model.specs.Json.{items_in, provided}
use Rattle.smithy_model.specs.Models as models
use Rattle.smithy_model.specs.Models.{schema_in_model}
use Rattle.smithy_job.specs.Recovering.{Recovering}
use Rattle.smithy_job.specs.Requests.{request_given}
use Rattle.smithy_job.specs.Settings.{omit}

-- an operation by its full name, and the schema of its input
pub record Operation : Type 0 where
  pub name : List ℕ
  pub schema : Schema

-- the job in which the input of a request is recovered by an operation
abbrev pub recovering_by : Operation → Request → OmitFlags → Recovering
recovering_by o q omit = record { request = q; schema = o.schema; endpoint = []; omit = omit }

-- a request, and the operations of which it may be one's
pub record Routing : Type 0 where
  pub operations : List Operation
  pub request : Request
  pub omit : OmitFlags

-- the schema has `@http` (Smithy, HTTP protocol bindings, http)
abbrev pub has_http : Schema → Bool
has_http s = is_some s.node.traits.http

-- the operation of this name, where it has `@http`
abbrev pub with_http : List ℕ → Schema → Option Operation
with_http name s = provided (has_http s) (Some (record { name = name; schema = s }))

abbrev pub operation_named : Data → List ℕ → Option Operation
operation_named model name = option_and_then (with_http name) (schema_in_model models.input model name)

-- the operation that a text names in a model
abbrev pub operation_in : Data → Data → Option Operation
operation_in model d = option_and_then (operation_named model) (as_str d)

-- those of an array, in order
abbrev pub operations_in : Data → Data → Option (List Operation)
operations_in model d = option_and_then (each (operation_in model)) (items_in d)

-- the operations that a job names in its model
abbrev pub operations_given : Data → Option (List Operation)
operations_given job =
    option_and_then (λ model. option_and_then (operations_in model) (get (codes "operations") job)) (get (codes "model") job)

abbrev pub routing_with : Data → Request → OmitFlags → Option Routing
routing_with job q o = option_map (λ os. record { operations = os; request = q; omit = o }) (operations_given job)

-- The job of a request whose operation is to be found that a JSON value is, and none where it has not the form of one.
unfoldable pub routing : Data → Option Routing
routing job = option_and_then (λ q. option_and_then (routing_with job q) (omit job)) (request_given job)
