-- Routes of operations, as the code adds and finds them.
use Rattle.std.specs.Prelude.{◌≡◌, ℕ, Bool, false, List, [], ◌∷◌, find, map, Option, Some, None, Result, Ok, Err, option_map, option_and_then}
use Rattle.std.specs.Borrow.{Bor}
use Rattle.std.specs.Option.{option_map_or}
use Rattle.serde_json.specs.Data.{Data}
use Rattle.serde_json.specs.Find.{as_str}
use Rattle.smithy_types.specs.Results.{then_try}
use Rattle.smithy_types.specs.Texts.{same_text}
use Rattle.smithy_http.specs.Requests.{Request}
use Rattle.smithy_json.specs.JsonView.{view}
use Rattle.smithy_schema.specs.Nodes.{Schema}
use Rattle.smithy_binding.specs.Checked.{checked_input}
use Rattle.smithy_model.specs.Json.{provided}
use Rattle.smithy_router.specs.Tables.{Entry}
use Rattle.smithy_router.specs.declared.error.RouteError.{RouteError}
use Rattle.smithy_router.specs.declared.error.RouteError.TheVariants as error
use Rattle.smithy_recovery.specs.Recovered.{Reading}
use Rattle.smithy_job.specs.Routing.{Operation}
use Rattle.smithy_job.specs.RoutingView.{operation_by, operation_seen}
use Rattle.smithy_job.specs.declared.named_operations.NamedOperations.{NamedOperations}
use Rattle.smithy_job.specs.declared.operation.Operation.{Operation as Stored}
use Rattle.smithy_job.specs.declared.routing.NamedRouting.{NamedRouting}
use Rattle.smithy_bind.specs.Routing.{no_route, no_template, conflict, operation_found, told_input, with_operation}
use Rattle.smithy_bind.specs.Told.{Outcome, fault_line, outcome_of}
use Rattle.smithy_bind.specs.declared.routed.Added.{Added}
use Rattle.smithy_bind.specs.declared.routed.Refusal.{Refusal}
use Rattle.smithy_bind.specs.declared.routed.Refusal.TheVariants.{Line, OutOfMemory}

-- a text, or none
abbrev pub text_seen : Option (Bor (List ℕ)) → Option (List ℕ)
text_seen text = option_map (λ t. t.now) text

-- it is told in this line
abbrev pub IsLine : List ℕ → Refusal → Type 0
IsLine text (Line line) = line.items ≡ text
IsLine text OutOfMemory = Unit {0}

-- why an operation of this name is refused, as a line
abbrev pub TellsWhy : List ℕ → RouteError → Refusal → Type 0
TellsWhy name error.Template told = IsLine (no_template name) told
TellsWhy name (error.Conflict other) told = IsLine (conflict name other) told
TellsWhy name error.OutOfMemory told = told ≡ OutOfMemory

-- the outcome of adding an operation's route; want of memory is free
abbrev pub AddsRouteOf : List Entry → Operation → List Entry → Result (Unit {0}) RouteError → Type 0
AddsRouteOf old o new (Ok _) = with_operation old o ≡ Ok new
AddsRouteOf old o new (Err error.Template) = with_operation old o ≡ Err (no_template o.name)
AddsRouteOf old o new (Err (error.Conflict other)) = with_operation old o ≡ Err (conflict o.name other)
AddsRouteOf old o new (Err error.OutOfMemory) = Unit {0}

-- it gives these routes, or the line of a refusal; want of memory is free
abbrev pub GivesRoutes : Result (List Entry) (List ℕ) → List Entry → Result (Unit {0}) Refusal → Type 0
GivesRoutes defined routes (Ok _) = defined ≡ Ok routes
GivesRoutes defined routes (Err (Line line)) = defined ≡ Err line.items
GivesRoutes defined routes (Err OutOfMemory) = Unit {0}

-- the routes that were added, or the line of the first operation that has none
abbrev pub added_seen : Added → Result (List Entry) (List ℕ)
added_seen added = option_map_or (λ line. Err line.items) added.line (Ok added.routes)

-- the same with the route of one operation more
abbrev pub with_more : Added → Stored → Result (List Entry) (List ℕ)
with_more added o = then_try (added_seen added) (λ es. with_operation es (operation_seen o))

-- what a text names, where a request can be placed by its schema
abbrev pub checked : Operation → Option Operation
checked o = provided (checked_input o.schema) (Some o)

abbrev pub checked_by : (Data → Option Operation) → Data → Option Operation
checked_by read d = option_and_then checked (read d)

-- the routes with those of the operations that texts name, one after the other, or the line of the first that is refused; none
-- where one names none, or no request can be placed by its schema
abbrev pub routes_along : (Data → Option Operation) → Result (List Entry) (List ℕ) → List Data → Option (Result (List Entry) (List ℕ))
routes_along read so_far [] = Some so_far
routes_along read so_far (d ∷ ds) =
    option_and_then (λ o. routes_along read (then_try so_far (λ es. with_operation es o)) ds) (checked_by read d)

-- the routes of the operations of these names
abbrev pub routes_named : NamedOperations → Option (Result (List Entry) (List ℕ))
routes_named named = routes_along (operation_by named) (Ok []) (map view named.names.now)

-- a text is this name
abbrev pub is_named : List ℕ → Data → Bool
is_named name d = option_map_or (λ t. same_text t name) (as_str d) false

-- what is told by the operation that a text names, where there is one
abbrev pub told_of : (Data → Option Operation) → (Operation → Outcome) → Option Data → Outcome
told_of read told None = fault_line no_route
told_of read told (Some d) = outcome_of told (read d)

-- the answer by the first of the texts that the routes lead to
abbrev pub told_along : (Data → Option Operation) → (Operation → Outcome) → Request → List Data → List Entry → Outcome
told_along read told q ds entries = told_of read told (option_and_then (λ name. find (is_named name) ds) (operation_found q entries))

-- the same of the operations of a job
unfoldable pub told_by_routes : (Schema → Reading) → NamedRouting → List Entry → Outcome
told_by_routes reading j entries =
    told_along (operation_by j.operations) (told_input reading j.omit j.request) j.request (map view j.operations.names.now) entries

-- the answer by the operation that a text names
unfoldable pub told_named : (Schema → Reading) → NamedRouting → Data → Outcome
told_named reading j d = outcome_of (told_input reading j.omit j.request) (operation_by j.operations d)

-- the answer by the routes that were added, or the line of the first operation that has none
unfoldable pub told_by_added : (Schema → Reading) → NamedRouting → Result (List Entry) (List ℕ) → Outcome
told_by_added reading j (Ok entries) = told_by_routes reading j entries
told_by_added reading j (Err line) = fault_line line

-- the answer to a request of named operations, one after the other
unfoldable pub told_in_turn : (Schema → Reading) → NamedRouting → Outcome
told_in_turn reading j = outcome_of (told_by_added reading j) (routes_named j.operations)
