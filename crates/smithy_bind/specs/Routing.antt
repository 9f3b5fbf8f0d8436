-- What is answered to a request whose operation is found by its route (Smithy, HTTP protocol bindings, http trait).
use Rattle.std.specs.Prelude.{ℕ, codes, Bool, not, ◌&&◌, ◌||◌, List, [], ◌∷◌, ◌++◌, Option, find, option_map, option_and_then, Result, Ok, Err, if◌then◌else◌}
use Rattle.std.specs.List.{list_all}
use Rattle.std.specs.Option.{option_map_or}
use Rattle.smithy_types.specs.Results.{then_try}
use Rattle.smithy_types.specs.Texts.{same_text}
use Rattle.smithy_http.specs.Requests.{Request}
use Rattle.smithy_schema.specs.Nodes.{Schema}
use Rattle.smithy_serde.specs.declared.header_omit_settings.OmitFlags.{OmitFlags}
use Rattle.smithy_binding.specs.Checked.{checked_input}
use Rattle.smithy_binding.specs.Placing.{method_of, template_of}
use Rattle.smithy_router.specs.Routes.{Route, matches}
use Rattle.smithy_router.specs.Deciding.{covers}
use Rattle.smithy_router.specs.Tables.{Entry, first_conflict}
use Rattle.smithy_router.specs.Adding.{with_last}
use Rattle.smithy_router.specs.Templates.{route_of}
use Rattle.smithy_recovery.specs.Recovered.{Reading}
use Rattle.smithy_job.specs.Routing.{Operation, Routing}
use Rattle.smithy_bind.specs.Recovering.{recovered_by}
use Rattle.smithy_bind.specs.Responding.{behind_name}
use Rattle.smithy_bind.specs.Told.{Outcome, no_job, fault_line}

-- the line of an operation whose template has no route
abbrev pub no_template : List ℕ → List ℕ
no_template name = codes "Template: " ++ (name ++ codes " has no routable template\n")

-- the line of an operation whose route conflicts with another one's
abbrev pub conflict : List ℕ → List ℕ → List ℕ
conflict name other = codes "Conflict: " ++ (name ++ (codes " conflicts with " ++ (other ++ codes "\n")))

-- the line where no route matches
abbrev pub no_route : List ℕ
no_route = codes "NoRoute: no operation has this request\n"

-- the route of an operation's template
unfoldable pub route_in : Operation → Option Route
route_in o = route_of (method_of o.schema) (template_of o.schema [])

-- the routes with one more, or the line where it conflicts with one that is there
abbrev pub with_route : List Entry → List ℕ → Route → Result (List Entry) (List ℕ)
with_route entries name route =
    option_map_or (λ e. Err (conflict name e.operation)) (first_conflict route entries) (Ok (with_last entries route name))

-- the routes with that of an operation
unfoldable pub with_operation : List Entry → Operation → Result (List Entry) (List ℕ)
with_operation entries o = option_map_or (with_route entries o.name) (route_in o) (Err (no_template o.name))

-- the routes with those of operations, one after the other, or the line of the first that is refused
abbrev pub with_operations : List Entry → List Operation → Result (List Entry) (List ℕ)
with_operations entries [] = Ok entries
with_operations entries (o ∷ os) = then_try (with_operation entries o) (λ more. with_operations more os)

-- the route matches, and each one that matches covers it; where no two conflict, it beats each other one
abbrev pub is_best : List ℕ → List ℕ → List Entry → Entry → Bool
is_best method target entries e =
    matches e.route method target && list_all (λ o. not (matches o.route method target) || covers o.route e.route) entries

-- the operation of the best route of a request
unfoldable pub operation_found : Request → List Entry → Option (List ℕ)
operation_found q entries = option_map (λ e. e.operation) (find (is_best q.method q.target entries) entries)

-- the first operation of this name
abbrev pub operation_named : List Operation → List ℕ → Option Operation
operation_named os name = find (λ o. same_text o.name name) os

-- the full name of an operation, and the input that has the request by its schema
abbrev pub told_input : (Schema → Reading) → OmitFlags → Request → Operation → Outcome
told_input reading omit q o = behind_name o.name (recovered_by (reading o.schema) omit q)

-- the answer by the operation that the routes lead to
abbrev pub found_by : (Schema → Reading) → Routing → List Entry → Outcome
found_by reading j entries =
    option_map_or (told_input reading j.omit j.request) (option_and_then (operation_named j.operations) (operation_found j.request entries)) (fault_line no_route)

abbrev pub found_or_refused : (Schema → Reading) → Routing → Result (List Entry) (List ℕ) → Outcome
found_or_refused reading j (Ok entries) = found_by reading j entries
found_or_refused reading j (Err line) = fault_line line

-- a request can be placed by the schema of each operation
abbrev pub are_checked : List Operation → Bool
are_checked os = list_all (λ o. checked_input o.schema) os

-- the answer to a request of many operations; a schema that no request can be placed by makes none
unfoldable pub routed_by : (Schema → Reading) → Routing → Outcome
routed_by reading j = if are_checked j.operations then found_or_refused reading j (with_operations [] j.operations) else no_job
