-- The errors of a code, as the registries of the code have them.
use Rattle.std.specs.Prelude.{◌≡◌, ℕ, List, [], map, Option, Some, None}
use Rattle.smithy_types.specs.Maps.{with_value}
use Rattle.smithy_schema.specs.Nodes.{Table, Schema, at_place}
use Rattle.smithy_schema.specs.declared.parts.SchemaIndex.{SchemaIndex}
use Rattle.smithy_registry.specs.Registries.{Registered}
use Rattle.smithy_model.specs.Nodes.{Errors}
use Rattle.smithy_model.specs.PlacedView.{StandAt}
use Rattle.smithy_job.specs.ReceivedView.{IsCoded}
use Rattle.smithy_job.specs.declared.received.CodedError.{CodedError}
use Rattle.smithy_bind.specs.Responding.{error_of, with_errors}

-- what a function makes of the values, each under its name
abbrev pub each_value : {X Y : Type 0} → (X → Y) → List (List ℕ × X) → List (List ℕ × Y)
each_value f entries = map (λ e. (e.0, f e.1)) entries

-- the entries have the places of these schemas, each under its name
abbrev pub Registers : {R : Type 0} → Table → List (List ℕ × Schema) → List (List ℕ × Registered R) → Type 0
Registers table schemas entries = each_value (λ e. at_place table e.schema) entries ≡ each_value Some schemas

-- the schema at a place is registered under its name
abbrev pub AddsError : {R : Type 0} → Table → ℕ → List (List ℕ × Registered R) → List (List ℕ × Registered R) → Type 0
AddsError table place old new =
    (s : Schema) → at_place table place ≡ Some s → (schemas : List (List ℕ × Schema)) → Registers table schemas old
    → Registers table (with_value s.node.full_name s schemas) new

-- some schemas stand at these places
abbrev pub Stand : Table → List SchemaIndex → Type 0
Stand table places = (schemas : List Schema) × StandAt table places schemas

-- the errors that stand at these places are registered
abbrev pub RegistersAll : {R : Type 0} → Table → List SchemaIndex → List (List ℕ × Registered R) → Type 0
RegistersAll table places entries = (all : List Schema) → StandAt table places all → Registers table (with_errors all []) entries

-- the place is that of the schema that was found
abbrev pub IsFound : Table → Option Schema → Option SchemaIndex → Type 0
IsFound table (Some s) (Some place) = at_place table place.0 ≡ Some s
IsFound table None None = Unit {0}
IsFound table _ _ = ⊥

-- the place is that of the error of a code, whatever the errors are that it is looked for in
abbrev pub FindsCoded : Table → CodedError → Option SchemaIndex → Type 0
FindsCoded table error place = (errors : Errors) → IsCoded table error errors → IsFound table (error_of error.code.now errors) place
