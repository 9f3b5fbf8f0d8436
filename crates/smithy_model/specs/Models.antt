-- The schemas of an operation in a model (Smithy, JSON AST).
use Rattle.std.specs.Prelude.{ℕ, codes, List, [], ◌∷◌, ◌++◌, find, Option, Some, None, option_and_then}
use Rattle.serde_json.specs.Data.{Data}
use Rattle.serde_json.specs.Find.{get}
use Rattle.smithy_ids.specs.Traits.{Http}
use Rattle.smithy_schema.specs.Nodes.{Schema}
use Rattle.smithy_model.specs.Floats.{with_floats}
use Rattle.smithy_model.specs.Names.{is}
use Rattle.smithy_model.specs.Operations.{Operation, operation_at}
use Rattle.smithy_model.specs.Reached.{reached}
use Rattle.smithy_model.specs.Shapes.{Shape}
use Rattle.smithy_model.specs.Nodes.{Errors, schema_of, errors_of}
use Rattle.smithy_model.specs.declared.floats.Floats.{Floats}
use Rattle.smithy_model.specs.declared.floats.Floats.TheVariants.{Kept}

-- what has a schema: the input of an operation, its output, or its error of this full name
pub data Asked : Type 0 where
  input : Asked
  output : Asked
  error : List ℕ → Asked

-- the name of the shape that is asked for; an error is one of the operation's
abbrev pub name_asked : Asked → Operation → Option (List ℕ)
name_asked input o = Some o.input
name_asked output o = Some o.output
name_asked (error name) o = find (λ e. is e name) o.errors

-- `@http` passes to the input
abbrev pub http_asked : Asked → Operation → Option Http
http_asked input o = o.http
http_asked _ o = None

-- the first of these shapes has this `@http`, where there is one
abbrev pub with_http : Option Http → List Shape → List Shape
with_http (Some http) (s ∷ ss) = record s { traits = record s.traits { http = Some http } } ∷ ss
with_http _ shapes = shapes

-- the schema of the shape of this name, by those that are reached from it, of which it is the first
abbrev pub schema_from : Floats → Data → Option Http → List ℕ → Option Schema
schema_from floats shapes http name =
    option_and_then (λ found. schema_of (with_http http (with_floats floats found)) name) (reached shapes (name ∷ []))

abbrev pub schema_in : Floats → Asked → Data → Operation → Option Schema
schema_in floats asked shapes o = option_and_then (schema_from floats shapes (http_asked asked o)) (name_asked asked o)

abbrev pub errors_in : Floats → List (List ℕ) → Data → Operation → Option Errors
errors_in floats service shapes o =
    option_and_then (λ found. errors_of (with_floats floats found) o.errors service) (reached shapes (o.errors ++ service))

-- what the operation of this name has among a model's shapes
abbrev pub of_operation : {A : Type 0} → (Data → Operation → Option A) → Data → List ℕ → Option A
of_operation part model name = option_and_then (λ shapes. option_and_then (part shapes) (operation_at shapes name)) (get (codes "shapes") model)

-- The schema of what is asked of an operation of a model, whose floats are read so; none where the model has not the form of one as far as it is reached.
unfoldable pub schema_with_floats : Floats → Asked → Data → List ℕ → Option Schema
schema_with_floats floats asked model name = of_operation (schema_in floats asked) model name

-- with its floats as they are
unfoldable pub schema_in_model : Asked → Data → List ℕ → Option Schema
schema_in_model asked model name = of_operation (schema_in Kept asked) model name

-- `@http` of an operation of a model, where it has one; of the shapes the operation alone is looked at
unfoldable pub http_in_model : Data → List ℕ → Option (Option Http)
http_in_model model name = of_operation (λ shapes o. Some o.http) model name

-- The schemas of all errors of an operation and of these of its service, by the shapes that are reached from them.
unfoldable pub errors_with_floats : Floats → List (List ℕ) → Data → List ℕ → Option Errors
errors_with_floats floats service model name = of_operation (errors_in floats service) model name

-- with its floats as they are
unfoldable pub errors_in_model : List (List ℕ) → Data → List ℕ → Option Errors
errors_in_model service model name = of_operation (errors_in Kept service) model name
