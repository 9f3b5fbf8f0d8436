-- The schemas of an operation among the shapes of a model (Smithy, JSON AST).
use Rattle.std.specs.Prelude.{ℕ, List, Option, option_and_then}
use Rattle.serde_json.specs.Data.{Data}
use Rattle.smithy_schema.specs.Nodes.{Schema}
use Rattle.smithy_model.specs.Models.{Asked, schema_in}
use Rattle.smithy_model.specs.Operations.{operation_at}
use Rattle.smithy_model.specs.declared.floats.Floats.TheVariants.{Kept}

-- The schema of what is asked of an operation of this name; none where the shapes have not the form of a model's as far as they are reached.
unfoldable pub schema_among : Asked → Data → List ℕ → Option Schema
schema_among asked shapes name = option_and_then (schema_in Kept asked shapes) (operation_at shapes name)
