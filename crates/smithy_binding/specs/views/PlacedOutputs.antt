-- What the code finds of an output, and makes of it.
use Rattle.std.specs.Prelude.{◌≡◌, ℕ, List, Option, option_map, option_and_then, Result}
use Rattle.std.specs.Borrow.{Bor}
use Rattle.smithy_binding.specs.Words.{Document, Table, schema_of, SchemaRef, SerdeError, ShapeValue, WriteList, value_in, writes_in, Value, list_of}
use Rattle.smithy_binding.specs.Outputs.{placed_output}
use Rattle.smithy_binding.specs.Refusing.{Answers}
use Rattle.smithy_binding.specs.ResponseCodes.{status_value, code_write}
use Rattle.smithy_binding.specs.declared.direction.DirectedSchema.{DirectedSchema}
use Rattle.smithy_binding.specs.declared.output.PlacedOutput.{PlacedOutput}
use Rattle.smithy_binding.specs.views.Directed.{directed_of}

-- a stored value, if there is one, over the nodes of a table
abbrev pub value_found : Table → Option (Bor ShapeValue) → Option Value
value_found t found = option_map (λ v. value_in t v.now) found

-- it is the value of the first write of the response code, if that is written
abbrev pub IsCode : DirectedSchema → Table → WriteList → Option (Bor ShapeValue) → Type 0
IsCode schema t ws found =
    value_found t found ≡ option_map (λ r. r.value) (code_write (directed_of schema) (list_of (writes_in t ws)))

-- it is the status that the value is, over the nodes of any table
abbrev pub IsStatusOf : Option (Bor ShapeValue) → Option ℕ → Type 0
IsStatusOf found status = (t : Table) → status ≡ option_and_then status_value (value_found t found)

-- an outcome of code is what stored writes have in a response, or their first fault
abbrev pub PlacesOutput : (Document → List ℕ) → List ℕ → SchemaRef → Table → WriteList → Result PlacedOutput SerdeError → Type 0
PlacesOutput text content_type schema t ws result =
    Answers result (placed_output (record { content_type = content_type; text_of = text }) (schema_of schema) (list_of (writes_in t ws)))
