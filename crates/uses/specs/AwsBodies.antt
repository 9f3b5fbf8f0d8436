-- Bodies as AWS's protocols have them, and requests with such bodies.
use Rattle.std.specs.Prelude.{◌≡◌, ℕ, codes, true, List, Some, ok_or, Result, Ok}
use Rattle.smithy_types.specs.Documents.{Document}
use Rattle.smithy_types.specs.Results.{then_try}
use Rattle.smithy_http.specs.Requests.{Request as Http}
use Rattle.smithy_schema.specs.Nodes.{Schema}
use Rattle.smithy_serde.specs.DocumentOf.{document_of}
use Rattle.smithy_serde.specs.Held as held
use Rattle.smithy_serde.specs.Values.{Writes, structure}
use Rattle.smithy_serde.specs.declared.builders.ValueReader.{ValueReader}
use Rattle.smithy_serde.specs.declared.error.SerdeError.{SerdeError}
use Rattle.smithy_serde.specs.declared.struct_value.StructValue.{StructValue}
use Rattle.smithy_binding.specs.Faults.{Fault, invalid_input}
use Rattle.smithy_binding.specs.Placing.{OmitFlags}
use Rattle.smithy_wire.specs.declared.side.Side.TheVariants.{Request}
use Rattle.smithy_wire.specs.Forms.{body_form}
use Rattle.smithy_wire.specs.WireText.{wire_held, wire_text}
use Rattle.smithy_wire.specs.declared.wire_json.WireJson.{WireJson}
use Rattle.smithy_wire.specs.WireOf.{form_in, style_in}
use Rattle.smithy_aws.specs.Requests.{rest_json1_request, taken_input}
use Rattle.uses.specs.RoundTrip.{ComesBackFrom}

-- the text by the schema of the document of these writes, with names in JSON
abbrev pub IsAwsBody : Schema → Writes → List ℕ → Type 0
IsAwsBody schema ws bytes = (d : Document) × (document_of (structure ws) ≡ Ok d) × (bytes ≡ wire_text true (body_form Request schema) d)

-- no request is made by the schema
abbrev pub unplaced : Fault
unplaced = invalid_input (codes "no request can be placed by the schema")

-- by a schema that requests are made by, the request of these writes, or their first fault
abbrev pub aws_request : Schema → Writes → List ℕ → OmitFlags → Result Http Fault
aws_request schema ws endpoint omit = then_try (ok_or (taken_input schema) unplaced) λ s. rest_json1_request s ws endpoint omit

-- where the body is a document by the node, the structure comes back from that
abbrev pub ComesFromBody : WireJson → List ℕ → ValueReader → Result StructValue SerdeError → Type 0
ComesFromBody wire body reader result =
    (d : Document) → wire_held (style_in wire) (form_in wire) body ≡ Some (held.document d) → ComesBackFrom reader d result
