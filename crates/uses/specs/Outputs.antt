-- The output of a response with bodies of JSON (AWS restJson1).
use Rattle.std.specs.Prelude.{ℕ, false, Result}
use Rattle.smithy_http.specs.Responses.{Response}
use Rattle.smithy_http.specs.declared.non_utf8.NonUtf8HeaderHandling.TheVariants.{Reject}
use Rattle.smithy_schema.specs.Nodes.{Table}
use Rattle.smithy_serde.specs.declared.error.SerdeError.{SerdeError}
use Rattle.smithy_serde.specs.declared.struct_value.StructValue.{StructValue}
use Rattle.smithy_document.specs.JsonHeld.{json_held}
use Rattle.smithy_response.specs.ProtocolReaders.{bytes_of}
use Rattle.smithy_response.specs.WholeResponses.{GivesResponse}

-- what the response hands out by the node at a place, or its first refusal; a header that isn't UTF-8 is refused
abbrev pub GivesOutput : Table → ℕ → Response → Result StructValue SerdeError → Type 0
GivesOutput table place response result = GivesResponse table place response false Reject (json_held (bytes_of response)) result
