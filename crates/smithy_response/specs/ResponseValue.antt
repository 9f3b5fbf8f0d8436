-- A whole response as one value.
use Rattle.std.specs.Prelude.{Bool, Result}
use Rattle.smithy_response.specs.Words.{NonUtf8HeaderHandling, Response, Schema, SerdeError, Held}
use Rattle.smithy_serde.specs.Values.{Value}
use Rattle.smithy_serde.specs.MembersRead.{structure_listed}
use Rattle.smithy_response.specs.Handed.{handed}

-- what it hands out, as a structure of the output's members, its writes in index order
abbrev pub value_of_response : Schema → Response → Held → Bool → NonUtf8HeaderHandling → Result Value SerdeError
value_of_response schema response body is_error policy = structure_listed (handed schema response body is_error policy)
