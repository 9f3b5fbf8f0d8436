-- The value of a response of AWS restJson1 (Smithy, AWS restJson1 protocol).
use Rattle.std.specs.Prelude.{ℕ, Bool, true, false, ◌&&◌, Option, Some, None, Result, if◌then◌else◌}
use Rattle.smithy_types.specs.Results.{then_give}
use Rattle.smithy_http.specs.Responses.{Response}
use Rattle.smithy_http.specs.declared.non_utf8.NonUtf8HeaderHandling.{NonUtf8HeaderHandling}
use Rattle.smithy_schema.specs.Nodes.{Schema, Table}
use Rattle.smithy_schema.specs.References.{node_in}
use Rattle.smithy_serde.specs.Present.{present}
use Rattle.smithy_serde.specs.Values.{Value}
use Rattle.smithy_serde.specs.declared.error.SerdeError.{SerdeError}
use Rattle.smithy_binding.specs.CheckedOutput.{checked_output}
use Rattle.smithy_response.specs.ResponseValue.{value_of_response}
use Rattle.smithy_wire.specs.Forms.{body_form}
use Rattle.smithy_wire.specs.WireNames.{stands}
use Rattle.smithy_wire.specs.declared.side.Side.TheVariants as side
use Rattle.smithy_aws.specs.BodyValues.{held_in_body, style_of}

-- a shape that responses are read by, as an output or as a modelled error; fractions of seconds are dropped or refused
pub record Shape : Type 0 where
  pub schema : Schema
  pub is_error : Bool
  pub floors_times : Bool

-- the same, which drops them
abbrev pub floored : Shape → Shape
floored s = record s { floors_times = true }

-- responses can be read by it: its bindings are sound, and names stand
abbrev pub takes_responses : Schema → Bool
takes_responses n = checked_output n && stands side.Response n

abbrev pub taken : Bool → Schema → Option Shape
taken is_error n = if takes_responses n then Some (record { schema = n; is_error = is_error; floors_times = false }) else None

-- the node at a place that has one
abbrev pub schema_in : Table → ℕ → Schema
schema_in table place = record { table = table; node = node_in table place }

-- what status, headers and body have for the members, by their names in JSON in the body; a null member is not there
unfoldable pub rest_json1_value : Shape → Response → NonUtf8HeaderHandling → Result Value SerdeError
rest_json1_value s r policy =
    let held = held_in_body (style_of true s.floors_times) (body_form side.Response s.schema) r in
    then_give (value_of_response s.schema r held s.is_error policy) present
