-- What a body of AWS's JSON protocols has at hand, and the value of one that holds a whole structure (Smithy, AWS JSON protocols).
use Rattle.std.specs.Prelude.{◌≡◌, ℕ, Bool, false, [], Some, unwrap_or, Result}
use Rattle.smithy_types.specs.Results.{then_give}
use Rattle.smithy_http.specs.Responses.{Response}
use Rattle.smithy_schema.specs.Nodes.{Schema, Table, at_place, shape}
use Rattle.smithy_serde.specs.Held.{Held, refused}
use Rattle.smithy_serde.specs.Present.{present}
use Rattle.smithy_serde.specs.ReadCalls.{Gives}
use Rattle.smithy_serde.specs.ValueRead.{value_of_structure, value_read}
use Rattle.smithy_serde.specs.ValueReading.{structure_of}
use Rattle.smithy_serde.specs.Values.{Value}
use Rattle.smithy_serde.specs.declared.error.SerdeError.{SerdeError}
use Rattle.smithy_serde.specs.declared.error.SerdeError.TheVariants.{OutOfMemory}
use Rattle.smithy_serde.specs.declared.struct_value.StructValue.{StructValue}
use Rattle.smithy_wire.specs.Forms.{Form, whole_form}
use Rattle.smithy_wire.specs.WireText.{wire_held}
use Rattle.smithy_wire.specs.declared.wire_style.WireStyle.{WireStyle}

-- with names in JSON or without; fractions of seconds are dropped or refused
abbrev pub style_of : Bool → Bool → WireStyle
style_of names floors = record { json_names = names; floors_times = floors }

-- what a reader of the body has at hand, which is told of each body
abbrev pub held_in_body : WireStyle → Form → Response → Held
held_in_body style f r = unwrap_or (wire_held style f (unwrap_or r.body [])) (refused OutOfMemory)

-- AWS JSON 1.0 and 1.1: what the body has for the members, whatever bindings they have; a null member is not there. Fractions of
-- seconds are dropped or refused.
unfoldable pub aws_json_value : Bool → Schema → Response → Result Value SerdeError
aws_json_value floors n r =
    then_give (value_of_structure value_read (shape n) (held_in_body (style_of false floors) (whole_form n) r)) present

-- the structure is the value that is read, or the refusal is the first one; want of memory is free
abbrev pub GivesValue : Result Value SerdeError → Result StructValue SerdeError → Type 0
GivesValue value result = Gives structure_of (Some value) result

-- the same by the node at a place
abbrev pub GivesAwsJson : Bool → Table → ℕ → Response → Result StructValue SerdeError → Type 0
GivesAwsJson floors table place r result = (n : Schema) → at_place table place ≡ Some n → GivesValue (aws_json_value floors n r) result
