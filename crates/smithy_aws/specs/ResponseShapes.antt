-- What is seen of a shape that responses are read by.
use Rattle.std.specs.Prelude.{◌≡◌, ℕ, Bool, false, Option, option_and_then, option_map}
use Rattle.smithy_schema.specs.Nodes.{Table, at_place}
use Rattle.smithy_aws.specs.ResponseValues.{Shape, schema_in, taken}
use Rattle.smithy_aws.specs.declared.response_shape.RestJson1Shape.{RestJson1Shape}

abbrev pub shape_at : Table → ℕ → Bool → Bool → Shape
shape_at table place is_error floors = record { schema = schema_in table place; is_error = is_error; floors_times = floors }

abbrev pub shape_of : RestJson1Shape → Shape
shape_of s = shape_at s.table.now s.shape.0 s.is_error s.floors_times

-- it is the shape at a place, if responses can be read by that
abbrev pub IsTaken : Table → ℕ → Bool → Option RestJson1Shape → Type 0
IsTaken table place is_error o = option_map shape_of o ≡ option_and_then (taken is_error) (at_place table place)
