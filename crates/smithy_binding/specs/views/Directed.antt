-- What the messages of a direction have, in the words of the definitions.
use Rattle.std.specs.Prelude.{Option, None}
use Rattle.smithy_binding.specs.Words.{Schema, schema_of, SchemaRef, Binding, Value, Resolved}
use Rattle.smithy_binding.specs.Directions.{directed_schema}
use Rattle.smithy_binding.specs.Faults.{Fault, bound_fault}
use Rattle.smithy_binding.specs.ResponseCodes.{output_bound_fault, status_fault}
use Rattle.smithy_binding.specs.declared.direction.Direction.{Direction}
use Rattle.smithy_binding.specs.declared.direction.Direction.TheVariants as direction
use Rattle.smithy_binding.specs.declared.direction.DirectedSchema.{DirectedSchema}

abbrev pub directed_of : DirectedSchema → Schema
directed_of s = directed_schema s.way (schema_of s.schema)

-- a reference with the direction
abbrev pub with_direction : Direction → SchemaRef → DirectedSchema
with_direction way s = record { schema = s; way = way }

-- the fault of the first write of a bound member other than a payload, in a message of the direction
abbrev pub bound_fault_in : Direction → Resolved → Option Fault
bound_fault_in direction.Request = bound_fault
bound_fault_in direction.Response = output_bound_fault

-- what it asks beside the request's
abbrev pub status_fault_in : Direction → Binding → Value → Option Fault
status_fault_in direction.Request b v = None
status_fault_in direction.Response b v = status_fault b v
