-- What an output has in a response, or its first fault (Smithy, HTTP protocol bindings).
use Rattle.std.specs.Prelude.{false, List, Result, Ok}
use Rattle.smithy_binding.specs.Words.{Schema, Write}
use Rattle.smithy_binding.specs.Bodies.{body}
use Rattle.smithy_binding.specs.Directions.{directed_schema}
use Rattle.smithy_binding.specs.Faults.{Fault, behind}
use Rattle.smithy_binding.specs.Messages.{message_fault, message_headers}
use Rattle.smithy_binding.specs.Placing.{Protocol, OmitFlags}
use Rattle.smithy_binding.specs.ResponseCodes.{output_bound_fault, written_code}
use Rattle.smithy_binding.specs.declared.direction.Direction.TheVariants as direction
use Rattle.smithy_binding.specs.declared.output.PlacedOutput.{PlacedOutput}

-- the schema that a response goes by
abbrev pub as_output : Schema → Schema
as_output schema = directed_schema direction.Response schema

-- no default header is left out
abbrev pub keep_defaults : OmitFlags
keep_defaults = record { content_type = false; content_length = false }

-- The status where the response code is written, the headers and the body; or the first fault of the writes in order, or else of the
-- body's document.
unfoldable pub placed_output : Protocol → Schema → List Write → Result PlacedOutput Fault
placed_output protocol schema ws =
    let out = as_output schema in
    behind (message_fault output_bound_fault out ws)
    (Ok (record { code = written_code out ws; headers = message_headers protocol out ws keep_defaults; body = (body protocol.text_of out ws).bytes }))
