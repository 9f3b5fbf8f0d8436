-- The response of an output, or its first fault.
use Rattle.std.specs.Prelude.{ℕ, List, Result, Option, Some, unwrap_or}
use Rattle.smithy_types.specs.Results.{then_give}
use Rattle.smithy_http.specs.Responses.{Response}
use Rattle.smithy_schema.specs.Nodes.{Schema}
use Rattle.smithy_serde.specs.Values.{Write}
use Rattle.smithy_binding.specs.Faults.{Fault}
use Rattle.smithy_binding.specs.Messages.{message_fault}
use Rattle.smithy_binding.specs.Outputs.{as_output, placed_output}
use Rattle.smithy_binding.specs.Placing.{Protocol}
use Rattle.smithy_binding.specs.ResponseCodes.{output_bound_fault}
use Rattle.smithy_binding.specs.declared.output.PlacedOutput.{PlacedOutput}

-- the first fault of an output, if there is one: of the writes in order, and then of the body's document
abbrev pub answer_fault : Schema → List Write → Option Fault
answer_fault schema ws = message_fault output_bound_fault (as_output schema) ws

-- the response of what an output has, with this status where the response code is not written
abbrev pub response_at : ℕ → PlacedOutput → Response
response_at code placed = record { status = unwrap_or placed.code code; headers = placed.headers; body = Some placed.body }

-- The response of an output, by a protocol, or the first fault of the output.
unfoldable pub answer_response : Protocol → Schema → List Write → ℕ → Result Response Fault
answer_response protocol schema ws code = then_give (placed_output protocol schema ws) (response_at code)
