-- What a message has of an input, or an output, but for its first line.
use Rattle.std.specs.Prelude.{ℕ, List, [], Option}
use Rattle.smithy_binding.specs.Words.{option_or, Schema, Write, Resolved}
use Rattle.smithy_binding.specs.Bindings.{headers}
use Rattle.smithy_binding.specs.Bodies.{body}
use Rattle.smithy_binding.specs.Faults.{Fault, writes_fault_by, body_fault}
use Rattle.smithy_binding.specs.Placing.{Protocol, OmitFlags, all_headers}

-- the first fault of the writes in order, that of a first write being told by `bound`, and then of the body's document
unfoldable pub message_fault : (Resolved → Option Fault) → Schema → List Write → Option Fault
message_fault bound schema ws = option_or (writes_fault_by bound schema [] ws) (body_fault schema ws)

-- the headers of the members, and behind them the defaults
unfoldable pub message_headers : Protocol → Schema → List Write → OmitFlags → List (List ℕ × List ℕ)
message_headers protocol schema ws omit = all_headers protocol (body protocol.text_of schema ws) omit (headers schema ws)
