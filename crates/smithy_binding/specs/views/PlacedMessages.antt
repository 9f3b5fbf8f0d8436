-- What the code makes of a message.
use Rattle.std.specs.Prelude.{◌≡◌, ℕ, List, map, string_bytes, Option, None}
use Rattle.smithy_binding.specs.Words.{Document, Writes, list_of}
use Rattle.smithy_binding.specs.Bindings.{pairs, labels}
use Rattle.smithy_binding.specs.Bodies.{body}
use Rattle.smithy_binding.specs.Faults.{Fault}
use Rattle.smithy_binding.specs.Messages.{message_fault, message_headers}
use Rattle.smithy_binding.specs.Placing.{Protocol}
use Rattle.smithy_binding.specs.declared.message.Message.{Message}
use Rattle.smithy_binding.specs.declared.message.MessagePlan.{MessagePlan}
use Rattle.smithy_binding.specs.views.Directed.{bound_fault_in, directed_of}
use Rattle.smithy_binding.specs.views.Seen.{label_pair}
use Rattle.smithy_binding.specs.views.TargetParts.{queries}

-- the protocol of a plan, where documents have these texts
abbrev pub message_protocol : (Document → List ℕ) → MessagePlan → Protocol
message_protocol text plan = record { content_type = plan.content_type.now; text_of = text }

-- the first fault of writes by a plan
abbrev pub planned_fault : MessagePlan → Writes → Option Fault
planned_fault plan ws = message_fault (bound_fault_in plan.schema.way) (directed_of plan.schema) (list_of ws)

-- the writes have no fault, and this is their message
pub record IsMessage (text : Document → List ℕ) (plan : MessagePlan) (ws : Writes) (m : Message) : Type 0 where
  pub faultless : planned_fault plan ws ≡ None
  pub headers : m.headers ≡ message_headers (message_protocol text plan) (directed_of plan.schema) (list_of ws) plan.omit
  pub body : m.body ≡ (body text (directed_of plan.schema) (list_of ws)).bytes
  pub query : string_bytes m.query ≡ queries (pairs (directed_of plan.schema) (list_of ws))
  pub labels : map label_pair m.labels.items ≡ labels (directed_of plan.schema) (list_of ws)
