-- What a command answers.
use Rattle.std.specs.Prelude.{ℕ, codes, List, [], Result, Option, Some, None, if◌then◌else◌}
use Rattle.std.specs.Option.{option_map_or}
use Rattle.smithy_http.specs.Requests.{Request}
use Rattle.smithy_schema.specs.Nodes.{Schema}
use Rattle.smithy_serde.specs.Values.{Write, Writes, writes_of}
use Rattle.smithy_serde.specs.declared.header_omit_settings.OmitFlags.{OmitFlags}
use Rattle.smithy_binding.specs.Placing.{Protocol}
use Rattle.smithy_binding.specs.Answer.{answer}
use Rattle.smithy_binding.specs.Rpc.{rpc_answer}
use Rattle.smithy_binding.specs.Faults.{Fault}
use Rattle.smithy_binding.specs.Checked.{checked_input}
use Rattle.smithy_types.specs.Documents.{Document}
use Rattle.smithy_document.specs.JsonHeld.{json_held}
use Rattle.smithy_document.specs.JsonText.{json_text}
use Rattle.serde_json.specs.Data.{Data, null}
use Rattle.serde_json.specs.Find.{get}
use Rattle.smithy_model.specs.declared.floats.Floats.TheVariants.{Decimals}
use Rattle.smithy_job.specs.Answering.{answering}
use Rattle.smithy_job.specs.AwsKeys.{call_in}
use Rattle.smithy_job.specs.Common.{many}
use Rattle.smithy_job.specs.Gateway.{Gateway, gateway}
use Rattle.smithy_job.specs.Jobs.{Job, job, job_with_floats}
use Rattle.smithy_job.specs.Recovering.{Recovering, recovering}
use Rattle.smithy_job.specs.Routing.{routing}
use Rattle.smithy_recovery.specs.Recovered.{Reading}
use Rattle.smithy_gateway.specs.Calls.{Calling}
use Rattle.smithy_bind.specs.AwsRequesting.{aws_sent}
use Rattle.smithy_bind.specs.AwsResponding.{aws_responded}
use Rattle.smithy_bind.specs.Shown.{shown}
use Rattle.smithy_bind.specs.Commands.{command_of, reads_input}
use Rattle.smithy_bind.specs.Told.{Outcome, usage, no_job, output, told_by, outcome_of, by_json}
use Rattle.smithy_bind.specs.Explaining.{line_of_value, not_json}
use Rattle.smithy_bind.specs.Gateway.{gatewayed_by}
use Rattle.smithy_bind.specs.Recovering.{recovered_by}
use Rattle.smithy_bind.specs.Replying.{replied_to}
use Rattle.smithy_bind.specs.Requesting.{requested_by}
use Rattle.smithy_bind.specs.Responding.{responded_to}
use Rattle.smithy_bind.specs.Routing.{routed_by}
use Rattle.smithy_bind.specs.Serving.{served_job}
use Rattle.smithy_bind.specs.Generating.{generated, summary}
use Rattle.smithy_bind.specs.Texts.{help_text, version_text}
use Rattle.smithy_bind.specs.declared.command.Command.{Command}
use Rattle.smithy_bind.specs.declared.command.Command.TheVariants as command
use Rattle.smithy_job.specs.declared.gateway.Sending.{Sending}
use Rattle.smithy_job.specs.declared.gateway.Sending.TheVariants.{Rest, Rpc}

-- a protocol with bodies of JSON, whose documents have this text (AWS restJson1)
abbrev pub json_bodies : (Document → List ℕ) → Protocol
json_bodies text_of = record { content_type = codes "application/json"; text_of = text_of }

-- the request, or the first fault
abbrev pub told : Result Request Fault → Outcome
told answer = told_by shown answer

-- the answer to writes, by a protocol and a schema
abbrev pub sent : Protocol → Schema → List Write → List ℕ → OmitFlags → Outcome
sent protocol schema ws endpoint omit = told (answer protocol schema ws endpoint omit)

-- the answer to a job, by a protocol; a schema that a request can't be placed by makes none
unfoldable pub answered : Protocol → Job → Outcome
answered protocol j = if checked_input j.schema then sent protocol j.schema j.writes j.endpoint j.omit else no_job

-- the answer to writes that are posted whole, by a protocol
abbrev pub sent_whole : Protocol → Writes → List ℕ → OmitFlags → Outcome
sent_whole protocol ws endpoint omit = told (rpc_answer protocol ws endpoint omit)

-- the answer to a job, whatever its schema
unfoldable pub called : Protocol → Job → Outcome
called protocol j = sent_whole protocol (writes_of j.writes) j.endpoint j.omit

-- the answer to a job, as its input is sent
abbrev pub sent_by : Sending → Protocol → Job → Outcome
sent_by Rest protocol j = answered protocol j
sent_by Rpc protocol j = called protocol j

-- the answer to the job that a JSON value is
unfoldable pub sent_job : (Job → Outcome) → Data → Outcome
sent_job answer d = outcome_of answer (job d)

-- the same of a job whose floats are decimals
unfoldable pub decimal_job_sent : (Job → Outcome) → Data → Outcome
decimal_job_sent answer d = outcome_of answer (job_with_floats Decimals d)

-- the answer to the input that a JSON value has, by the protocol of AWS that a value names
abbrev pub sent_by_aws : Data → Data → Outcome
sent_by_aws protocol d = outcome_of (λ call. decimal_job_sent (aws_sent call) d) (call_in protocol d)

-- the same by the protocol that the JSON value names, and what `request` answers where it names none
unfoldable pub aws_requested : Protocol → Data → Outcome
aws_requested bodies d = option_map_or (λ p. sent_by_aws p d) (get (codes "protocol") d) (sent_job (sent_by Rest bodies) d)

-- the answer to the inputs that a JSON value has, by a protocol
unfoldable pub requested_to : Protocol → Data → Outcome
requested_to protocol d = outcome_of (requested_by protocol) (many d)

-- by bodies of JSON, a schema and an endpoint
abbrev pub json_reading : Schema → List ℕ → Reading
json_reading schema endpoint =
    record { protocol = json_bodies json_text; holds = json_held; schema = schema; endpoint = endpoint }

-- the answer to a request whose input is recovered
abbrev pub recovered_job : Recovering → Outcome
recovered_job j = recovered_by (json_reading j.schema j.endpoint) j.omit j.request

-- the answer to the request that a JSON value has
unfoldable pub recovered_to : Data → Outcome
recovered_to d = outcome_of recovered_job (recovering d)

-- by bodies of JSON and a schema with `@http`, which has no endpoint
abbrev pub json_requests : Schema → Reading
json_requests schema = json_reading schema []

-- the answer to the request and the operations that a JSON value has
unfoldable pub routed_to : Data → Outcome
routed_to d = outcome_of (routed_by json_requests) (routing d)

-- by calls with bodies of JSON
abbrev pub json_calls : Calling
json_calls = record { protocol = json_bodies json_text; holds = json_held }

-- the answer to a request that is sent on
abbrev pub gatewayed_job : Gateway → Outcome
gatewayed_job j =
    gatewayed_by j.to (json_reading j.recovering.schema j.recovering.endpoint) json_calls j.recovering.omit j.rpc_endpoint j.recovering.request

-- the answer to the request that a JSON value has, where it is sent on
unfoldable pub gatewayed_to : Data → Outcome
gatewayed_to d = outcome_of gatewayed_job (gateway d)

-- the answer to the output that a JSON value has, by a protocol
unfoldable pub served_to : Protocol → Data → Outcome
served_to protocol d = outcome_of (served_job protocol) (answering d)

-- four lines on the request, or the first fault
abbrev pub summed : Result Request Fault → Outcome
summed answer = told_by summary answer

-- the answer to a count, by a protocol
abbrev pub generated_by : Protocol → ℕ → Outcome
generated_by protocol n = summed (generated protocol n)

-- What each command answers to the JSON value of its input, where a protocol has the bodies of requests. The last three read no
-- input, and look at no value.
abbrev pub answer_to : Protocol → Command → Data → Outcome
answer_to bodies command.Request d = sent_job (sent_by Rest bodies) d
answer_to bodies command.Requests d = requested_to bodies d
answer_to bodies command.Rpc d = sent_job (sent_by Rpc bodies) d
answer_to bodies command.Response d = responded_to d
answer_to bodies command.Responses d = replied_to d
answer_to bodies command.Recover d = recovered_to d
answer_to bodies command.Route d = routed_to d
answer_to bodies command.Gateway d = gatewayed_to d
answer_to bodies command.Answer d = served_to bodies d
answer_to bodies command.AwsRequest d = aws_requested bodies d
answer_to bodies command.AwsResponse d = aws_responded d
answer_to bodies (command.Explain kind) d = output (line_of_value kind d)
answer_to bodies (command.Generate n) d = generated_by bodies n
answer_to bodies command.Help d = output help_text
answer_to bodies command.Version d = output version_text

-- What a command answers to bytes that are no JSON: they are no job, which `explain` tells.
abbrev pub unread : Command → List ℕ → Outcome
unread (command.Explain kind) bytes = output (not_json bytes)
unread _ bytes = no_job

-- what a command that reads its input answers to the bytes of it
abbrev pub answer_read : Protocol → Command → List ℕ → Outcome
answer_read bodies c bytes = by_json (answer_to bodies c) (unread c bytes) bytes

-- what a command answers to the bytes of its input
abbrev pub answer_over : Protocol → Command → List ℕ → Outcome
answer_over bodies c bytes = if reads_input c then answer_read bodies c bytes else answer_to bodies c null

abbrev pub outcome_by : Option Command → List ℕ → Outcome
outcome_by None bytes = usage
outcome_by (Some c) bytes = answer_over (json_bodies json_text) c bytes

abbrev pub outcome : List (List ℕ) → List ℕ → Outcome
outcome words bytes = outcome_by (command_of words) bytes
