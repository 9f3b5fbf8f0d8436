-- What comes of one input or of one response among many, beside the outcome of the job of that one alone.
use Rattle.std.specs.Prelude.{◌≡◌, Option, Some, Result, IsTrue}
use Rattle.std.specs.Option.{option_map_or}
use Rattle.serde_json.specs.Data.{Data}
use Rattle.smithy_http.specs.Requests.{Request}
use Rattle.smithy_binding.specs.Checked.{checked_input}
use Rattle.smithy_binding.specs.Faults.{Fault}
use Rattle.smithy_binding.specs.Placing.{Protocol}
use Rattle.smithy_job.specs.Common.{Many, many, IsAlone}
use Rattle.smithy_job.specs.Keys.{alone, keys_among, keys_of}
use Rattle.smithy_bind.specs.Outcome.{answered, sent_job, told}
use Rattle.smithy_bind.specs.Requesting.{answer_for}
use Rattle.smithy_bind.specs.Responding.{reply_to, responded_to, told_reply}
use Rattle.smithy_bind.specs.Told.{Outcome, no_job, outcome_of}

-- what `request` answers where this comes of an input
abbrev pub told_alone : Option (Result Request Fault) → Outcome
told_alone answer = option_map_or told answer no_job

-- Where many inputs have lines, `request` answers to a job with one of them, and with what their jobs have in common, what the line
-- of that input tells.
abbrev pub LinesAreAlone : Type 0
LinesAreAlone =
    (bodies : Protocol) (job item alone : Data) (m : Many) → many job ≡ Some m → IsTrue (checked_input m.common.schema) → IsAlone job item alone
    → sent_job (answered bodies) alone ≡ told_alone (answer_for bodies m.common item)

-- `response` answers to a job with the keys of an item among many, and with the model of their job, what the line of that item tells.
abbrev pub RepliesAreAlone : Type 0
RepliesAreAlone = (job item other : Data) → keys_of other ≡ keys_among job item → responded_to other ≡ outcome_of told_reply (reply_to (alone job item))
