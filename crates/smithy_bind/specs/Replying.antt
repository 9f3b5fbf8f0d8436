-- What is answered to many responses of one model.
use Rattle.std.specs.Prelude.{ℕ, codes, List, [], ◌∷◌, ◌++◌, Option, Some, None, Result, Ok, Err}
use Rattle.serde_json.specs.Data.{Data, Members, string, no_members, member}
use Rattle.serde_json.specs.Written.{compact_text}
use Rattle.smithy_document.specs.JsonText.{as_data}
use Rattle.smithy_serde.specs.declared.error.SerdeError.{SerdeError}
use Rattle.smithy_job.specs.Keys.{alone, responses_given}
use Rattle.smithy_bind.specs.Lines.{fault_value, with_status}
use Rattle.smithy_bind.specs.Responding.{Reply, reply_to}
use Rattle.smithy_bind.specs.Shown.{refusal_words}
use Rattle.smithy_bind.specs.Told.{Outcome, output, outcome_of}

-- the full name of an error that was found for a code, before other members
abbrev pub error_member : Option (List ℕ) → Members → Members
error_member None ms = ms
error_member (Some name) ms = member (codes "error") (string name) ms

abbrev pub reply_members : Reply → Members
reply_members r = error_member r.error (member (codes "value") (as_data r.document) no_members)

-- what was read; the first refusal; or that there is no job
abbrev pub reply_value : Option (Result Reply SerdeError) → Data
reply_value (Some (Ok r)) = with_status 0 (reply_members r)
reply_value (Some (Err e)) = fault_value (refusal_words e)
reply_value None = with_status 2 no_members

-- its compact text, and the end of the line
unfoldable pub reply_line : Option (Result Reply SerdeError) → List ℕ
reply_line reply = compact_text (reply_value reply) ++ codes "\n"

-- the line of an item of a job, by what is read of the response that the job of this item alone has
abbrev pub line_of_item : Data → Data → List ℕ
line_of_item job item = reply_line (reply_to (alone job item))

-- a line for each item, in order
abbrev pub lines_of_items : Data → List Data → List ℕ
lines_of_items job [] = []
lines_of_items job (item ∷ items) = line_of_item job item ++ lines_of_items job items

-- the answer to the responses that a JSON value has
unfoldable pub replied_to : Data → Outcome
replied_to job = outcome_of (λ items. output (lines_of_items job items)) (responses_given job)
