-- What is told of bytes that are to be the job of a command: that they are one, or why they are none.
use Rattle.std.specs.Prelude.{ℕ, ◌+◌, codes, decimal, List, [], ◌∷◌, ◌++◌, Option, Some, None, option_map, option_and_then}
use Rattle.std.specs.Option.{option_map_or, option_or}
use Rattle.serde_json.specs.Data.{Data}
use Rattle.smithy_json.specs.FromText.{json_of}
use Rattle.smithy_json.specs.JsonEnd.{json_end}
use Rattle.smithy_binding.specs.Broken.{Broken, broken_input, broken_output}
use Rattle.smithy_binding.specs.RuleTexts.{text_of_broken}
use Rattle.smithy_model.specs.Wrong.{Wrong, pointer}
use Rattle.smithy_job.specs.Answering.{answering}
use Rattle.smithy_job.specs.Common as many
use Rattle.smithy_job.specs.Gateway.{gateway}
use Rattle.smithy_job.specs.Jobs as jobs
use Rattle.smithy_job.specs.Jobs.{Expected, job, received, received_by}
use Rattle.smithy_job.specs.Keys.{Keys, keys_among, responses_given}
use Rattle.smithy_job.specs.Recovering.{recovering}
use Rattle.smithy_job.specs.Routing.{Operation, routing}
use Rattle.smithy_job.specs.WrongJobs.{wrong_in_job}
use Rattle.smithy_job.specs.declared.job_kind.JobKind.{JobKind}
use Rattle.smithy_job.specs.declared.job_kind.JobKind.TheVariants as kind
use Rattle.smithy_bind.specs.Responding.{error_of}

-- the line of a job
abbrev pub job_line : List ℕ
job_line = codes "Job\n"

-- The line where the bytes are no JSON: the place of the first byte that can't stand there (RFC 8259), or the number of bytes
-- where the text ends too early.
abbrev pub not_json : List ℕ → List ℕ
not_json bytes = codes "NotJson: byte " ++ (decimal (json_end bytes) ++ codes "\n")

-- whose schema breaks a rule: that of the whole job, of an operation of many, or of a response of many, by its position
pub data Owner : Type 0 where
  by_job : Owner
  by_operation : List ℕ → Owner
  by_response : ℕ → Owner

pub record Breach : Type 0 where
  pub owner : Owner
  pub broken : Broken

abbrev pub in_owner : Owner → Broken → Breach
in_owner owner broken = record { owner = owner; broken = broken }

-- behind its owner, where a job has many
abbrev pub told_by_owner : Owner → List ℕ → List ℕ
told_by_owner by_job text = text
told_by_owner (by_operation name) text = codes "operation " ++ (name ++ (codes ": " ++ text))
told_by_owner (by_response position) text = codes "response " ++ (decimal position ++ (codes ": " ++ text))

-- the line where a schema isn't checked: the first rule that it breaks, with the member that breaks it
abbrev pub not_checked : Breach → List ℕ
not_checked breach = codes "NotChecked: " ++ told_by_owner breach.owner (text_of_broken breach.broken ++ codes "\n")

-- the line of a place and of what is asked there
abbrev pub line_at : List ℕ → List ℕ → List ℕ
line_at place asked = codes "NoJob: " ++ (place ++ (codes ": " ++ (asked ++ codes "\n")))

-- the line where a value has not the form of the job: the first place that isn't as asked, as a JSON Pointer (RFC 6901)
abbrev pub not_job : Wrong → List ℕ
not_job wrong = line_at (pointer wrong.path) wrong.asked

-- a job, unless a rule is broken
abbrev pub line_of_rule : Option Breach → List ℕ
line_of_rule None = job_line
line_of_rule (Some breach) = not_checked breach

-- by the schemas of operations, in their order
abbrev pub broken_operation : List Operation → Option Breach
broken_operation [] = None
broken_operation (o ∷ os) = option_or (option_map (in_owner (by_operation o.name)) (broken_input o.schema)) (broken_operation os)

-- by the schema that a response is read by; an error that isn't found for its code has none
abbrev pub broken_expected : Expected → Option Broken
broken_expected (jobs.output schema) = broken_output schema
broken_expected (jobs.error schema) = broken_output schema
broken_expected (jobs.coded code errors) = option_and_then broken_output (error_of code errors)

-- the rule in a job's only schema
abbrev pub only : Option Broken → Option Breach
only broken = option_map (in_owner by_job) broken

-- the rule by which a response of many is none that is read, or none; none at all where there is no job of one
abbrev pub rule_among : ℕ → Keys → Option (Option Breach)
rule_among i k = option_map (λ r. option_map (in_owner (by_response i)) (broken_expected r.expected)) (received_by k)

-- a rule that is broken, or that there is no job, or else what follows
abbrev pub before : Option (Option Breach) → Option (Option Breach) → Option (Option Breach)
before (Some None) rest = rest
before first rest = first

-- of the first response that is no job of one, or whose schema isn't checked
abbrev pub rule_of_items : Data → ℕ → List Data → Option (Option Breach)
rule_of_items job i [] = Some None
rule_of_items job i (item ∷ items) = before (rule_among i (keys_among job item)) (rule_of_items job (i + 1) items)

-- The job that a value is, told by the first broken rule of the schema that a message is placed or read by. None where it is no job
-- of this kind. What is posted whole needs no checked schema.
abbrev pub rule_in : JobKind → Data → Option (Option Breach)
rule_in kind.Request d = option_map (λ j. only (broken_input j.schema)) (job d)
rule_in kind.Requests d = option_map (λ m. only (broken_input m.common.schema)) (many.whole d)
rule_in kind.Rpc d = option_map (λ j. None) (job d)
rule_in kind.Response d = option_map (λ r. only (broken_expected r.expected)) (received d)
rule_in kind.Responses d = option_and_then (rule_of_items d 0) (responses_given d)
rule_in kind.Recover d = option_map (λ j. only (broken_input j.schema)) (recovering d)
rule_in kind.Route d = option_map (λ j. broken_operation j.operations) (routing d)
rule_in kind.Gateway d = option_map (λ j. only (broken_input j.recovering.schema)) (gateway d)
rule_in kind.Answer d = option_map (λ j. only (broken_output j.output.schema)) (answering d)

-- what is told of a JSON value: a job, whose schema may break a rule, or none
abbrev pub line_of_value : JobKind → Data → List ℕ
line_of_value kind d = option_map_or line_of_rule (rule_in kind d) (not_job (wrong_in_job kind d))

-- what is told of bytes: of the JSON value that they are, or that they are none
unfoldable pub explained : JobKind → List ℕ → List ℕ
explained kind bytes = option_map_or (line_of_value kind) (json_of bytes) (not_json bytes)
