-- What is told of a job, as the code finds it.
use Rattle.std.specs.Prelude.{◌≡◌, ℕ, List, Option, Some, None, Result, Ok, Err, option_map, option_and_then}
use Rattle.smithy_schema.specs.Nodes.{Table, Schema, at_place}
use Rattle.smithy_binding.specs.Broken.{Broken, broken_input, broken_output}
use Rattle.smithy_model.specs.Nodes.{Errors}
use Rattle.smithy_binding.specs.declared.rules.BrokenRule.{BrokenRule}
use Rattle.smithy_binding.specs.views.Breaking.{broken_shown}
use Rattle.smithy_model.specs.declared.error.JobError.{JobError}
use Rattle.smithy_model.specs.declared.error.JobError.TheVariants.{NoJob, OutOfMemory}
use Rattle.smithy_job.specs.Jobs as jobs
use Rattle.smithy_job.specs.ReceivedView.{IsCoded, IsExpected}
use Rattle.smithy_job.specs.Routing.{Operation}
use Rattle.smithy_job.specs.declared.received.CodedError.{CodedError}
use Rattle.smithy_job.specs.declared.received.Expected.{Expected}
use Rattle.smithy_bind.specs.Explaining.{broken_expected, broken_operation, by_operation, in_owner, line_of_rule, not_checked, only, Breach}
use Rattle.smithy_bind.specs.Responding.{error_of}
use Rattle.smithy_bind.specs.Told.{Outcome, output, outcome_of}
use Rattle.smithy_bind.specs.declared.told.Answer.{Answer}
use Rattle.smithy_bind.specs.views.AnswerView.{outcome_view, Gives}

-- what is told by the first broken rule, if there is one
abbrev pub told_rule : Option Breach → Outcome
told_rule breach = output (line_of_rule breach)

-- it is what is told of a job by this, or that there is none
abbrev pub TellsRule : Option (Option Breach) → Result Answer JobError → Type 0
TellsRule rule result = Gives (outcome_of told_rule rule) result

-- it is what is told by the rule that the schema at a place breaks
abbrev pub TellsBroken : (Schema → Option Broken) → Table → ℕ → Result Answer JobError → Type 0
TellsBroken broken table place result = (s : Schema) → at_place table place ≡ Some s → Gives (told_rule (only (broken s))) result

-- it is this rule, if there is one; only memory may be wanting
abbrev pub IsRuleFound : Option Broken → Result (Option BrokenRule) JobError → Type 0
IsRuleFound rule (Ok found) = broken_shown found ≡ rule
IsRuleFound rule (Err e) = e ≡ OutOfMemory

-- it is the rule that the schema at a place breaks, if there is one
abbrev pub FindsRule : Table → ℕ → Result (Option BrokenRule) JobError → Type 0
FindsRule table place result = (s : Schema) → at_place table place ≡ Some s → IsRuleFound (broken_output s) result

-- the same of the error of a code, whatever the errors are that the code is looked for in
abbrev pub FindsCodedRule : Table → CodedError → Result (Option BrokenRule) JobError → Type 0
FindsCodedRule table error result = (errors : Errors) → IsCoded table error errors → IsRuleFound (option_and_then broken_output (error_of error.code.now errors)) result

-- the same of what a response is read as
abbrev pub FindsExpectedRule : Table → Expected → Result (Option BrokenRule) JobError → Type 0
FindsExpectedRule table expected result = (is : jobs.Expected) → IsExpected table expected is → IsRuleFound (broken_expected is) result

-- it is told of a response of many, or nothing where its schema is checked
abbrev pub TellsItem : Option (Option Breach) → Result (Option Answer) JobError → Type 0
TellsItem rule (Ok None) = rule ≡ Some None
TellsItem rule (Ok (Some answer)) = (b : Breach) × (rule ≡ Some (Some b)) × (outcome_view answer ≡ output (not_checked b))
TellsItem rule (Err NoJob) = rule ≡ None
TellsItem rule (Err OutOfMemory) = Unit {0}

-- what is told so far, if something is
abbrev pub told_seen : Option Answer → Option Outcome
told_seen told = option_map outcome_view told

-- the line of an operation of this name whose schema breaks this rule
abbrev pub line_of_broken : List ℕ → Broken → Outcome
line_of_broken name broken = output (not_checked (in_owner (by_operation name) broken))

-- what is told of an operation where its schema isn't checked
abbrev pub told_broken : Operation → Option Outcome
told_broken o = option_map (line_of_broken o.name) (broken_input o.schema)

-- what is told so far, or else of one operation more
abbrev pub with_broken : Option Outcome → Operation → Option Outcome
with_broken (Some told) o = Some told
with_broken None o = told_broken o

-- what is told so far, or else by the first of these operations whose schema isn't checked
abbrev pub told_or : Option Outcome → List Operation → Outcome
told_or (Some told) os = told
told_or None os = told_rule (broken_operation os)
