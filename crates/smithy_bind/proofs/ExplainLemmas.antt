-- What is told of a job by its schema, from its parts.
use Rattle.std.proofs.Common.{◌≡◌, ◌∙◌, sym, ap, subst, refl, ℕ, ◌+◌, ◌<◌, ◌≤◌, List, [], ◌∷◌, length, get_or, drop, map, Option, Some, None, Result, Ok, Err, option_map, option_and_then}
use Rattle.std.specs.Option.{option_map_or, option_or}
use Rattle.std.proofs.Math.ListN.{drop_of_length-le}
use Rattle.std.proofs.lemmas.List.{drop_more}
use Rattle.serde_json.specs.Data.{Data}
use Rattle.smithy_json.specs.JsonView.{view}
use Rattle.smithy_json.specs.declared.value.JsonValue.{JsonValue}
use Rattle.smithy_schema.specs.Nodes.{Schema, Table, at_place}
use Rattle.smithy_schema.specs.declared.parts.SchemaIndex.{SchemaIndex}
use Rattle.smithy_binding.specs.Broken.{Broken, broken_input, broken_output}
use Rattle.smithy_binding.specs.declared.rules.BrokenRule.{BrokenRule}
use Rattle.smithy_binding.specs.views.Breaking.{broken_of, broken_shown}
use Rattle.smithy_types.specs.Results.{each}
use Rattle.smithy_model.specs.Reads.{Reads}
use Rattle.smithy_model.specs.Wrong.{Wrong}
use Rattle.smithy_model.specs.declared.error.JobError.{JobError}
use Rattle.smithy_model.specs.declared.error.JobError.TheVariants.{NoJob, OutOfMemory}
use Rattle.smithy_job.specs.Answering as answering
use Rattle.smithy_job.specs.Gateway as gateways
use Rattle.smithy_job.specs.Jobs as jobs
use Rattle.smithy_job.specs.Keys.{keys_among}
use Rattle.smithy_job.specs.Recovering as recovering
use Rattle.smithy_job.specs.GatewayView.{IsGateway}
use Rattle.smithy_job.specs.JobView.{IsJob}
use Rattle.smithy_job.specs.ReceivedView.{IsExpected, IsReceived}
use Rattle.smithy_job.specs.RecoveringView.{IsRecovering}
use Rattle.smithy_job.specs.Routing.{Operation, Routing, routing}
use Rattle.smithy_job.specs.RoutingView.{all_named, operation_seen, routing_of}
use Rattle.smithy_job.specs.Tables.{Has}
use Rattle.smithy_job.specs.WrittenView.{IsAnswering}
use Rattle.smithy_job.specs.declared.answering.Answering.{Answering}
use Rattle.smithy_job.specs.declared.gateway.Gateway.{Gateway}
use Rattle.smithy_job.specs.declared.reading.Job.{Job}
use Rattle.smithy_job.specs.declared.received.CodedError.{CodedError}
use Rattle.smithy_job.specs.declared.received.Expected.TheVariants.{Output, Error, Coded}
use Rattle.smithy_job.specs.declared.received.Received.{Received}
use Rattle.smithy_job.specs.declared.job_kind.JobKind.TheVariants as kind
use Rattle.smithy_job.specs.declared.recovering.Recovering.{Recovering}
use Rattle.smithy_job.specs.declared.routing.NamedRouting.{NamedRouting}
use Rattle.smithy_bind.specs.Explaining.{before, broken_expected, broken_operation, in_owner, job_line, line_of_rule, not_checked, not_job, only, by_operation, by_response, rule_among, rule_in, rule_of_items, Breach}
use Rattle.smithy_bind.specs.Told.{Outcome, output, outcome_of}
use Rattle.smithy_bind.specs.declared.told.Answer.{Answer}
use Rattle.smithy_bind.specs.declared.told.Answer.TheVariants.{Fault, Output as Told}
use Rattle.smithy_bind.specs.views.AnswerView.{Gives}
use Rattle.smithy_bind.specs.views.ExplainingView.{line_of_broken, told_or, told_rule, with_broken, FindsCodedRule, FindsExpectedRule, FindsRule, IsRuleFound, TellsBroken, TellsItem, TellsRule}
use Rattle.smithy_bind.specs.views.CodedView.{IsFound}
use Rattle.smithy_bind.specs.views.ReplyView.{IsExpectable}

-- by the schema that stands at a place of its table
by_place : {J V : Type 0} (Is : J → V → Type 0) (schema_in : V → Schema) (broken : Schema → Option Broken) (table : Table) (place : ℕ) (j : J)
    → ((v : V) → Is j v → at_place table place ≡ Some (schema_in v)) → (o : Option V) (result : Result Answer JobError)
    → Has o (Is j) → TellsBroken broken table place result → TellsRule (option_map (λ v. only (broken (schema_in v))) o) result
by_place Is schema_in broken table place j stands (Some v) result has told = told (schema_in v) (stands v has)
by_place Is schema_in broken table place j stands None result has told = absurd has

pub request_told : (o : Option jobs.Job) (j : Job) (result : Result Answer JobError) → Has o (IsJob j) → TellsBroken broken_input j.table j.index.0 result
    → TellsRule (option_map (λ v. only (broken_input v.schema)) o) result
request_told o j result = by_place IsJob (λ v. v.schema) broken_input j.table j.index.0 j (λ v is. is.schema) o result

pub call_told : (o : Option jobs.Job) (j : Job) (result : Result Answer JobError) → Has o (IsJob j) → Gives (told_rule None) result → TellsRule (option_map (λ v. None) o) result
call_told (Some v) j result has told = told
call_told None j result has told = absurd has

pub recovering_told : (o : Option recovering.Recovering) (j : Recovering) (result : Result Answer JobError) → Has o (IsRecovering j) → TellsBroken broken_input j.table j.index.0 result
    → TellsRule (option_map (λ v. only (broken_input v.schema)) o) result
recovering_told o j result = by_place IsRecovering (λ v. v.schema) broken_input j.table j.index.0 j (λ v is. is.schema) o result

pub gateway_told : (o : Option gateways.Gateway) (j : Gateway) (result : Result Answer JobError) → Has o (IsGateway j)
    → TellsBroken broken_input j.recovering.table j.recovering.index.0 result → TellsRule (option_map (λ v. only (broken_input v.recovering.schema)) o) result
gateway_told o j result = by_place IsGateway (λ v. v.recovering.schema) broken_input j.recovering.table j.recovering.index.0 j (λ v is. is.recovering.schema) o result

pub answering_told : (o : Option answering.Answering) (j : Answering) (result : Result Answer JobError) → Has o (IsAnswering j)
    → TellsBroken broken_output j.output.table j.output.index.0 result → TellsRule (option_map (λ v. only (broken_output v.output.schema)) o) result
answering_told o j result = by_place IsAnswering (λ v. v.output.schema) broken_output j.output.table j.output.index.0 j (λ v is. is.output.schema) o result

-- ---- lines

-- a job is told by its line
pub line_told : (rule : Option (Option Breach)) (w : Wrong) (told : Answer) → TellsRule rule (Ok told) → Gives (output (option_map_or line_of_rule rule (not_job w))) (Ok told)
line_told None w (Fault line) is = absurd (cc is)
line_told None w (Told text) is = absurd (cc is)
line_told (Some r) w told is = is

-- what is no job is told by that line
pub wrong_line_told : (rule : Option (Option Breach)) (w : Wrong) (result : Result Answer JobError) → TellsRule rule (Err NoJob) → Gives (output (not_job w)) result
    → Gives (output (option_map_or line_of_rule rule (not_job w))) result
wrong_line_told None w result is told = told
wrong_line_told (Some r) w result is told = absurd (cc is)

-- ---- responses

module _ (table : Table) (found : Result (Option BrokenRule) JobError) where
  -- by what is expected
  pub output_rule_found : (place : SchemaIndex) → FindsRule table place.0 found → FindsExpectedRule table (Output place) found
  output_rule_found place finds = go
    where
      go : (is : jobs.Expected) → IsExpected table (Output place) is → IsRuleFound (broken_expected is) found
      go (jobs.output s) at = finds s at
      go (jobs.error s) at = absurd at
      go (jobs.coded code errors) at = absurd at

  pub error_rule_found : (place : SchemaIndex) → FindsRule table place.0 found → FindsExpectedRule table (Error place) found
  error_rule_found place finds = go
    where
      go : (is : jobs.Expected) → IsExpected table (Error place) is → IsRuleFound (broken_expected is) found
      go (jobs.output s) at = absurd at
      go (jobs.error s) at = finds s at
      go (jobs.coded code errors) at = absurd at

  pub coded_rule_found : (error : CodedError) → FindsCodedRule table error found → FindsExpectedRule table (Coded error) found
  coded_rule_found error finds = go
    where
      go : (is : jobs.Expected) → IsExpected table (Coded error) is → IsRuleFound (broken_expected is) found
      go (jobs.output s) at = absurd at
      go (jobs.error s) at = absurd at
      go (jobs.coded code errors) at = subst (λ (c : List ℕ). IsRuleFound (broken_expected (jobs.coded c errors)) found) at.0 (finds errors at.1)

  -- by the error that was found for a code
  pub found_rule : (error : Option Schema) (place : SchemaIndex) → IsFound table error (Some place) → FindsRule table place.0 found → IsRuleFound (option_and_then broken_output error) found
  found_rule (Some s) place at finds = finds s at
  found_rule None place at finds = absurd at

pub none_rule : (table : Table) (error : Option Schema) → IsFound table error None → IsRuleFound (option_and_then broken_output error) (Ok None)
none_rule table (Some s) at = absurd at
none_rule table None at = refl

-- what is expected of a response
pub received_stands : (o : Option jobs.Received) (r : Received) → Has o (IsReceived r) → IsExpectable r.table r.expected
received_stands (Some v) r has = (v.expected, has.expected)
received_stands None r has = absurd has

pub response_told : (o : Option jobs.Received) (r : Received) (found : Option BrokenRule) (result : Result Answer JobError) → Has o (IsReceived r) → FindsExpectedRule r.table r.expected (Ok found)
    → Gives (told_rule (only (broken_shown found))) result → TellsRule (option_map (λ v. only (broken_expected v.expected)) o) result
response_told (Some v) r found result has finds told = subst (λ b. Gives (told_rule (only b)) result) (finds v.expected has.expected) told
response_told None r found result has finds told = absurd has

-- memory was wanted where a rule was looked for
pub rule_unfound : (o : Option jobs.Received) (r : Received) (x : JobError) → Has o (IsReceived r) → FindsExpectedRule r.table r.expected (Err x) → x ≡ OutOfMemory
rule_unfound (Some v) r x has finds = finds v.expected has.expected
rule_unfound None r x has finds = absurd has

pub response_untold : (rule : Option (Option Breach)) (e : JobError) (result : Result Answer JobError) → result ≡ Err e → e ≡ OutOfMemory → TellsRule rule result
response_untold rule e result same is = rw (same ∙ ap Err is) tt

-- one response of many

pub item_broken : (i : ℕ) (o : Option jobs.Received) (r : Received) (b : BrokenRule) (told : Answer) → Has o (IsReceived r) → FindsExpectedRule r.table r.expected (Ok (Some b))
    → Gives (output (not_checked (in_owner (by_response i) (broken_of b)))) (Ok told) → TellsItem (option_map (λ v. option_map (in_owner (by_response i)) (broken_expected v.expected)) o) (Ok (Some told))
item_broken i (Some v) r b told has finds is = (in_owner (by_response i) (broken_of b), ap (λ x. Some (option_map (in_owner (by_response i)) x)) (sym (finds v.expected has.expected)), is)
item_broken i None r b told has finds is = absurd has

pub item_fits : (i : ℕ) (o : Option jobs.Received) (r : Received) → Has o (IsReceived r) → FindsExpectedRule r.table r.expected (Ok None)
    → TellsItem (option_map (λ v. option_map (in_owner (by_response i)) (broken_expected v.expected)) o) (Ok None)
item_fits i (Some v) r has finds = ap (λ x. Some (option_map (in_owner (by_response i)) x)) (sym (finds v.expected has.expected))
item_fits i None r has finds = absurd has

pub item_untold : (rule : Option (Option Breach)) (e : JobError) (result : Result (Option Answer) JobError) → result ≡ Err e → e ≡ OutOfMemory → TellsItem rule result
item_untold rule e result same is = rw (same ∙ ap Err is) tt

module _ (job : Data) (items : List JsonValue) (i : ℕ) (x : JsonValue) (within : i < length items) (is : x ≡ get_or items i x) (all : Option (Option Breach))
    (h : rule_of_items job i (map view (drop i items)) ≡ all) where
  abbrev here : Option (Option Breach)
  here = rule_among i (keys_among job (view x))

  abbrev later : Option (Option Breach)
  later = rule_of_items job (i + 1) (map view (drop (i + 1) items))

  split : all ≡ before here later
  split = sym h ∙ rw (drop_more items i x within, ← is) refl

  pub item_met : (told : Answer) → TellsItem here (Ok (Some told)) → TellsRule all (Ok told)
  item_met told (b, rule, line) = rw (split ∙ ap (λ o. before o later) rule) line

  pub item_passed : TellsItem here (Ok None) → later ≡ all
  item_passed none = sym (split ∙ ap (λ o. before o later) none)

  pub item_refused : (e : JobError) (r : Result Answer JobError) → r ≡ Err e → TellsItem here (Err e) → TellsRule all r
  item_refused NoJob r same none = rw (same, split ∙ ap (λ o. before o later) none) refl
  item_refused OutOfMemory r same none = rw same tt

pub items_end : (job : Data) (items : List JsonValue) (i : ℕ) (all : Option (Option Breach)) (r : Result Answer JobError) → length items ≤ i → rule_of_items job i (map view (drop i items)) ≡ all
    → Gives (output job_line) r → TellsRule all r
items_end job items i all r past h told = rw (sym h ∙ ap (λ vs. rule_of_items job i (map view vs)) (drop_of_length-le items past)) told

-- ---- operations, one at a time

told_more : (told : Option Outcome) (o : Operation) (os : List Operation) → told_or told (o ∷ os) ≡ told_or (with_broken told o) os
told_more (Some told) o os = refl
told_more None o os = go (broken_input o.schema)
  where
    go : (b : Option Broken) → told_rule (option_or (option_map (in_owner (by_operation o.name)) b) (broken_operation os)) ≡ told_or (option_map (line_of_broken o.name) b) os
    go None = refl
    go (Some b) = refl

all_more : (told : Option Outcome) (o : Operation) (all : Option (List Operation)) → option_map (told_or told) (option_map (λ os. o ∷ os) all) ≡ option_map (told_or (with_broken told o)) all
all_more told o None = refl
all_more told o (Some os) = ap Some (told_more told o os)

pub operation_told : (read : Data → Option Operation) (xs : List JsonValue) (i : ℕ) (x : JsonValue) (told more : Option Outcome) (o : Operation) (whole : Option Outcome) → i < length xs → x ≡ get_or xs i x → read (view x) ≡ Some o
    → more ≡ with_broken told o → option_map (told_or told) (each read (map view (drop i xs))) ≡ whole → option_map (told_or more) (each read (map view (drop (i + 1) xs))) ≡ whole
operation_told read xs i x told more o whole l is at m so_far =
    let rest = each read (map view (drop (i + 1) xs)) in
    let here : option_map (told_or told) (each read (map view (drop i xs))) ≡ option_map (told_or told) (option_map (λ os. o ∷ os) (each read (map view (drop (i + 1) xs)))) =
    rw (drop_more xs i x l, ← is, at) refl in
    ap (λ t. option_map (told_or t) rest) m ∙ sym (all_more told o rest) ∙ sym here ∙ so_far

-- the outcome of all of them
told_all : (all : Option (List Operation)) → outcome_of (λ t. t) (option_map (told_or None) all) ≡ outcome_of told_rule (option_map broken_operation all)
told_all None = refl
told_all (Some os) = refl

pub operations_end : (read : Data → Option Operation) (xs : List JsonValue) (i : ℕ) (all : Option (List Operation)) (told : Option Outcome) (r : Result Answer JobError) → length xs ≤ i
    → option_map (told_or told) (each read (map view (drop i xs))) ≡ option_map (told_or None) all → Gives (told_or told []) r → TellsRule (option_map broken_operation all) r
operations_end read xs i all told r past so_far gives =
    let end : Some (told_or told []) ≡ option_map (told_or None) all = sym (ap (λ vs. option_map (told_or told) (each read (map view vs))) (drop_of_length-le xs past)) ∙ so_far in
    subst (λ (o : Outcome). Gives o r) (ap (outcome_of (λ t. t)) end ∙ told_all all) gives

pub operations_refused : (read : Data → Option Operation) (xs : List JsonValue) (i : ℕ) (x : JsonValue) (told : Option Outcome) (all : Option (List Operation)) (e : JobError) (r : Result Answer JobError) → r ≡ Err e → i < length xs → x ≡ get_or xs i x
    → Reads operation_seen (read (view x)) (Err e) → option_map (told_or told) (each read (map view (drop i xs))) ≡ option_map (told_or None) all → TellsRule (option_map broken_operation all) r
operations_refused read xs i x told all OutOfMemory r same l is none so_far = rw same tt
operations_refused read xs i x told all NoJob r same l is none so_far =
    let here : option_map (told_or told) (each read (map view (drop i xs))) ≡ None = rw (drop_more xs i x l, ← is, none) refl in
    rw same (ap (outcome_of (λ t. t)) (sym here ∙ so_far) ∙ told_all all)

-- the rule of operations that a value names
pub routing_told : (d : Data) (j : NamedRouting) (r : Result Answer JobError) → routing d ≡ routing_of (all_named j.operations) j → TellsRule (option_map broken_operation (all_named j.operations)) r → TellsRule (rule_in kind.Route d) r
routing_told d j r is told = subst (λ (o : Option Routing). TellsRule (option_map (λ x. broken_operation x.operations) o) r) (sym is) (go (all_named j.operations) told)
  where
    go : (all : Option (List Operation)) → TellsRule (option_map broken_operation all) r → TellsRule (option_map (λ x. broken_operation x.operations) (routing_of all j)) r
    go None told = told
    go (Some os) told = told
