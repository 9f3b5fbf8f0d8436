-- What `explain` tells is exact.
use Rattle.std.proofs.Common.{◌≡◌, ◌≢◌, ◌↔◌, refl, sym, ap, ◌∙◌, arith, ℕ, List, [], ◌∷◌, get_or, Bool, true, false, cond, ◌&&◌, ◌+◌, is_some, IsTrue, Option, Some, None, option_map, option_and_then, Result, Ok, Err, if◌then◌else◌}
use Rattle.std.specs.Option.{option_map_or, option_or}
use Rattle.std.proofs.lemmas.Bool.{and_parts}
use Rattle.serde_json.specs.Data.{Data}
use Rattle.smithy_json.specs.FromText.{json_of}
use Rattle.smithy_types.specs.Documents.{Document}
use Rattle.smithy_types.specs.Texts.{same_text}
use Rattle.smithy_http.specs.Requests.{Request}
use Rattle.smithy_schema.specs.Nodes.{Schema}
use Rattle.smithy_serde.specs.DocumentOf.{DocumentFault}
use Rattle.smithy_serde.specs.Values.{Write}
use Rattle.smithy_serde.specs.declared.error.SerdeError.{SerdeError}
use Rattle.smithy_serde.specs.declared.header_omit_settings.OmitFlags.{OmitFlags}
use Rattle.smithy_document.specs.JsonText.{json_text}
use Rattle.smithy_binding.specs.Broken.{Broken, broken_input, broken_output}
use Rattle.smithy_binding.specs.Checked.{checked_input}
use Rattle.smithy_binding.specs.CheckedOutput.{checked_output}
use Rattle.smithy_binding.specs.Faults.{Fault}
use Rattle.smithy_binding.specs.Placing.{Protocol}
use Rattle.smithy_binding.proofs.BrokenLaws.{broken_input_iff, broken_output_iff}
use Rattle.smithy_recovery.specs.Recovered.{Reading, recovered}
use Rattle.smithy_router.specs.Tables.{Entry}
use Rattle.smithy_model.specs.Wrong.{Wrong}
use Rattle.smithy_job.specs.Answering.{Answering, answering}
use Rattle.smithy_job.specs.Common.{Many, are_inputs, if_inputs, many, whole}
use Rattle.smithy_job.specs.Gateway.{Gateway, gateway}
use Rattle.smithy_job.specs.Jobs as jobs
use Rattle.smithy_job.specs.Jobs.{Job, Message, expected, job, message, received_as, received_by}
use Rattle.smithy_job.specs.Keys.{Keys, alone, keys_among, keys_of, responses_given}
use Rattle.smithy_job.specs.Recovering.{Recovering, recovering}
use Rattle.smithy_job.specs.Routing.{Operation, Routing, routing}
use Rattle.smithy_job.specs.WrongJobs.{wrong_in_job}
use Rattle.smithy_job.proofs.KeysLemmas.{keys-alone}
use Rattle.smithy_job.specs.declared.job_kind.JobKind.{JobKind}
use Rattle.smithy_job.specs.declared.job_kind.JobKind.TheVariants as kind
use Rattle.smithy_bind.specs.Commands.{command_for}
use Rattle.smithy_bind.specs.Verdicts.{Explains, IsAnswered, are_replied, has_inputs}
use Rattle.smithy_bind.specs.Explaining.{before, broken_expected, broken_operation, explained, in_owner, job_line, line_of_rule, line_of_value, not_checked, not_job, not_json, only, by_job, by_operation, by_response, rule_among, rule_in, rule_of_items, Breach, Owner}
use Rattle.smithy_bind.specs.Gateway.{gatewayed_by, shown_request}
use Rattle.smithy_bind.specs.Outcome.{answer_to, answered, called, gatewayed_job, gatewayed_to, json_bodies, json_reading, json_requests, outcome_by, recovered_job, recovered_to, requested_to, routed_to, sent_job, served_to}
use Rattle.smithy_bind.specs.Recovering.{recovered_by, shown_input}
use Rattle.smithy_bind.specs.Replying.{lines_of_items, replied_to}
use Rattle.smithy_bind.specs.Requesting.{lines_for, requested_by}
use Rattle.smithy_bind.specs.Responding.{Reply, Target, behind_name, by_schema, checked_target, error_of, reply_among, reply_by, reply_to, reply_with_target, responded_to, shown_document, target_found, target_of, told_reply}
use Rattle.smithy_bind.specs.Routing.{are_checked, found_or_refused, no_route, operation_found, operation_named, routed_by, told_input, with_operations}
use Rattle.smithy_bind.specs.Serving.{served_by, served_job}
use Rattle.smithy_bind.specs.Shown.{shown, shown_response}
use Rattle.smithy_bind.specs.Told.{Outcome, usage, no_job, fault_line, output, told_by, outcome_of}

-- ---- the lines differ

other_first : (a b : List ℕ) (i x y : ℕ) → get_or a i 0 ≡ x → get_or b i 0 ≡ y → (x ≡ y → ⊥) → a ≢ b
other_first a b i x y at_a at_b differ same = differ (sym at_a ∙ ap (λ (xs : List ℕ). get_or xs i 0) same ∙ at_b)

rule_is_no_job : (b : Breach) → not_checked b ≢ job_line
rule_is_no_job b = other_first (not_checked b) job_line 0 78 74 refl refl (λ e. omega (arith, e))

wrong_is_no_job : (w : Wrong) → not_job w ≢ job_line
wrong_is_no_job w = other_first (not_job w) job_line 0 78 74 refl refl (λ e. omega (arith, e))

json_is_no_job : (bytes : List ℕ) → not_json bytes ≢ job_line
json_is_no_job bytes = other_first (not_json bytes) job_line 0 78 74 refl refl (λ e. omega (arith, e))

rule_is_json : (b : Breach) (bytes : List ℕ) → not_checked b ≢ not_json bytes
rule_is_json b bytes = other_first (not_checked b) (not_json bytes) 3 67 74 refl refl (λ e. omega (arith, e))

wrong_is_json : (w : Wrong) (bytes : List ℕ) → not_job w ≢ not_json bytes
wrong_is_json w bytes = other_first (not_job w) (not_json bytes) 2 74 116 refl refl (λ e. omega (arith, e))

told_is_json : (rule : Option (Option Breach)) (w : Wrong) (bytes : List ℕ) → option_map_or line_of_rule rule (not_job w) ≢ not_json bytes
told_is_json None w bytes = wrong_is_json w bytes
told_is_json (Some None) w bytes = other_first job_line (not_json bytes) 0 74 78 refl refl (λ e. omega (arith, e))
told_is_json (Some (Some b)) w bytes = rule_is_json b bytes

-- ---- outcomes of jobs

-- it is told of a job
abbrev accepts : Outcome → Bool
accepts usage = true
accepts no_job = false
accepts (fault_line line) = true
accepts (output text) = true

-- it is a job exactly where it is not answered that it is none
abbrev Agrees : List ℕ → Outcome → Type 0
Agrees line o = line ≡ job_line ↔ o ≢ no_job

both : (line : List ℕ) (o : Outcome) → line ≡ job_line → accepts o ≡ true → Agrees line o
both line o is accepted = ((λ _ none. let e : true ≡ false = sym accepted ∙ ap accepts none in absurd (cc e)), (λ _. is))

neither : (line : List ℕ) (o : Outcome) → line ≢ job_line → o ≡ no_job → Agrees line o
neither line o not is = ((λ h. absurd (not h)), (λ h. absurd (h is)))

by_check : (rule : Option Breach) (checked : Bool) (o : Outcome) → (rule ≡ None ↔ IsTrue checked) → accepts o ≡ true → Agrees (line_of_rule rule) (if checked then o else no_job)
by_check None true o same accepted = both job_line o refl accepted
by_check None false o same accepted = let e : false ≡ true = same.0 refl in absurd (cc e)
by_check (Some b) true o same accepted = let e : Some b ≡ None = same.1 refl in absurd (cc e)
by_check (Some b) false o same accepted = neither (not_checked b) no_job (rule_is_no_job b) refl

-- a rule is broken where its owner breaks it
owned_iff : (owner : Owner) (rule : Option Broken) (checked : Bool) → (rule ≡ None ↔ IsTrue checked) → option_map (in_owner owner) rule ≡ None ↔ IsTrue checked
owned_iff owner None checked same = ((λ _. same.0 refl), (λ _. refl))
owned_iff owner (Some b) checked same = ((λ e. absurd (cc e)), (λ is. let e : Some b ≡ None = same.1 is in absurd (cc e)))

by_only : (rule : Option Broken) (checked : Bool) (o : Outcome) → (rule ≡ None ↔ IsTrue checked) → accepts o ≡ true → Agrees (line_of_rule (only rule)) (if checked then o else no_job)
by_only rule checked o same accepted = by_check (only rule) checked o (owned_iff by_job rule checked same) accepted

told_accepted : {A : Type 0} (show : A → List ℕ) (made : Result A Fault) → accepts (told_by show made) ≡ true
told_accepted show (Ok x) = refl
told_accepted show (Err f) = refl

document_accepted : (made : Result Document DocumentFault) → accepts (shown_document made) ≡ true
document_accepted (Ok d) = refl
document_accepted (Err f) = refl

input_accepted : (made : Option (List Write)) → accepts (shown_input made) ≡ true
input_accepted (Some ws) = document_accepted _
input_accepted None = refl

request_accepted : (made : Option Request) → accepts (shown_request made) ≡ true
request_accepted (Some q) = refl
request_accepted None = refl

named_accepted : (name : List ℕ) (o : Outcome) → accepts (behind_name name o) ≡ accepts o
named_accepted name usage = refl
named_accepted name no_job = refl
named_accepted name (fault_line line) = refl
named_accepted name (output text) = refl

-- ---- each kind of job

-- what is told of a job, or that a value is none
abbrev line_by : Option (Option Breach) → Wrong → List ℕ
line_by rule w = option_map_or line_of_rule rule (not_job w)

of_sent : (bodies : Protocol) (o : Option Job) (w : Wrong) → Agrees (line_by (option_map (λ j. only (broken_input j.schema)) o) w) (outcome_of (answered bodies) o)
unfolding answered
of_sent bodies None w = neither _ _ (wrong_is_no_job w) refl
of_sent bodies (Some j) w = by_only (broken_input j.schema) (checked_input j.schema) _ (broken_input_iff j.schema) (told_accepted shown _)

-- the line and the answer are of one mind, where the inputs of many jobs are some
abbrev AgreesWith : List ℕ → Outcome → Bool → Type 0
AgreesWith line o inputs = line ≡ job_line ↔ (o ≢ no_job) × IsTrue inputs

with_one : (line : List ℕ) (o : Outcome) → Agrees line o → AgreesWith line o true
with_one line o h = ((λ is. (h.0 is, refl)), (λ p. h.1 p.0))

of_many : (bodies : Protocol) (o : Option Many) (w : Wrong)
    → AgreesWith (line_by (option_map (λ m. only (broken_input m.common.schema)) (option_and_then if_inputs o)) w) (outcome_of (requested_by bodies) o) (option_map_or (λ m. are_inputs m.common m.inputs) o true)
unfolding requested_by
of_many bodies None w = with_one _ _ (neither _ _ (wrong_is_no_job w) refl)
of_many bodies (Some m) w = go (are_inputs m.common m.inputs)
  where
    go : (t : Bool) → AgreesWith (line_by (option_map (λ m. only (broken_input m.common.schema)) (if t then Some m else None)) w) (if checked_input m.common.schema then output (lines_for bodies m.common m.inputs) else no_job) t
    go true = with_one _ _ (by_only (broken_input m.common.schema) (checked_input m.common.schema) (output (lines_for bodies m.common m.inputs)) (broken_input_iff m.common.schema) refl)
    go false = ((λ is. absurd (wrong_is_no_job w is)), (λ p. let e : false ≡ true = p.1 in absurd (cc e)))

of_posted : (bodies : Protocol) (o : Option Job) (w : Wrong) → Agrees (line_by (option_map (λ j. None) o) w) (outcome_of (called bodies) o)
unfolding called
of_posted bodies None w = neither _ _ (wrong_is_no_job w) refl
of_posted bodies (Some j) w = both _ _ refl (told_accepted shown _)

of_recovering : (o : Option Recovering) (w : Wrong) → Agrees (line_by (option_map (λ j. only (broken_input j.schema)) o) w) (outcome_of recovered_job o)
unfolding recovered_by
of_recovering None w = neither _ _ (wrong_is_no_job w) refl
of_recovering (Some j) w =
    let input = recovered (json_reading j.schema j.endpoint) j.omit j.request in by_only (broken_input j.schema) (checked_input j.schema) (shown_input input) (broken_input_iff j.schema) (input_accepted input)

of_gateway : (o : Option Gateway) (w : Wrong) → Agrees (line_by (option_map (λ j. only (broken_input j.recovering.schema)) o) w) (outcome_of gatewayed_job o)
unfolding gatewayed_by
of_gateway None w = neither _ _ (wrong_is_no_job w) refl
of_gateway (Some j) w = by_only (broken_input j.recovering.schema) (checked_input j.recovering.schema) _ (broken_input_iff j.recovering.schema) (request_accepted _)

of_answering : (bodies : Protocol) (o : Option Answering) (w : Wrong) → Agrees (line_by (option_map (λ j. only (broken_output j.output.schema)) o) w) (outcome_of (served_job bodies) o)
unfolding served_by
of_answering bodies None w = neither _ _ (wrong_is_no_job w) refl
of_answering bodies (Some j) w = by_only (broken_output j.output.schema) (checked_output j.output.schema) _ (broken_output_iff j.output.schema) (told_accepted shown_response _)

-- the schema of each operation is checked where none breaks a rule
operations_iff : (os : List Operation) → broken_operation os ≡ None ↔ IsTrue (are_checked os)
operations_iff [] = ((λ _. refl), (λ _. refl))
operations_iff (o ∷ os) = go (option_map (in_owner (by_operation o.name)) (broken_input o.schema)) (checked_input o.schema) (owned_iff (by_operation o.name) (broken_input o.schema) (checked_input o.schema) (broken_input_iff o.schema)) (operations_iff os)
  where
    go : (rule : Option Breach) (checked : Bool) → (rule ≡ None ↔ IsTrue checked) → (broken_operation os ≡ None ↔ IsTrue (are_checked os))
        → option_or rule (broken_operation os) ≡ None ↔ IsTrue (checked && are_checked os)
    go None true same rest = rest
    go None false same rest = let e : false ≡ true = same.0 refl in absurd (cc e)
    go (Some b) true same rest = let e : Some b ≡ None = same.1 refl in absurd (cc e)
    go (Some b) false same rest = ((λ e. absurd (cc e)), (λ e. absurd (cc e)))

-- by a checked schema a request's input is told, or that there is none
recovered_accepted : (r : Reading) (omit : OmitFlags) (q : Request) → checked_input r.schema ≡ true → accepts (recovered_by r omit q) ≡ true
unfolding recovered_by
recovered_accepted r omit q is = ap (λ (t : Bool). accepts (if t then shown_input (recovered r omit q) else no_job)) is ∙ input_accepted (recovered r omit q)

-- an operation that is found by its name is one of them
named_checked : (os : List Operation) (name : List ℕ) (o : Operation) → operation_named os name ≡ Some o → are_checked os ≡ true → checked_input o.schema ≡ true
named_checked [] name o found all = absurd (cc found)
named_checked (x ∷ os) name o found all =
    let parts = and_parts (checked_input x.schema) (are_checked os) all in go (same_text x.name name) found parts.0 (λ e. named_checked os name o e parts.1)
  where
    go : (t : Bool) → cond t (Some x) (operation_named os name) ≡ Some o → checked_input x.schema ≡ true → (operation_named os name ≡ Some o → checked_input o.schema ≡ true)
        → checked_input o.schema ≡ true
    go true e here rest = let same : x ≡ o = cc e in ap (λ (p : Operation). checked_input p.schema) (sym same) ∙ here
    go false e here rest = rest e

found_accepted : (j : Routing) (found : Option (List ℕ)) → are_checked j.operations ≡ true
    → accepts (option_map_or (told_input json_requests j.omit j.request) (option_and_then (operation_named j.operations) found) (fault_line no_route)) ≡ true
found_accepted j None all = refl
found_accepted j (Some name) all = go (operation_named j.operations name) (λ o e. named_checked j.operations name o e all)
  where
    go : (found : Option Operation) → ((o : Operation) → found ≡ Some o → checked_input o.schema ≡ true)
        → accepts (option_map_or (told_input json_requests j.omit j.request) found (fault_line no_route)) ≡ true
    go None checked = refl
    go (Some o) checked = named_accepted o.name _ ∙ recovered_accepted (json_requests o.schema) j.omit j.request (checked o refl)

routes_accepted : (j : Routing) (routes : Result (List Entry) (List ℕ)) → are_checked j.operations ≡ true → accepts (found_or_refused json_requests j routes) ≡ true
routes_accepted j (Ok entries) all = found_accepted j (operation_found j.request entries) all
routes_accepted j (Err line) all = refl

of_routing : (o : Option Routing) (w : Wrong) → Agrees (line_by (option_map (λ j. broken_operation j.operations) o) w) (outcome_of (routed_by json_requests) o)
unfolding routed_by
of_routing None w = neither _ _ (wrong_is_no_job w) refl
of_routing (Some j) w = go (broken_operation j.operations) (are_checked j.operations) (operations_iff j.operations) (λ all. routes_accepted j (with_operations [] j.operations) all)
  where
    go : (rule : Option Breach) (checked : Bool) → (rule ≡ None ↔ IsTrue checked)
        → (checked ≡ true → accepts (found_or_refused json_requests j (with_operations [] j.operations)) ≡ true)
        → Agrees (line_of_rule rule) (if checked then found_or_refused json_requests j (with_operations [] j.operations) else no_job)
    go rule true same accepted = by_check rule true _ same (accepted refl)
    go None false same accepted = let e : false ≡ true = same.0 refl in absurd (cc e)
    go (Some b) false same accepted = neither (not_checked b) no_job (rule_is_no_job b) refl

-- ---- responses

checked_iff : (s : Schema) (is_error : Bool) (name : Option (List ℕ)) → broken_output s ≡ None ↔ IsTrue (is_some (checked_target s is_error name))
checked_iff s is_error name = go (checked_output s) (broken_output_iff s)
  where
    go : (checked : Bool) → (broken_output s ≡ None ↔ IsTrue checked) → broken_output s ≡ None ↔ IsTrue (is_some (if checked then Some (by_schema s is_error name) else None))
    go true same = same
    go false same = same

-- a schema that breaks no rule is one that is read by
target_iff : (e : jobs.Expected) → broken_expected e ≡ None ↔ IsTrue (is_some (target_of e))
unfolding target_of
target_iff (jobs.output s) = checked_iff s false None
target_iff (jobs.error s) = checked_iff s true None
target_iff (jobs.coded code errors) = go (error_of code errors)
  where
    go : (found : Option Schema) → option_and_then broken_output found ≡ None ↔ IsTrue (is_some (target_found code found))
    go None = ((λ _. refl), (λ _. refl))
    go (Some s) = checked_iff s true (Some s.node.full_name)

reply_accepted : (reply : Result Reply SerdeError) → accepts (told_reply reply) ≡ true
reply_accepted (Ok r) = refl
reply_accepted (Err e) = refl

-- what is told of the response under some keys, by what they are read by

of_keys : (k : Keys) (w : Wrong) → Agrees (line_by (option_map (λ r. only (broken_expected r.expected)) (received_by k)) w) (outcome_of told_reply (reply_among k))
unfolding received_by reply_among
of_keys k w = go (message k) (expected k)
  where
    by_target : (m : Message) (rule : Option Broken) (t : Option Target) → (rule ≡ None ↔ IsTrue (is_some t)) → Agrees (line_of_rule (only rule)) (outcome_of told_reply (reply_with_target t m))
    by_target m None (Some t) same = both job_line _ refl (reply_accepted (reply_by t m.response m.policy))
    by_target m None None same = let e : false ≡ true = same.0 refl in absurd (cc e)
    by_target m (Some b) (Some t) same = let e : Some b ≡ None = same.1 refl in absurd (cc e)
    by_target m (Some b) None same = neither (not_checked (in_owner by_job b)) no_job (rule_is_no_job (in_owner by_job b)) refl

    go : (m : Option Message) (e : Option jobs.Expected)
        → Agrees (line_by (option_map (λ r. only (broken_expected r.expected)) (option_and_then (λ m. option_map (received_as m) e) m)) w) (outcome_of told_reply (option_and_then (reply_with_target (option_and_then target_of e)) m))
    go None e = neither _ _ (wrong_is_no_job w) refl
    go (Some m) None = neither _ _ (wrong_is_no_job w) refl
    go (Some m) (Some e) = by_target m (broken_expected e) (target_of e) (target_iff e)

-- one response of many is a job where there is something to be told of it
of_item : (i : ℕ) (k : Keys) → rule_among i k ≡ Some None ↔ IsTrue (is_some (reply_among k))
unfolding received_by reply_among
of_item i k = go (message k) (expected k)
  where
    by_target : (m : Message) (rule : Option Breach) (t : Option Target) → (rule ≡ None ↔ IsTrue (is_some t)) → Some rule ≡ Some None ↔ IsTrue (is_some (reply_with_target t m))
    by_target m None (Some t) same = ((λ _. refl), (λ _. refl))
    by_target m None None same = let e : false ≡ true = same.0 refl in absurd (cc e)
    by_target m (Some b) (Some t) same = let e : Some b ≡ None = same.1 refl in absurd (cc e)
    by_target m (Some b) None same = ((λ e. absurd (cc e)), (λ e. absurd (cc e)))

    go : (m : Option Message) (e : Option jobs.Expected)
        → option_map (λ r. option_map (in_owner (by_response i)) (broken_expected r.expected)) (option_and_then (λ m. option_map (received_as m) e) m) ≡ Some None
        ↔ IsTrue (is_some (option_and_then (reply_with_target (option_and_then target_of e)) m))
    go None e = ((λ e. absurd (cc e)), (λ e. absurd (cc e)))
    go (Some m) None = ((λ e. absurd (cc e)), (λ e. absurd (cc e)))
    go (Some m) (Some e) = by_target m (option_map (in_owner (by_response i)) (broken_expected e)) (target_of e) (owned_iff (by_response i) (broken_expected e) (is_some (target_of e)) (target_iff e))

of_items : (job : Data) (i : ℕ) (items : List Data) → rule_of_items job i items ≡ Some None ↔ IsTrue (are_replied job items)
of_items job i [] = ((λ _. refl), (λ _. refl))
of_items job i (item ∷ items) = go (rule_among i (keys_among job item)) (is_some (reply_to (alone job item))) first (of_items job (i + 1) items)
  where
    first : rule_among i (keys_among job item) ≡ Some None ↔ IsTrue (is_some (reply_to (alone job item)))
    first = rw (keys-alone job item) (of_item i (keys_among job item))

    go : (rule : Option (Option Breach)) (is : Bool) → (rule ≡ Some None ↔ IsTrue is) → (rule_of_items job (i + 1) items ≡ Some None ↔ IsTrue (are_replied job items))
        → before rule (rule_of_items job (i + 1) items) ≡ Some None ↔ IsTrue (is && are_replied job items)
    go (Some None) true same rest = rest
    go (Some None) false same rest = let e : false ≡ true = same.0 refl in absurd (cc e)
    go (Some (Some b)) true same rest = let e : Some (Some b) ≡ Some None = same.1 refl in absurd (cc e)
    go (Some (Some b)) false same rest = ((λ e. absurd (cc e)), (λ e. absurd (cc e)))
    go None true same rest = let e : None ≡ Some None = same.1 refl in absurd (cc e)
    go None false same rest = ((λ e. absurd (cc e)), (λ e. absurd (cc e)))

of_responses : (d : Data) (items : Option (List Data)) (w : Wrong)
    → AgreesWith (line_by (option_and_then (rule_of_items d 0) items) w) (outcome_of (λ items. output (lines_of_items d items)) items) (option_map_or (are_replied d) items true)
of_responses d None w = with_one _ _ (neither _ _ (wrong_is_no_job w) refl)
of_responses d (Some items) w = go (rule_of_items d 0 items) (are_replied d items) (of_items d 0 items)
  where
    go : (rule : Option (Option Breach)) (is : Bool) → (rule ≡ Some None ↔ IsTrue is) → AgreesWith (line_by rule w) (output (lines_of_items d items)) is
    go (Some None) true same = with_one _ _ (both job_line (output (lines_of_items d items)) refl refl)
    go (Some None) false same = let e : false ≡ true = same.0 refl in absurd (cc e)
    go (Some (Some b)) true same = let e : Some (Some b) ≡ Some None = same.1 refl in absurd (cc e)
    go (Some (Some b)) false same = ((λ is. absurd (rule_is_no_job b is)), (λ p. let e : false ≡ true = p.1 in absurd (cc e)))
    go None true same = let e : None ≡ Some None = same.1 refl in absurd (cc e)
    go None false same = ((λ is. absurd (wrong_is_no_job w is)), (λ p. let e : false ≡ true = p.1 in absurd (cc e)))

-- ---- all of them

abbrev bodies : Protocol
bodies = json_bodies json_text

of_value : (k : JobKind) (d : Data) → AgreesWith (line_of_value k d) (answer_to bodies (command_for k) d) (has_inputs k d)
unfolding sent_job requested_to responded_to replied_to recovered_to routed_to gatewayed_to served_to whole
of_value kind.Request d = with_one _ _ (of_sent bodies (job d) (wrong_in_job kind.Request d))
of_value kind.Requests d = of_many bodies (many d) (wrong_in_job kind.Requests d)
of_value kind.Rpc d = with_one _ _ (of_posted bodies (job d) (wrong_in_job kind.Rpc d))
of_value kind.Response d = with_one _ _ (of_keys (keys_of d) (wrong_in_job kind.Response d))
of_value kind.Responses d = of_responses d (responses_given d) (wrong_in_job kind.Responses d)
of_value kind.Recover d = with_one _ _ (of_recovering (recovering d) (wrong_in_job kind.Recover d))
of_value kind.Route d = with_one _ _ (of_routing (routing d) (wrong_in_job kind.Route d))
of_value kind.Gateway d = with_one _ _ (of_gateway (gateway d) (wrong_in_job kind.Gateway d))
of_value kind.Answer d = with_one _ _ (of_answering bodies (answering d) (wrong_in_job kind.Answer d))

-- the outcome of a command of a job, by the value that is read
outcome_read : (k : JobKind) (bytes : List ℕ) → outcome_by (Some (command_for k)) bytes ≡ option_map_or (answer_to bodies (command_for k)) (json_of bytes) no_job
outcome_read kind.Request bytes = refl
outcome_read kind.Requests bytes = refl
outcome_read kind.Rpc bytes = refl
outcome_read kind.Response bytes = refl
outcome_read kind.Responses bytes = refl
outcome_read kind.Recover bytes = refl
outcome_read kind.Route bytes = refl
outcome_read kind.Gateway bytes = refl
outcome_read kind.Answer bytes = refl

of_read : (k : JobKind) (bytes : List ℕ) (read : Option Data)
    → AgreesWith (option_map_or (line_of_value k) read (not_json bytes)) (option_map_or (answer_to bodies (command_for k)) read no_job) (option_map_or (has_inputs k) read true)
of_read k bytes None = with_one _ _ (neither _ _ (json_is_no_job bytes) refl)
of_read k bytes (Some d) = of_value k d

told_output : (k : JobKind) (bytes : List ℕ) (read : Option Data)
    → option_map_or (λ d. output (line_of_value k d)) read (output (not_json bytes)) ≡ output (option_map_or (line_of_value k) read (not_json bytes))
told_output k bytes None = refl
told_output k bytes (Some d) = refl

is_unread : (k : JobKind) (bytes : List ℕ) (read : Option Data) → option_map_or (line_of_value k) read (not_json bytes) ≡ not_json bytes ↔ read ≡ None
is_unread k bytes None = ((λ _. refl), (λ _. refl))
is_unread k bytes (Some d) = ((λ same. absurd (told_is_json (rule_in k d) (wrong_in_job k d) bytes same)), (λ e. absurd (cc e)))

answered_by : (k : JobKind) (bytes : List ℕ) (line : List ℕ) (o : Outcome) → outcome_by (Some (command_for k)) bytes ≡ o → AgreesWith line o (option_map_or (has_inputs k) (json_of bytes) true) → line ≡ job_line ↔ IsAnswered k bytes
answered_by k bytes line o is h = (
  (λ same. let p = h.0 same in record { command = λ none. p.0 (sym is ∙ none); inputs = p.1 }),
  (λ a. h.1 ((λ none. a.command (is ∙ none)), a.inputs)),
)

pub explains : (k : JobKind) (bytes : List ℕ) → Explains k bytes
unfolding explained
explains k bytes = record {
  answer = told_output k bytes (json_of bytes);
  job = answered_by k bytes (option_map_or (line_of_value k) (json_of bytes) (not_json bytes)) _ (outcome_read k bytes) (of_read k bytes (json_of bytes));
  not_json = is_unread k bytes (json_of bytes);
}
