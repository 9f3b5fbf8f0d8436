-- Many inputs of an operation that was read once.
use Rattle.std.proofs.Common.{◌≡◌, ◌+◌, ◌≤◌, refl, sym, ap, ◌∙◌, subst, arith, ℕ, Bool, true, false, List, [], ◌∷◌, ◌++◌, append_assoc, length, map, Vec, Global, drop, take, Option, Some, None, option_map, option_and_then, unwrap_or, Result, Err, if◌then◌else◌}
use Rattle.std.proofs.lemmas.List.{append-nil, drop-drop, length-take-le, map-append, take-append-drop, take_all}
use Rattle.std.proofs.Math.ListN.{drop_of_length-le}
use Rattle.serde_json.specs.Data.{Data}
use Rattle.smithy_types.specs.Documents.{Document}
use Rattle.smithy_http.specs.Requests.{Request}
use Rattle.smithy_json.specs.JsonView.{view}
use Rattle.smithy_json.specs.declared.value.JsonValue.{JsonValue}
use Rattle.smithy_schema.specs.Nodes.{Schema, Table, at_place}
use Rattle.smithy_serde.specs.StoredValues.{writes_in}
use Rattle.smithy_serde.specs.Values.{Write, Writes, list_of}
use Rattle.smithy_serde.specs.declared.error.SerdeError.{SerdeError}
use Rattle.smithy_serde.specs.declared.value.WriteList.{WriteList}
use Rattle.smithy_binding.specs.Answer.{answer}
use Rattle.smithy_binding.specs.Checked.{checked_input}
use Rattle.smithy_binding.specs.Faults.{Fault}
use Rattle.smithy_binding.specs.Placing.{Protocol}
use Rattle.smithy_binding.specs.Refusing.{Answers}
use Rattle.smithy_model.specs.declared.error.JobError.{JobError}
use Rattle.smithy_model.specs.declared.error.JobError.TheVariants.{NoJob, OutOfMemory}
use Rattle.smithy_job.specs.Common as jobs
use Rattle.smithy_job.specs.Common.{Many, common, inputs_given, job_by, job_for, many}
use Rattle.smithy_job.specs.CommonView.{IsCommon, IsReadBy, input_read, nodes_among, writes_seen}
use Rattle.smithy_job.specs.Inputs.{input}
use Rattle.smithy_model.specs.declared.floats.Floats.TheVariants.{Kept}
use Rattle.smithy_job.specs.Tables.{Has, ReadsAs}
use Rattle.smithy_job.specs.declared.common.Common.{Common}
use Rattle.smithy_job.specs.declared.common.Inputs.{Inputs}
use Rattle.smithy_job.proofs.CommonLemmas.{common_schema, job-alone}
use Rattle.smithy_bind.specs.Lines.{answer_line}
use Rattle.smithy_bind.specs.Outcome.{answered, json_bodies, requested_to, sent_job}
use Rattle.smithy_bind.specs.Requesting.{answer_for, answer_of, lines_for, operation, operation_of, requested_by}
use Rattle.smithy_bind.specs.Alone.{told_alone, LinesAreAlone}
use Rattle.smithy_bind.specs.Told.{no_job, output, outcome_of}
use Rattle.smithy_bind.specs.declared.requested.ReadOperation.{ReadOperation}
use Rattle.smithy_bind.specs.declared.told.Answer.{Answer}
use Rattle.smithy_bind.specs.views.AnswerView.{Gives}
use Rattle.smithy_bind.specs.views.LineView.{IsMade}
use Rattle.smithy_bind.specs.views.RequestedView.{answer_with, lines_with, IsOperation, TellsBehind, TellsInputs, MakesInput, MakesLines}

-- ---- the operation

module _ (d : Data) (stored : Common) (s : Schema) (there : Some s ≡ at_place stored.model.table stored.model.index.0) where
  pub operation_so : Has (common d) (IsCommon stored) → checked_input s ≡ true → Has (operation d) (IsOperation (record { common = stored }))
  unfolding operation
  operation_so has is = go (common d) has
    where
      go : (o : Option jobs.Common) → Has o (IsCommon stored) → Has (operation_of o) (IsOperation (record { common = stored }))
      go None has = absurd has
      go (Some c) has = let checked : checked_input c.schema ≡ true = ap checked_input (sym (common_schema stored c s has there)) ∙ is in rw checked (record { common = has; checked = checked })

  pub operation_none : Has (common d) (IsCommon stored) → checked_input s ≡ false → operation d ≡ None
  unfolding operation
  operation_none has is = go (common d) has
    where
      go : (o : Option jobs.Common) → Has o (IsCommon stored) → operation_of o ≡ None
      go None has = refl
      go (Some c) has = let unchecked : checked_input c.schema ≡ false = ap checked_input (sym (common_schema stored c s has there)) ∙ is in rw unchecked refl

pub operation_refused : (d : Data) (x : JobError) (r : Result ReadOperation JobError) → r ≡ Err x → ReadsAs IsCommon (common d) (Err x) → ReadsAs IsOperation (operation d) r
unfolding operation
operation_refused d NoJob r is h = rw (is, h) refl
operation_refused d OutOfMemory r is h = rw is tt

-- ---- an input

-- the request of the writes of an input
pub made_some : (text : Document → List ℕ) (stored : ReadOperation) (nodes : Table) (w : WriteList) (s : Schema) (ws : Writes) (r : Result Request SerdeError)
    → Some s ≡ at_place stored.common.model.table stored.common.model.index.0 → ws ≡ writes_in nodes w
    → Answers r (answer (json_bodies text) s (list_of ws) stored.common.endpoint.now stored.common.omit) → MakesInput text stored nodes (Some w) (Some r)
made_some text stored nodes w s ws r there listed h = λ is o.
    let same : s ≡ is.schema = common_schema stored.common is s o.common there in
    subst (Answers r) (λ i. answer (json_bodies text) (same i) (list_of (listed i)) (o.common.endpoint i) (o.common.omit i)) h

pub made_none : (text : Document → List ℕ) (stored : ReadOperation) (nodes : Table) → MakesInput text stored nodes None None
made_none text stored nodes = λ is o. tt

-- what comes of a value is what comes of its writes
by_writes : (text : Document → List ℕ) (c : jobs.Common) (d : Data) → option_map (answer_with text c) (input_read c.schema d) ≡ answer_for (json_bodies text) c d
unfolding job_for
by_writes text c d = go (input Kept c.schema d)
  where
    go : (ws : Option Writes) → option_map (answer_with text c) (option_map list_of ws) ≡ option_map (answer_of (json_bodies text)) (job_by c ws)
    go None = refl
    go (Some ws) = refl

-- ---- lines

-- the line of one more
pub lines_more : (f : List Write → Result Request Fault) (w : Option (List Write)) (ws : List (Option (List Write))) (all old new : List ℕ) → new ≡ old ++ answer_line (option_map f w)
    → old ++ lines_with f (w ∷ ws) ≡ all → new ++ lines_with f ws ≡ all
lines_more f w ws all old new extended h = ap (λ t. t ++ lines_with f ws) extended ∙ append_assoc old (answer_line (option_map f w)) (lines_with f ws) ∙ h

pub lines_end : (f : List Write → Result Request Fault) (text all : List ℕ) → text ++ lines_with f [] ≡ all → text ≡ all
lines_end f text all h = sym (append-nil text) ∙ h

-- the lines of values are those of their writes
lines_by : (text : Document → List ℕ) (c : jobs.Common) (ds : List Data) → lines_with (answer_with text c) (map (input_read c.schema) ds) ≡ lines_for (json_bodies text) c ds
lines_by text c [] = refl
lines_by text c (d ∷ ds) = λ i. answer_line (by_writes text c d i) ++ lines_by text c ds i

pub lines_read : (text : Document → List ℕ) (stored : ReadOperation) (inputs : Inputs) (each : Vec (Option WriteList) Global) (nodes : Table) (values : List Data) (lines more : Vec ℕ Global) (is_further : Bool)
    → nodes ≡ nodes_among stored.common inputs → each ≡ inputs.each → IsReadBy stored.common values inputs → MakesLines text stored nodes each lines more → TellsBehind text stored values lines (more, is_further)
lines_read text stored inputs each nodes values lines more is_further nodes_are each_is read made = λ is o.
    made is o
    ∙ ap (λ t. lines.items ++ t)
    ((λ i. lines_with (answer_with text is) (map (writes_seen (nodes_are i)) (each_is i).items)) ∙ ap (lines_with (answer_with text is)) (read is o.common).inputs.writes ∙ lines_by text is values)

-- the lines of values are those of the first, and of those behind them
lines_both : (p : Protocol) (c : jobs.Common) (ds es : List Data) → lines_for p c (ds ++ es) ≡ lines_for p c ds ++ lines_for p c es
lines_both p c [] es = refl
lines_both p c (d ∷ ds) es =
    ap (λ t. answer_line (answer_for p c d) ++ t) (lines_both p c ds es) ∙ sym (append_assoc (answer_line (answer_for p c d)) (lines_for p c ds) (lines_for p c es))

-- those of the next values
pub lines_next : (p : Protocol) (c : jobs.Common) (values part : List JsonValue) (done : ℕ) (all old new : List ℕ) → drop done values ≡ part ++ drop (done + length part) values → new ≡ old ++ lines_for p c (map view part)
    → old ++ lines_for p c (map view (drop done values)) ≡ all → new ++ lines_for p c (map view (drop (done + length part) values)) ≡ all
lines_next p c values part done all old new cut extended h =
    let behind = drop (done + length part) values in
    ap (λ t. t ++ lines_for p c (map view behind)) extended
    ∙ append_assoc old (lines_for p c (map view part)) (lines_for p c (map view behind))
    ∙ ap (λ t. old ++ t) (sym (ap (λ xs. lines_for p c (map view xs)) cut ∙ ap (lines_for p c) (map-append view part behind) ∙ lines_both p c (map view part) (map view behind)))
    ∙ h

-- nothing is left
pub lines_done : (p : Protocol) (c : jobs.Common) (values : List JsonValue) (done : ℕ) (all lines : List ℕ) → length values ≤ done → lines ++ lines_for p c (map view (drop done values)) ≡ all → lines ≡ all
lines_done p c values done all lines past h = sym (append-nil lines) ∙ ap (λ xs. lines ++ lines_for p c (map view xs)) (sym (drop_of_length-le values past)) ∙ h

-- so many of what is left, and what is behind them
pub cut_few : (values left few : List JsonValue) (done n : ℕ) → left ≡ drop done values → few ≡ take n left → n ≤ length left → drop done values ≡ few ++ drop (done + length few) values
cut_few values left few done n left_is few_is within =
    let count : length few ≡ n = ap length few_is ∙ length-take-le n left within in
    let few_there : take n (drop done values) ≡ few = sym (few_is ∙ ap (take n) left_is) in
    let behind : drop n (drop done values) ≡ drop (done + length few) values = drop-drop n done values ∙ ap (λ k. drop (done + k) values) (sym count) in
    sym (take-append-drop n (drop done values)) ∙ (λ i. few_there i ++ behind i)

pub cut_all : (values left : List JsonValue) (done : ℕ) → left ≡ drop done values → drop done values ≡ left ++ drop (done + length left) values
cut_all values left done left_is = cut_few values left left done (length left) left_is (sym (take_all (length left) left (omega arith))) (omega arith)

-- ---- one input

no_writes_left : (t : Table) (rest : List (Option WriteList)) (w : Option WriteList) → map (writes_seen t) (rest ++ w ∷ []) ≡ [] → ⊥
no_writes_left t [] w e = absurd (cc e)
no_writes_left t (x ∷ rest) w e = absurd (cc e)

last_seen : (t : Table) (each rest : List (Option WriteList)) (w : Option WriteList) (is : Option (List Write)) → each ≡ rest ++ w ∷ [] → map (writes_seen t) each ≡ is ∷ [] → writes_seen t w ≡ is
last_seen t each [] w is e m = let same : writes_seen t w ∷ [] ≡ is ∷ [] = sym (ap (map (writes_seen t)) e) ∙ m in cc same
last_seen t each (x ∷ rest) w is e m =
    let same : writes_seen t x ∷ map (writes_seen t) (rest ++ w ∷ []) ≡ is ∷ [] = sym (ap (map (writes_seen t)) e) ∙ m in
    absurd (no_writes_left t rest w (ap (drop 1) same))

-- what comes of the one input that was read
pub one_placed : (text made_text : Document → List ℕ) (stored : ReadOperation) (inputs : Inputs) (nodes : Table) (d : Data) (values : List Data) (rest : List (Option WriteList)) (w : Option WriteList)
    (made : Option (Result Request SerdeError)) → made_text ≡ text → nodes ≡ nodes_among stored.common inputs → values ≡ d ∷ [] → inputs.each.items ≡ rest ++ w ∷ [] → IsReadBy stored.common values inputs
    → MakesInput made_text stored nodes w made → (is : jobs.Common) → IsOperation stored is → IsMade made (answer_for (json_bodies text) is d)
one_placed text made_text stored inputs nodes d values rest w made same nodes_are one each read makes is o =
    let seen = last_seen (nodes_among stored.common inputs) inputs.each.items rest w (input_read is.schema d) each ((read is o.common).inputs.writes ∙ ap (map (input_read is.schema)) one) in
    let told : option_map (answer_with made_text is) (writes_seen nodes w) ≡ answer_for (json_bodies text) is d
    = (λ i. option_map (answer_with (same i) is) (writes_seen (nodes_are i) w)) ∙ ap (option_map (answer_with text is)) seen ∙ by_writes text is d in
    subst (IsMade made) told (makes is o)

pub made_has : (made : Result Request SerdeError) (answer : Option (Result Request Fault)) → IsMade (Some made) answer → Has answer (Answers made)
made_has made None h = absurd h
made_has made (Some answer) h = h

pub made_no : (answer : Option (Result Request Fault)) → IsMade None answer → answer ≡ None
made_no None h = refl
made_no (Some answer) h = absurd h

-- ---- the command

module _ (d : Data) (ds : List Data) (given : inputs_given d ≡ Some ds) (text : Document → List ℕ) where
  abbrev many_of : Option jobs.Common → Option Many
  many_of o = option_and_then (λ c. option_map (λ xs. record { common = c; inputs = xs }) (Some ds)) o

  many_is : many d ≡ many_of (common d)
  unfolding many
  many_is = rw given refl

  pub requested_so : (stored : ReadOperation) (lines : Vec ℕ Global) → Has (operation d) (IsOperation stored) → TellsInputs text stored ds lines → output lines.items ≡ requested_to (json_bodies text) d
  unfolding operation requested_to requested_by
  requested_so stored lines has told = rw many_is (go (common d) has)
    where
      by_test : (c : jobs.Common) (t : Bool) → checked_input c.schema ≡ t → Has (if t then Some c else None) (IsOperation stored) → output lines.items ≡ (if t then output (lines_for (json_bodies text) c ds) else no_job)
      by_test c true is has = ap output (told c has)
      by_test c false is has = absurd has

      go : (o : Option jobs.Common) → Has (operation_of o) (IsOperation stored) → output lines.items ≡ outcome_of (requested_by (json_bodies text)) (many_of o)
      go None has = absurd has
      go (Some c) has = by_test c (checked_input c.schema) refl has

  pub requested_none : operation d ≡ None → no_job ≡ requested_to (json_bodies text) d
  unfolding operation requested_to requested_by
  requested_none none = rw many_is (go (common d) none)
    where
      by_test : (c : jobs.Common) (t : Bool) → (if t then Some c else None) ≡ None → no_job ≡ (if t then output (lines_for (json_bodies text) c ds) else no_job)
      by_test c true e = absurd (cc e)
      by_test c false e = refl

      go : (o : Option jobs.Common) → operation_of o ≡ None → no_job ≡ outcome_of (requested_by (json_bodies text)) (many_of o)
      go None e = refl
      go (Some c) e = by_test c (checked_input c.schema) e

  pub requested_refused : (x : JobError) (r : Result Answer JobError) → r ≡ Err x → ReadsAs IsOperation (operation d) (Err x) → Gives (requested_to (json_bodies text) d) r
  requested_refused NoJob r is h = rw is (requested_none h)
  requested_refused OutOfMemory r is h = rw is tt

-- no inputs are there
pub requested_without : (d : Data) (text : Document → List ℕ) → inputs_given d ≡ None → no_job ≡ requested_to (json_bodies text) d
unfolding requested_to many
requested_without d text none = rw none (go (common d))
  where
    go : (o : Option jobs.Common) → no_job ≡ outcome_of (requested_by (json_bodies text)) (option_and_then (λ c. option_map (λ xs. record { common = c; inputs = xs }) None) o)
    go None = refl
    go (Some c) = refl

-- ---- one input alone

by_job : (bodies : Protocol) (c : jobs.Common) (item : Data) → checked_input c.schema ≡ true → outcome_of (answered bodies) (job_for c item) ≡ told_alone (answer_for bodies c item)
unfolding job_for answered
by_job bodies c item checked = go (input Kept c.schema item)
  where
    go : (ws : Option Writes) → outcome_of (answered bodies) (job_by c ws) ≡ told_alone (option_map (answer_of bodies) (job_by c ws))
    go None = refl
    go (Some ws) = rw checked refl

-- what comes of an input is what `request` answers to the job of that input alone
pub each_alone : LinesAreAlone
unfolding sent_job many
each_alone bodies d item alone m is checked same = ap (outcome_of (answered bodies)) (job-alone d item alone same) ∙ go (common d) (inputs_given d) is
  where
    go : (o : Option jobs.Common) (ds : Option (List Data)) → option_and_then (λ c. option_map (λ xs. record { common = c; inputs = xs }) ds) o ≡ Some m
        → outcome_of (answered bodies) (option_and_then (λ c. job_for c item) o) ≡ told_alone (answer_for bodies m.common item)
    go None ds e = absurd (cc e)
    go (Some c) None e = absurd (cc e)
    go (Some c) (Some ds) e = let common_is : c ≡ m.common = ap (λ (o : Option Many). (unwrap_or o m).common) e in ap (λ (x : jobs.Common). outcome_of (answered bodies) (job_for x item)) common_is ∙ by_job bodies m.common item checked
