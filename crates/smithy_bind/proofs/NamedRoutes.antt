-- The answer to a request of many operations, a text at a time.
use Rattle.std.proofs.Common.{◌≡◌, refl, sym, ◌∙◌, ap, ℕ, ◌+◌, ◌<◌, length, drop, get_or, map, Bool, true, false, cond, ◌&&◌, List, [], ◌∷◌, Option, Some, None, option_map, option_and_then, find, Result, Ok, Err, subst}
use Rattle.std.specs.Option.{option_map_or}
use Rattle.std.proofs.lemmas.List.{drop_more}
use Rattle.serde_json.specs.Data.{Data}
use Rattle.serde_json.specs.Find.{as_str}
use Rattle.smithy_types.specs.Results.{each, then_try}
use Rattle.smithy_types.specs.Texts.{same_text}
use Rattle.smithy_http.specs.Requests.{Request}
use Rattle.smithy_json.specs.JsonView.{view}
use Rattle.smithy_json.specs.declared.value.JsonValue.{JsonValue}
use Rattle.smithy_schema.specs.Nodes.{Schema}
use Rattle.smithy_serde.specs.declared.header_omit_settings.OmitFlags.{OmitFlags}
use Rattle.smithy_binding.specs.Checked.{checked_input}
use Rattle.smithy_model.specs.Json.{provided}
use Rattle.smithy_model.specs.declared.error.JobError.{JobError}
use Rattle.smithy_router.specs.Tables.{Entry}
use Rattle.smithy_recovery.specs.Recovered.{Reading}
use Rattle.smithy_job.specs.Routing.{Operation, Routing, routing}
use Rattle.smithy_job.specs.RoutingView.{all_named, operation_by, routing_of}
use Rattle.smithy_job.specs.declared.routing.NamedRouting.{NamedRouting}
use Rattle.smithy_job.proofs.RoutingLemmas.{named_so}
use Rattle.smithy_bind.specs.Outcome.{json_requests, routed_to}
use Rattle.smithy_bind.specs.Routing.{are_checked, found_by, found_or_refused, no_route, operation_found, operation_named, routed_by, told_input, with_operation, with_operations}
use Rattle.smithy_bind.specs.Told.{Outcome, fault_line, no_job, outcome_of}
use Rattle.smithy_bind.specs.declared.told.Answer.{Answer}
use Rattle.smithy_bind.specs.views.AnswerView.{Gives}
use Rattle.smithy_bind.specs.views.RoutedView.{checked, checked_by, is_named, routes_along, routes_named, told_along, told_by_added, told_by_routes, told_in_turn, told_of}

-- all operations, then their routes
abbrev all_routes : Result (List Entry) (List ℕ) → List Operation → Option (Result (List Entry) (List ℕ))
all_routes so_far os = provided (are_checked os) (Some (then_try so_far (λ es. with_operations es os)))

abbrev and_one : Result (List Entry) (List ℕ) → Operation → Result (List Entry) (List ℕ)
and_one so_far o = then_try so_far (λ es. with_operation es o)

with_none : (r : Result (List Entry) (List ℕ)) → r ≡ then_try r (λ es. with_operations es [])
with_none (Ok es) = refl
with_none (Err line) = refl

with_more : (r : Result (List Entry) (List ℕ)) (o : Operation) (os : List Operation) → then_try (and_one r o) (λ es. with_operations es os) ≡ then_try r (λ es. with_operations es (o ∷ os))
with_more (Ok es) o os = refl
with_more (Err line) o os = refl

-- one operation more
all_more : (r : Result (List Entry) (List ℕ)) (o : Operation) (all : Option (List Operation)) → checked_input o.schema ≡ true
    → option_and_then (all_routes (and_one r o)) all ≡ option_and_then (all_routes r) (option_map (λ os. o ∷ os) all)
all_more r o None is = refl
all_more r o (Some os) is =
    (λ i. provided (are_checked os) (Some (with_more r o os i))) ∙ ap (λ b. provided (b && are_checked os) (Some (then_try r (λ es. with_operations es (o ∷ os))))) (sym is)

none_checked : (r : Result (List Entry) (List ℕ)) (o : Operation) (all : Option (List Operation)) → checked_input o.schema ≡ false
    → option_and_then (all_routes r) (option_map (λ os. o ∷ os) all) ≡ None
none_checked r o None is = refl
none_checked r o (Some os) is = ap (λ b. provided (b && are_checked os) (Some (then_try r (λ es. with_operations es (o ∷ os))))) is

module _ (read : Data → Option Operation) where
  along_more : (r : Result (List Entry) (List ℕ)) (ds : List Data) (o : Operation) (b : Bool) → checked_input o.schema ≡ b
      → routes_along read (and_one r o) ds ≡ option_and_then (all_routes (and_one r o)) (each read ds)
      → option_and_then (λ x. routes_along read (and_one r x) ds) (provided b (Some o)) ≡ option_and_then (all_routes r) (option_map (λ os. o ∷ os) (each read ds))
  along_more r ds o true is more = more ∙ all_more r o (each read ds) is
  along_more r ds o false is more = sym (none_checked r o (each read ds) is)

  -- an operation at a time, and all of them first
  along : (r : Result (List Entry) (List ℕ)) (ds : List Data) → routes_along read r ds ≡ option_and_then (all_routes r) (each read ds)
  along r [] = ap Some (with_none r)
  along r (d ∷ ds) = go (read d) (λ o. along (and_one r o) ds)
    where
      go : (o : Option Operation) → ((x : Operation) → routes_along read (and_one r x) ds ≡ option_and_then (all_routes (and_one r x)) (each read ds))
          → option_and_then (λ x. routes_along read (and_one r x) ds) (option_and_then checked o) ≡ option_and_then (all_routes r) (option_and_then (λ x. option_map (λ os. x ∷ os) (each read ds)) o)
      go None more = refl
      go (Some o) more = along_more r ds o (checked_input o.schema) refl (more o)

  module _ (named : (d : Data) (o : Operation) → read d ≡ Some o → as_str d ≡ Some o.name) (told : Operation → Outcome) (name : List ℕ) where
    -- the first operation of a name is that of the first such text
    first_more : (d : Data) (ds : List Data) (o : Operation) (os : List Operation) → read d ≡ Some o
        → told_of read told (find (is_named name) ds) ≡ option_map_or told (operation_named os name) (fault_line no_route)
        → told_of read told (find (is_named name) (d ∷ ds)) ≡ option_map_or told (operation_named (o ∷ os) name) (fault_line no_route)
    first_more d ds o os is more =
        ap (λ t. told_of read told (cond (option_map_or (λ x. same_text x name) t false) (Some d) (find (is_named name) ds))) (named d o is) ∙ go (same_text o.name name)
      where
        go : (b : Bool) → told_of read told (cond b (Some d) (find (is_named name) ds)) ≡ option_map_or told (cond b (Some o) (operation_named os name)) (fault_line no_route)
        go true = ap (outcome_of told) is
        go false = more

    first_named : (ds : List Data) (os : List Operation) → each read ds ≡ Some os → told_of read told (find (is_named name) ds) ≡ option_map_or told (operation_named os name) (fault_line no_route)
    first_named [] os e = let same : [] ≡ os = cc in ap (λ xs. option_map_or told (operation_named xs name) (fault_line no_route)) same
    first_named (d ∷ ds) os e = go (read d) refl (each read ds) refl (λ xs h. first_named ds xs h) e
      where
        go : (o : Option Operation) → read d ≡ o → (all : Option (List Operation)) → each read ds ≡ all
            → ((xs : List Operation) → each read ds ≡ Some xs → told_of read told (find (is_named name) ds) ≡ option_map_or told (operation_named xs name) (fault_line no_route))
            → option_and_then (λ x. option_map (λ xs. x ∷ xs) all) o ≡ Some os
            → told_of read told (find (is_named name) (d ∷ ds)) ≡ option_map_or told (operation_named os name) (fault_line no_route)
        go None is all are more h = absurd (cc h)
        go (Some o) is None are more h = absurd (cc h)
        go (Some o) is (Some xs) are more h =
            let same : o ∷ xs ≡ os = cc in
            first_more d ds o xs is (more xs are) ∙ ap (λ ys. option_map_or told (operation_named ys name) (fault_line no_route)) same

-- what is told along texts
abbrev by_routes : (Data → Option Operation) → (Operation → Outcome) → Request → List Data → Result (List Entry) (List ℕ) → Outcome
by_routes read told q ds (Ok entries) = told_along read told q ds entries
by_routes read told q ds (Err line) = fault_line line

-- all operations, and what is told by them
module _ (read : Data → Option Operation) (named : (d : Data) (o : Operation) → read d ≡ Some o → as_str d ≡ Some o.name) (reading : Schema → Reading) (q : Request) (omit : OmitFlags) where
  abbrev job_of : List Operation → Routing
  job_of os = record { operations = os; request = q; omit = omit }

  abbrev told_all : List Data → Result (List Entry) (List ℕ) → Outcome
  told_all ds routes = by_routes read (told_input reading omit q) q ds routes

  told_found : (ds : List Data) (os : List Operation) (entries : List Entry) → each read ds ≡ Some os → found_by reading (job_of os) entries ≡ told_all ds (Ok entries)
  told_found ds os entries e = go (operation_found q entries)
    where
      go : (o : Option (List ℕ)) → option_map_or (told_input reading omit q) (option_and_then (operation_named os) o) (fault_line no_route)
          ≡ told_of read (told_input reading omit q) (option_and_then (λ name. find (is_named name) ds) o)
      go None = refl
      go (Some name) = sym (first_named read named (told_input reading omit q) name ds os e)

  told_routes : (ds : List Data) (os : List Operation) (routes : Result (List Entry) (List ℕ)) → each read ds ≡ Some os → found_or_refused reading (job_of os) routes ≡ told_all ds routes
  told_routes ds os (Ok entries) e = told_found ds os entries e
  told_routes ds os (Err line) e = refl

  pub told_by_all : (ds : List Data) → outcome_of (routed_by reading) (option_map job_of (each read ds)) ≡ outcome_of (told_all ds) (routes_along read (Ok []) ds)
  unfolding routed_by
  told_by_all ds = go (each read ds) refl ∙ ap (outcome_of (told_all ds)) (sym (along read (Ok []) ds))
    where
      go : (all : Option (List Operation)) → each read ds ≡ all → outcome_of (routed_by reading) (option_map job_of all) ≡ outcome_of (told_all ds) (option_and_then (all_routes (Ok [])) all)
      go None e = refl
      go (Some os) e = by_check (are_checked os)
        where
          by_check : (b : Bool) → cond b (found_or_refused reading (job_of os) (with_operations [] os)) no_job ≡ outcome_of (told_all ds) (provided b (Some (with_operations [] os)))
          by_check true = told_routes ds os (with_operations [] os) e
          by_check false = refl

-- The same of the names of a job.

module _ (reading : Schema → Reading) (j : NamedRouting) where
  abbrev texts : List Data
  texts = map view j.operations.names.now

  same_told : (routes : Result (List Entry) (List ℕ))
      → by_routes (operation_by j.operations) (told_input reading j.omit j.request) j.request texts routes ≡ told_by_added reading j routes
  unfolding told_by_added told_by_routes
  same_told (Ok entries) = refl
  same_told (Err line) = refl

  told_all_named : outcome_of (routed_by reading) (routing_of (all_named j.operations) j) ≡ told_in_turn reading j
  unfolding told_in_turn
  told_all_named =
      told_by_all (operation_by j.operations) (named_so j.operations) reading j.request j.omit texts
      ∙ (λ i. outcome_of (λ routes. same_told routes i) (routes_named j.operations))

-- the answer to the operations that a value names
pub routed_in_turn : (d : Data) (j : NamedRouting) (r : Result Answer JobError) → routing d ≡ routing_of (all_named j.operations) j
    → Gives (told_in_turn json_requests j) r → Gives (routed_to d) r
unfolding routed_to
routed_in_turn d j r is gives =
    let same : outcome_of (routed_by json_requests) (routing d) ≡ told_in_turn json_requests j = ap (outcome_of (routed_by json_requests)) is ∙ told_all_named json_requests j in
    subst (λ (o : Outcome). Gives o r) (sym same) gives

-- one text more
pub along-more : (read : Data → Option Operation) (xs : List JsonValue) (i : ℕ) (x : JsonValue) (r : Result (List Entry) (List ℕ)) (o : Operation) (whole : Option (Result (List Entry) (List ℕ)))
    → i < length xs → x ≡ get_or xs i x → checked_by read (view x) ≡ Some o
    → routes_along read r (map view (drop i xs)) ≡ whole → routes_along read (then_try r (λ es. with_operation es o)) (map view (drop (i + 1) xs)) ≡ whole
along-more read xs i x r o whole l is at so_far =
    sym (rw (drop_more xs i x l, ← is, at) refl) ∙ so_far
