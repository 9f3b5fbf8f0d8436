-- The calls of AWS JSON 1.0 and 1.1, from their steps.
use Rattle.std.proofs.Common.{◌≡◌, ap, sym, subst, ◌∙◌, ℕ, List, Result, Ok, Err}
use Rattle.std.specs.Prelude.{IsErrAnd}
use Rattle.smithy_types.specs.Results.{then_give, then_try}
use Rattle.smithy_http.specs.Requests.{Request}
use Rattle.smithy_schema.specs.Nodes.{Schema}
use Rattle.smithy_serde.specs.Present.{present_members}
use Rattle.smithy_serde.specs.Values.{Writes}
use Rattle.smithy_serde.specs.declared.error.SerdeError.{SerdeError}
use Rattle.smithy_serde.specs.declared.header_omit_settings.OmitFlags.{OmitFlags}
use Rattle.smithy_binding.specs.Faults.{Fault}
use Rattle.smithy_binding.specs.Refusing.{Answers, TellsFault}
use Rattle.smithy_binding.proofs.Refusals.{TellsFault-then}
use Rattle.smithy_aws.specs.Added.{with_call}
use Rattle.smithy_aws.specs.Requests.{Call, aws_json_request, called, posted, whole_followed}
use Rattle.smithy_aws.proofs.RequestLemmas.{not_tried, passed_on, tried}

module _ (c : Call) (s : Schema) (ws ps : Writes) (endpoint : List ℕ) (omit : OmitFlags) (result : Result Request SerdeError) (same : ps ≡ present_members ws) where
  abbrev steps : Writes → Result Request Fault
  steps there = then_try (posted c.version s there endpoint omit) (whole_followed s there)

  of_present : Answers result (then_try (steps ps) (called c)) → Answers result (aws_json_request c s ws endpoint omit)
  unfolding aws_json_request
  of_present told = subst (λ there. Answers result (then_try (steps there) (called c))) same told

  pub call_made : (r : Request) → steps ps ≡ Ok r → Answers result (called c r) → Answers result (aws_json_request c s ws endpoint omit)
  call_made r is told = of_present (tried (steps ps) (called c) r result is told)

  pub call_refused : (e : SerdeError) → IsErrAnd result (λ y. y ≡ e) → TellsFault e (λ f. steps ps ≡ Err f) → Answers result (aws_json_request c s ws endpoint omit)
  call_refused e is told = of_present (not_tried (steps ps) (called c) e result is told)

module _ (c : Call) (r : Request) (target : List ℕ) (before : List (List ℕ × List ℕ)) (is : target ≡ c.target) (here : before ≡ r.headers) where
  abbrev added_to : List ℕ → List (List ℕ × List ℕ) → Result (List (List ℕ × List ℕ)) Fault
  added_to t hs = with_call t c.is_query_compatible hs

  own : added_to c.target r.headers ≡ added_to target before
  own = ap (λ t. added_to t r.headers) (sym is) ∙ ap (added_to target) (sym here)

  -- its headers were added
  pub call_added : (pairs : List (List ℕ × List ℕ)) → added_to target before ≡ Ok pairs → called c r ≡ Ok (record r { headers = pairs })
  call_added pairs same = ap (λ o. then_give o (λ (ps : List (List ℕ × List ℕ)). record r { headers = ps })) (own ∙ same)

  -- no header can have its target
  pub call_not_added : (e : SerdeError) (result : Result Request SerdeError) → IsErrAnd result (λ y. y ≡ e) → TellsFault e (λ f. added_to target before ≡ Err f) → Answers result (called c r)
  call_not_added e result refused told =
      passed_on (called c r) e result refused
      (TellsFault-then e (λ f. added_to target before ≡ Err f) (λ f. called c r ≡ Err f)
      (λ f same. ap (λ o. then_give o (λ (ps : List (List ℕ × List ℕ)). record r { headers = ps })) (own ∙ same)) told)
