-- What no fault says of an input: each of its parts has none.
use Rattle.smithy_unambiguity.proofs.Common.{◌≡◌, refl, ◌∙◌, ap, ℕ, List, [], Option, Some, None, Result, Ok, Err, result_ok, result_err, then_give, Schema, pieces, Write, answer, place, request_at, pairs, labels, Fault, behind, fault, writes_fault, body_fault, legal_fault, legal_or_fault, legal_target, fill, Protocol, OmitFlags, target_of, template_of, with_query}

-- The writes and the body have no fault, the template is filled to a path, and the target over it is legal.
pub record IsConforming (schema : Schema) (ws : List Write) (endpoint : List ℕ) : Type 0 where
  pub writes : writes_fault schema [] ws ≡ None
  pub body : body_fault schema ws ≡ None
  pub path : List ℕ
  pub fills : fill (pieces (template_of schema endpoint)) (labels schema ws) ≡ Ok path
  pub legal : legal_fault (with_query path (pairs schema ws)) ≡ None

none_before : {A : Type 0} (o : Option Fault) (r : Result A Fault) → result_err (behind o r) ≡ None → (o ≡ None) × (result_err r ≡ None)
none_before None r e = (refl, e)
none_before (Some f) r e = absurd (cc e)

-- so a target without a fault has its holes filled, and is legal
filled_target : (schema : Schema) (ws : List Write) (endpoint : List ℕ) → writes_fault schema [] ws ≡ None → body_fault schema ws ≡ None → result_err (legal_or_fault (target_of schema ws endpoint)) ≡ None → IsConforming schema ws endpoint
unfolding target_of
filled_target schema ws endpoint writes body e = go (fill (pieces (template_of schema endpoint)) (labels schema ws)) refl e
  where
    go : (r : Result (List ℕ) (List ℕ)) → fill (pieces (template_of schema endpoint)) (labels schema ws) ≡ r
        → result_err (legal_or_fault (then_give r λ path. with_query path (pairs schema ws))) ≡ None → IsConforming schema ws endpoint
    go (Ok path) is h =
        record { writes = writes; body = body; path = path; fills = is; legal = (none_before (legal_fault (with_query path (pairs schema ws))) (Ok (with_query path (pairs schema ws))) h).0 }
    go (Err hole) is h = absurd (cc h)

pub conforming : (schema : Schema) (ws : List Write) (endpoint : List ℕ) → fault schema ws endpoint ≡ None → IsConforming schema ws endpoint
unfolding legal_target
conforming schema ws endpoint e =
    let first = none_before (writes_fault schema [] ws) (behind (body_fault schema ws) (legal_or_fault (target_of schema ws endpoint))) e in
    let second = none_before (body_fault schema ws) (legal_or_fault (target_of schema ws endpoint)) first.1 in
    filled_target schema ws endpoint first.0 second.0 second.1

-- such an input has its target
pub target_of_conforming : (schema : Schema) (ws : List Write) (endpoint : List ℕ) (c : IsConforming schema ws endpoint) → legal_target schema ws endpoint ≡ Ok (with_query c.path (pairs schema ws))
unfolding legal_target target_of
target_of_conforming schema ws endpoint c =
    let target = with_query c.path (pairs schema ws) in
    ap (λ (o : Option Fault). behind o (behind (body_fault schema ws) (legal_or_fault (target_of schema ws endpoint)))) c.writes
    ∙ ap (λ (o : Option Fault). behind o (legal_or_fault (target_of schema ws endpoint))) c.body
    ∙ ap (λ (r : Result (List ℕ) (List ℕ)). legal_or_fault (then_give r λ p. with_query p (pairs schema ws))) c.fills
    ∙ ap (λ (o : Option Fault). behind o (Ok target)) c.legal

pub from_conforming : (schema : Schema) (ws : List Write) (endpoint : List ℕ) → IsConforming schema ws endpoint → fault schema ws endpoint ≡ None
from_conforming schema ws endpoint c = ap result_err (target_of_conforming schema ws endpoint c)

-- and its request
pub place_conforming : (protocol : Protocol) (schema : Schema) (ws : List Write) (endpoint : List ℕ) (omit : OmitFlags) (c : IsConforming schema ws endpoint)
    → place protocol schema ws endpoint omit ≡ Some (request_at protocol schema ws omit (with_query c.path (pairs schema ws)))
unfolding answer
place_conforming protocol schema ws endpoint omit c =
    ap (λ (r : Result (List ℕ) Fault). result_ok (then_give r (request_at protocol schema ws omit))) (target_of_conforming schema ws endpoint c)
