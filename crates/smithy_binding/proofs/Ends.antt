-- The end: the target, and the request.
use Rattle.smithy_binding.proofs.Common.{◌≡◌, refl, ap, sym, ◌∙◌, ℕ, List, [], ◌∷◌, ◌++◌, append_assoc, map, Result, Ok, Err, Option, Some, None, join_with_byte, append-nil, has_byte, option_or, unless, is_target, not_legal, then_give, Schema, pieces, Write, fill, pairs, labels, body, Protocol, OmitFlags, target_of, template_of, method_of, with_query, pair_text, request_at, answer, legal_request, Fault, behind, bound_fault, legal_fault, legal_target, legal_or_fault, writes_fault, writes_fault_by, body_fault, filled_fault, message_fault, message_headers, separator, queries, target_behind, target_with}

joined_queries : (p : List ℕ × List ℕ) (ps : List (List ℕ × List ℕ)) → join_with_byte 38 (map pair_text (p ∷ ps)) ≡ pair_text p ++ queries ps
joined_queries p [] = sym (append-nil (pair_text p))
joined_queries p (q ∷ qs) = ap (λ (t : List ℕ). pair_text p ++ 38 ∷ t) (joined_queries q qs)

with_query-behind : (path : List ℕ) (ps : List (List ℕ × List ℕ)) → with_query path ps ≡ target_behind path (queries ps)
with_query-behind path [] = refl
with_query-behind path (p ∷ ps) =
    append_assoc path (separator (has_byte 63 path)) (join_with_byte 38 (map pair_text (p ∷ ps)))
    ∙ ap (λ t. path ++ (separator (has_byte 63 path) ++ t)) (joined_queries p ps)

abbrev pub target_by : Schema → List ℕ → List (List ℕ × List ℕ) → List ℕ → Result (List ℕ) (List ℕ)
target_by schema endpoint labels query = target_with (template_of schema endpoint) labels query

target-is : (schema : Schema) (ws : List Write) (endpoint : List ℕ) (own : List (List ℕ × List ℕ)) (query : List ℕ) → own ≡ labels schema ws → query ≡ queries (pairs schema ws) → target_of schema ws endpoint ≡ target_by schema endpoint own query
unfolding target_of
target-is schema ws endpoint own query l q = rw (l, q) (go (fill (pieces (template_of schema endpoint)) (labels schema ws)))
  where
    go : (r : Result (List ℕ) (List ℕ)) → then_give r (λ path. with_query path (pairs schema ws)) ≡ then_give r (λ path. target_behind path (queries (pairs schema ws)))
    go (Err h) = refl
    go (Ok path) = ap (λ (t : List ℕ). Ok t) (with_query-behind path (pairs schema ws))

-- a fault of the input is the answer
answer-err : (protocol : Protocol) (schema : Schema) (ws : List Write) (endpoint : List ℕ) (omit : OmitFlags) (f : Fault) → legal_target schema ws endpoint ≡ Err f → answer protocol schema ws endpoint omit ≡ Err f
unfolding answer
answer-err protocol schema ws endpoint omit f e = rw e refl

-- a fault of the message is
pub answer-message : (protocol : Protocol) (schema : Schema) (ws : List Write) (endpoint : List ℕ) (omit : OmitFlags) (f : Fault) → message_fault bound_fault schema ws ≡ Some f → answer protocol schema ws endpoint omit ≡ Err f
unfolding legal_target message_fault writes_fault
answer-message protocol schema ws endpoint omit f e =
    answer-err protocol schema ws endpoint omit f (go (writes_fault_by bound_fault schema [] ws) (body_fault schema ws) (legal_or_fault (target_of schema ws endpoint)) e)
  where
    go : (a b : Option Fault) (r : Result (List ℕ) Fault) → option_or a b ≡ Some f → behind a (behind b r) ≡ Err f
    go (Some g) b r given = let same : g ≡ f = cc given in ap (λ (x : Fault). Err x) same
    go None (Some g) r given = let same : g ≡ f = cc given in ap (λ (x : Fault). Err x) same
    go None None r given = absurd (cc given)

-- Where the message has no fault, with these labels and this query.
module _ (protocol : Protocol) (schema : Schema) (ws : List Write) (endpoint : List ℕ) (omit : OmitFlags) (own : List (List ℕ × List ℕ)) (query : List ℕ) (none : message_fault bound_fault schema ws ≡ None) (l : own ≡ labels schema ws) (q : query ≡ queries (pairs schema ws)) where
  -- the target alone decides
  target-decides : legal_target schema ws endpoint ≡ legal_or_fault (target_by schema endpoint own query)
  unfolding legal_target message_fault writes_fault
  target-decides =
      go (writes_fault_by bound_fault schema [] ws) (body_fault schema ws) (legal_or_fault (target_of schema ws endpoint)) none
      ∙ ap (λ r. legal_or_fault r) (target-is schema ws endpoint own query l q)
    where
      go : (a b : Option Fault) (r : Result (List ℕ) Fault) → option_or a b ≡ None → behind a (behind b r) ≡ r
      go (Some g) b r given = absurd (cc given)
      go None (Some g) r given = absurd (cc given)
      go None None r given = refl

  pub answer-filled : (f : Fault) → filled_fault (target_by schema endpoint own query) ≡ Some f → answer protocol schema ws endpoint omit ≡ Err f
  answer-filled f given = answer-err protocol schema ws endpoint omit f (target-decides ∙ go (target_by schema endpoint own query) given)
    where
      go : (r : Result (List ℕ) (List ℕ)) → filled_fault r ≡ Some f → legal_or_fault r ≡ Err f
      go (Ok t) given = ap (λ (o : Option Fault). behind (option_or o (unless (is_target t) not_legal)) (Ok t)) given
      go (Err h) given = ap (λ (o : Option Fault). behind o (Ok [])) given

  request-is : (target : List ℕ)
      → request_at protocol schema ws omit target ≡ record { method = method_of schema; target = target; headers = message_headers protocol schema ws omit; body = (body protocol.text_of schema ws).bytes }
  unfolding message_headers
  request-is target = refl

  -- with each hole filled it is the request, if the target is legal
  pub answer-is : (target : List ℕ) → target_by schema endpoint own query ≡ Ok target
      → answer protocol schema ws endpoint omit ≡ legal_request (method_of schema) target (message_headers protocol schema ws omit) (body protocol.text_of schema ws).bytes
  unfolding answer
  answer-is target filled =
      rw (target-decides, filled) (λ i. then_give (behind (legal_fault target) (Ok target)) (λ t. request-is t i))

-- a target that is not legal has its fault for the request
pub request-fault : (method target : List ℕ) (headers : List (List ℕ × List ℕ)) (bytes : List ℕ) (f : Fault) → legal_fault target ≡ Some f → legal_request method target headers bytes ≡ Err f
request-fault method target headers bytes f e = rw e refl

pub same_request : (m n target : List ℕ) (g h : List (List ℕ × List ℕ)) (a b : List ℕ) → m ≡ n → g ≡ h → a ≡ b → legal_request m target g a ≡ legal_request n target h b
same_request m n target g h a b e k l = λ i. legal_request (e i) target (k i) (l i)
