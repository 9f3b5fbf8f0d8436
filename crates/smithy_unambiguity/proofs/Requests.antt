-- The parts of a conforming input's request, and what two requests with the same facts share.
use Rattle.smithy_unambiguity.proofs.Common.{◌≡◌, sym, ◌∙◌, ap, ℕ, List, map, Ok, Some, None, option_map, before_first, Schema, pieces, Write, facts, values_at, named_piece, query_pieces, is_question_mark, headers, pairs, labels, body, fill, fault, place, request_at, Protocol, OmitFlags, template_of, with_query, all_headers, SeesSame}
use Rattle.smithy_unambiguity.proofs.Conformity.{conforming, place_conforming}

-- The template is filled, and the request stands over that path.
pub record IsPlacedRequest (protocol : Protocol) (schema : Schema) (ws : List Write) (endpoint : List ℕ) (omit : OmitFlags) : Type 0 where
  pub path : List ℕ
  pub fills : fill (pieces (template_of schema endpoint)) (labels schema ws) ≡ Ok path
  pub is : place protocol schema ws endpoint omit ≡ Some (request_at protocol schema ws omit (with_query path (pairs schema ws)))

pub placed_request : (protocol : Protocol) (schema : Schema) (ws : List Write) (endpoint : List ℕ) (omit : OmitFlags) → fault schema ws endpoint ≡ None → IsPlacedRequest protocol schema ws endpoint omit
placed_request protocol schema ws endpoint omit e =
    let c = conforming schema ws endpoint e in
    record { path = c.path; fills = c.fills; is = place_conforming protocol schema ws endpoint omit c }

-- What two placed requests with the same facts share.
pub record SeeSame (protocol : Protocol) (schema : Schema) (omit : OmitFlags) (v w : List Write) (path other : List ℕ) : Type 0 where
  pub paths : before_first is_question_mark (with_query path (pairs schema v)) ≡ before_first is_question_mark (with_query other (pairs schema w))
  pub headers : (name : List ℕ) → values_at name (all_headers protocol (body protocol.text_of schema v) omit (headers schema v)) ≡ values_at name (all_headers protocol (body protocol.text_of schema w) omit (headers schema w))
  pub query : (name : List ℕ) → values_at name (map named_piece (query_pieces (with_query path (pairs schema v)))) ≡ values_at name (map named_piece (query_pieces (with_query other (pairs schema w))))
  pub body : (body protocol.text_of schema v).bytes ≡ (body protocol.text_of schema w).bytes

pub see_same : (protocol : Protocol) (schema : Schema) (endpoint : List ℕ) (omit : OmitFlags) (v w : List Write) (x : IsPlacedRequest protocol schema v endpoint omit) (y : IsPlacedRequest protocol schema w endpoint omit)
    → SeesSame protocol schema endpoint omit v w → SeeSame protocol schema omit v w x.path y.path
see_same protocol schema endpoint omit v w x y e =
    let both : Some (facts (request_at protocol schema v omit (with_query x.path (pairs schema v)))) ≡ Some (facts (request_at protocol schema w omit (with_query y.path (pairs schema w)))) =
    ap (option_map facts) (sym x.is) ∙ e ∙ ap (option_map facts) y.is in
    let same : facts (request_at protocol schema v omit (with_query x.path (pairs schema v))) ≡ facts (request_at protocol schema w omit (with_query y.path (pairs schema w))) = cc both in
    record { paths = ap (λ f. f.path) same; headers = λ name. ap (λ f. f.headers name) same; query = λ name. ap (λ f. f.query name) same; body = ap (λ f. f.body) same }
