-- A request with the facts of a typed input's.
use Rattle.std.proofs.Common.{◌≡◌, sym, ◌∙◌, ap, ℕ, true, List, map, Some, option_map, IsTrue}
use Rattle.smithy_types.specs.Grammars.{before_query}
use Rattle.smithy_http.specs.Facts.{Facts, facts, values_at, query_pieces, named_piece}
use Rattle.smithy_http.specs.Requests.{Request}
use Rattle.smithy_schema.specs.Nodes.{Schema}
use Rattle.smithy_schema.specs.WellMade.{is_well_made}
use Rattle.smithy_serde.specs.Values.{Write}
use Rattle.smithy_binding.specs.Answer.{place, request_at}
use Rattle.smithy_binding.specs.Bindings.{headers, pairs}
use Rattle.smithy_binding.specs.Bodies.{body}
use Rattle.smithy_binding.specs.Checked.{IsCheckedInput, checked_input}
use Rattle.smithy_binding.specs.Placing.{Protocol, OmitFlags, with_query, all_headers}
use Rattle.smithy_binding.specs.Typed.{IsTyped}
use Rattle.smithy_binding.proofs.CheckedLaws.{IsCheckedInput-from_test}
use Rattle.smithy_unambiguity.proofs.HeadersTold.{typed_writes}
use Rattle.smithy_unambiguity.proofs.Placed.{HasTypedWrites}
use Rattle.smithy_unambiguity.proofs.Requests.{IsPlacedRequest, placed_request}
use Rattle.smithy_unambiguity.proofs.TemplateQuery.{query_leaves_path}

-- What its parts have of the input.
pub record IsSeen (protocol : Protocol) (schema : Schema) (endpoint : List ℕ) (omit : OmitFlags) (ws : List Write) (q : Request) : Type 0 where
  pub checked : IsCheckedInput schema
  pub well_made : is_well_made schema ≡ true
  pub typed : IsTyped protocol schema endpoint omit ws
  pub writes : HasTypedWrites schema ws
  pub request : IsPlacedRequest protocol schema ws endpoint omit
  pub path : before_query request.path ≡ before_query q.target
  pub headers : (name : List ℕ) → values_at name (all_headers protocol (body protocol.text_of schema ws) omit (headers schema ws)) ≡ values_at name q.headers
  pub query : (name : List ℕ) → values_at name (map named_piece (query_pieces (with_query request.path (pairs schema ws)))) ≡ values_at name (map named_piece (query_pieces q.target))
  pub body : (body protocol.text_of schema ws).bytes ≡ q.body

pub seen : (protocol : Protocol) (schema : Schema) (endpoint : List ℕ) (omit : OmitFlags) (ws : List Write) (q : Request) → IsTrue (checked_input schema) → IsTrue (is_well_made schema) → IsTyped protocol schema endpoint omit ws
    → option_map facts (place protocol schema ws endpoint omit) ≡ Some (facts q) → IsSeen protocol schema endpoint omit ws q
seen protocol schema endpoint omit ws q checked well_made typed e =
    let x = placed_request protocol schema ws endpoint omit typed.conforming in
    let both : Some (facts (request_at protocol schema ws omit (with_query x.path (pairs schema ws)))) ≡ Some (facts q) = ap (option_map facts) (sym x.is) ∙ e in
    let same : facts (request_at protocol schema ws omit (with_query x.path (pairs schema ws))) ≡ facts q = cc both in
    record {
      checked = IsCheckedInput-from_test schema checked;
      well_made = well_made;
      typed = typed;
      writes = typed_writes protocol schema endpoint omit ws typed;
      request = x;
      path = sym (query_leaves_path x.path (pairs schema ws)) ∙ ap (λ (f : Facts). f.path) same;
      headers = λ name. ap (λ (f : Facts). f.headers name) same;
      query = λ name. ap (λ (f : Facts). f.query name) same;
      body = ap (λ (f : Facts). f.body) same;
    }
