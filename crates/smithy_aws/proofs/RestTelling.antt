-- What a request of restJson1 tells of its input.
use Rattle.std.proofs.Common.{◌≡◌, refl, sym, ap, ap₂, subst, ◌∙◌, ℕ, Bool, true, false, not, ◌&&◌, ◌==◌, codes, List, length, Option, Some, None, option_map, Result, Ok, Err}
use Rattle.std.proofs.lemmas.Bool.{and_parts}
use Rattle.std.specs.Prelude.{is_some}
use Rattle.std.specs.Option.{option_map_or}
use Rattle.std.specs.Result.{result_ok}
use Rattle.smithy_types.specs.Results.{then_give, then_try}
use Rattle.smithy_http.specs.Facts.{facts}
use Rattle.smithy_http.specs.Requests.{Request}
use Rattle.smithy_schema.specs.Nodes.{Schema}
use Rattle.smithy_schema.specs.WellMade.{is_well_made}
use Rattle.smithy_serde.specs.Present.{present_members}
use Rattle.smithy_serde.specs.Values.{Write, Writes}
use Rattle.smithy_serde.specs.declared.error.SerdeError.{SerdeError}
use Rattle.smithy_serde.specs.declared.header_omit_settings.OmitFlags.{OmitFlags}
use Rattle.smithy_binding.specs.Answer.{answer, place, request_at}
use Rattle.smithy_binding.specs.Bindings.{headers, pairs}
use Rattle.smithy_binding.specs.Bodies.{body}
use Rattle.smithy_binding.specs.Checked.{checked_input}
use Rattle.smithy_binding.specs.Faults.{Fault}
use Rattle.smithy_binding.specs.Placing.{Protocol, with_defaults, with_query}
use Rattle.smithy_binding.specs.Words.{found}
use Rattle.smithy_unambiguity.specs.Laws.{FactsDecideView}
use Rattle.smithy_unambiguity.proofs.Requests.{placed_request}
use Rattle.smithy_wire.specs.Forms.{Form, body_form}
use Rattle.smithy_wire.specs.Misfits.{body_misfit_told}
use Rattle.smithy_wire.specs.WireNames.{stands}
use Rattle.smithy_wire.specs.WireText.{wire_text}
use Rattle.smithy_wire.specs.declared.side.Side.TheVariants as side
use Rattle.smithy_aws.specs.Added.{added, raw_payload, with_type}
use Rattle.smithy_aws.specs.Laws.{IsReadyTyped, RestJson1Tells, has_raw_bytes, ready_list}
use Rattle.smithy_aws.specs.Requests.{following, rest_json1, rest_json1_request, takes_requests}
use Rattle.smithy_aws.proofs.RawLemmas.{uncoded}
use Rattle.smithy_aws.proofs.TypeFacts.{measured, type_kept, type_told}

-- ---- the request that is placed

-- one whose values follow their nodes is only added to
given : (a : Request) (refusal : Option SerdeError) (add : Request → Request) (q : Request) → then_give (then_try (Ok a) (following refusal)) add ≡ Ok q → q ≡ add a
given a None add q e = let same : add a ≡ q = cc e in sym same
given a (Some x) add q e = absurd (cc e)

answered : (r : Result Request Fault) (a : Request) → result_ok r ≡ Some a → r ≡ Ok a
answered (Ok x) a e = let same : x ≡ a = cc e in ap (λ y. Ok y) same
answered (Err f) a e = absurd (cc e)

record IsMade (schema : Schema) (endpoint : List ℕ) (omit : OmitFlags) (ws : Writes) (q : Request) : Type 0 where
  target : List ℕ
  placed : place (rest_json1 schema) schema (ready_list schema ws) endpoint omit ≡ Some (request_at (rest_json1 schema) schema (ready_list schema ws) omit target)
  same : q ≡ added schema omit (headers schema (ready_list schema ws)) (request_at (rest_json1 schema) schema (ready_list schema ws) omit target)

made : (schema : Schema) (endpoint : List ℕ) (omit : OmitFlags) (ws : Writes) (q : Request) → IsReadyTyped schema endpoint omit ws → rest_json1_request schema ws endpoint omit ≡ Ok q
    → IsMade schema endpoint omit ws q
unfolding rest_json1_request
made schema endpoint omit ws q typed e =
    let there = ready_list schema ws in
    let p = placed_request (rest_json1 schema) schema there endpoint omit typed.conforming in
    let target = with_query p.path (pairs schema there) in
    let a = request_at (rest_json1 schema) schema there omit target in
    let is = answered (answer (rest_json1 schema) schema there endpoint omit) a p.is in
    let refusal = body_misfit_told schema (present_members ws) in
    record {
      target = target;
      placed = p.is;
      same =
          given a refusal (added schema omit (headers schema there)) q
          (subst (λ (r : Result Request Fault). then_give (then_try r (following refusal)) (added schema omit (headers schema there)) ≡ Ok q) is e);
    }

-- ---- the content type of a raw payload

-- the headers of a raw payload's request have the length alone
raw_headers : (p : Protocol) (schema m : Schema) (ws : List Write) (omit : OmitFlags) (target : List ℕ) → raw_payload schema ≡ Some m
    → (request_at p schema ws omit target).headers ≡ measured m omit (length (request_at p schema ws omit target).body) (headers schema ws)
unfolding body
raw_headers p schema m ws omit target is =
    ap (λ c. with_defaults p.content_type c (length (request_at p schema ws omit target).body) omit (headers schema ws)) (uncoded schema m is)

module _ (schema : Schema) (omit : OmitFlags) (v w : List Write) (x y : List ℕ) where
  abbrev at_v : Request
  at_v = request_at (rest_json1 schema) schema v omit x

  abbrev at_w : Request
  at_w = request_at (rest_json1 schema) schema w omit y

  abbrev add : Option Schema → List Write → Request → Request
  add o ws a = option_map_or (λ m. with_type m omit (headers schema ws) a) o a

  added_kept : facts at_v ≡ facts at_w → facts (added schema omit (headers schema v) at_v) ≡ facts (added schema omit (headers schema w) at_w)
  added_kept same = go (raw_payload schema) refl
    where
      go : (o : Option Schema) → raw_payload schema ≡ o → facts (add o v at_v) ≡ facts (add o w at_w)
      go None is = same
      go (Some m) is =
          type_kept m omit (headers schema v) (headers schema w) at_v at_w (raw_headers (rest_json1 schema) schema m v omit x is) (raw_headers (rest_json1 schema) schema m w omit y is) same

  added_told : (is_some (raw_payload schema) ≡ true → (length at_v.body == 0) ≡ false → (length at_w.body == 0) ≡ false
      → is_some (found (codes "content-type") (headers schema v)) ≡ is_some (found (codes "content-type") (headers schema w)))
      → facts (added schema omit (headers schema v) at_v) ≡ facts (added schema omit (headers schema w) at_w) → facts at_v ≡ facts at_w
  added_told alike same = go (raw_payload schema) refl same
    where
      go : (o : Option Schema) → raw_payload schema ≡ o → facts (add o v at_v) ≡ facts (add o w at_w) → facts at_v ≡ facts at_w
      go None is same = same
      go (Some m) is same =
          type_told m omit (headers schema v) (headers schema w) at_v at_w (raw_headers (rest_json1 schema) schema m v omit x is) (raw_headers (rest_json1 schema) schema m w omit y is)
          (alike (ap is_some is)) same

-- what is added leaves the body
added_body : (schema : Schema) (omit : OmitFlags) (pairs : List (List ℕ × List ℕ)) (a : Request) → (added schema omit pairs a).body ≡ a.body
added_body schema omit pairs a = go (raw_payload schema)
  where
    go : (o : Option Schema) → (option_map_or (λ m. with_type m omit pairs a) o a).body ≡ a.body
    go None = refl
    go (Some m) = refl

-- ---- the law

-- that of the core's requests by the schema
pub by_names : (schema : Schema) (names : Bool) (f : Form) → names ≡ true → f ≡ body_form side.Request schema
    → FactsDecideView (record { content_type = codes "application/json"; text_of = wire_text names f }) → FactsDecideView (rest_json1 schema)
by_names schema names f named formed law =
    subst (λ g. FactsDecideView (record { content_type = codes "application/json"; text_of = wire_text true g })) formed
    (subst (λ b. FactsDecideView (record { content_type = codes "application/json"; text_of = wire_text b f })) named law)

raw_bytes_are : (schema : Schema) (q a : Request) → q.body ≡ a.body → is_some (raw_payload schema) ≡ true → (length a.body == 0) ≡ false → has_raw_bytes schema q ≡ true
raw_bytes_are schema q a same raw some = ap₂ (λ x y. x && not y) raw (ap (λ b. length b == 0) same ∙ some)

pub rest_json1_tells : (schema : Schema) → takes_requests schema ≡ true → is_well_made schema ≡ true → FactsDecideView (rest_json1 schema) → RestJson1Tells schema
rest_json1_tells schema takes well_made facts_decide endpoint omit v w q r typed_v typed_w alike is_q is_r =
    let p = rest_json1 schema in
    let a = made schema endpoint omit v q typed_v is_q in
    let b = made schema endpoint omit w r typed_w is_r in
    let there_v = ready_list schema v in
    let there_w = ready_list schema w in
    let of_a = request_at p schema there_v omit a.target in
    let of_b = request_at p schema there_w omit b.target in
    let checked = (and_parts (checked_input schema) (is_some schema.node.traits.http) (and_parts (checked_input schema && is_some schema.node.traits.http) (stands side.Request schema) takes).0).0 in
    let law = facts_decide schema endpoint omit there_v there_w checked well_made typed_v typed_w in
    let body_a : q.body ≡ of_a.body = ap (λ (z : Request). z.body) a.same ∙ added_body schema omit (headers schema there_v) of_a in
    let body_b : r.body ≡ of_b.body = ap (λ (z : Request). z.body) b.same ∙ added_body schema omit (headers schema there_w) of_b in (
      λ same.
          law.0 (ap (option_map facts) a.placed
          ∙ ap (λ f. Some f)
          (added_told schema omit there_v there_w a.target b.target (λ raw some_v some_w. alike (raw_bytes_are schema q of_a body_a raw some_v) (raw_bytes_are schema r of_b body_b raw some_w))
          (ap facts (sym a.same) ∙ same ∙ ap facts b.same))
          ∙ ap (option_map facts) (sym b.placed)),
      λ same.
          let both : Some (facts of_a) ≡ Some (facts of_b) = ap (option_map facts) (sym a.placed) ∙ law.1 same ∙ ap (option_map facts) b.placed in
          let seen : facts of_a ≡ facts of_b = cc both in
          ap facts a.same ∙ added_kept schema omit there_v there_w a.target b.target seen ∙ ap facts (sym b.same),
    )
