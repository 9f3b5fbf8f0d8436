-- What a request of AWS JSON 1.0 or 1.1 tells of its input.
use Rattle.std.proofs.Common.{◌≡◌, refl, sym, ap, subst, ◌∙◌, ℕ, ◌≤◌, true, false, codes, List, [], length, Option, Some, None, option_map, Result, Ok, Err}
use Rattle.std.proofs.lemmas.Bool.{leb-true}
use Rattle.std.specs.Prelude.{unwrap_or}
use Rattle.std.specs.Result.{result_err, result_ok}
use Rattle.smithy_types.specs.Documents.{Document, nesting}
use Rattle.smithy_types.specs.Results.{then_give, then_try}
use Rattle.smithy_http.specs.Facts.{facts}
use Rattle.smithy_http.specs.Requests.{Request}
use Rattle.smithy_schema.specs.Nodes.{Schema}
use Rattle.smithy_serde.specs.DocumentOf.{DocumentFault, document_fault_text, document_of}
use Rattle.smithy_serde.specs.Lawful.{max_nesting}
use Rattle.smithy_serde.specs.Present.{present_members}
use Rattle.smithy_serde.specs.Values.{Writes}
use Rattle.smithy_serde.specs.declared.error.SerdeError.{SerdeError}
use Rattle.smithy_serde.specs.declared.header_omit_settings.OmitFlags.{OmitFlags}
use Rattle.smithy_document.proofs.ShapedDocuments.{has_document}
use Rattle.smithy_document.proofs.ShapedReads.{tells_normal_form}
use Rattle.smithy_binding.specs.Faults.{Fault, behind, custom, legal_fault}
use Rattle.smithy_binding.specs.Placing.{endpoint_or_slash, with_defaults}
use Rattle.smithy_binding.specs.Rpc.{posted, rpc_answer}
use Rattle.smithy_binding.specs.Typed.{is_shallow}
use Rattle.smithy_unambiguity.proofs.Sound.{sound}
use Rattle.smithy_wire.specs.Forms.{whole_form}
use Rattle.smithy_wire.specs.Misfits.{whole_misfit_told}
use Rattle.smithy_wire.specs.WireText.{wire_text}
use Rattle.smithy_wire.proofs.LawfulTexts.{texts_differ}
use Rattle.smithy_aws.specs.Added.{with_call}
use Rattle.smithy_aws.specs.Laws.{AwsJsonTells, IsPostable, posted_value}
use Rattle.smithy_aws.specs.Requests.{Call, aws_json_request, called, content_type_of, following}

-- ---- the body of a request

called_body : (c : Call) (a q : Request) → called c a ≡ Ok q → q.body ≡ a.body
called_body c a q e = go (with_call c.target c.is_query_compatible a.headers) e
  where
    go : (o : Result (List (List ℕ × List ℕ)) Fault) → then_give o (λ (pairs : List (List ℕ × List ℕ)). record a { headers = pairs }) ≡ Ok q → q.body ≡ a.body
    go (Ok pairs) e = let same : record a { headers = pairs } ≡ q = cc e in ap (λ (x : Request). x.body) (sym same)
    go (Err f) e = absurd (cc e)

posted_body : (content_type endpoint : List ℕ) (omit : OmitFlags) (body : List ℕ) (a : Request) → posted content_type endpoint omit body ≡ Ok a → a.body ≡ body
posted_body content_type endpoint omit body a e = go (behind (legal_fault (endpoint_or_slash endpoint)) (Ok (endpoint_or_slash endpoint))) e
  where
    at : List ℕ → Request
    at t = record { method = codes "POST"; target = t; headers = with_defaults content_type true (length body) omit []; body = body }

    go : (o : Result (List ℕ) Fault) → then_give o at ≡ Ok a → a.body ≡ body
    go (Ok t) e = let same : at t ≡ a = cc e in ap (λ (x : Request). x.body) (sym same)
    go (Err f) e = absurd (cc e)

module _ (c : Call) (endpoint : List ℕ) (omit : OmitFlags) where
  -- the request with this body
  abbrev sent : List ℕ → Result Request Fault
  sent body = then_try (posted (content_type_of c.version) endpoint omit body) (called c)

  sent_body : (body : List ℕ) (q : Request) → sent body ≡ Ok q → q.body ≡ body
  sent_body body q e = go (posted (content_type_of c.version) endpoint omit body) refl e
    where
      go : (o : Result Request Fault) → posted (content_type_of c.version) endpoint omit body ≡ o → then_try o (called c) ≡ Ok q → q.body ≡ body
      go (Ok a) is e = called_body c a q e ∙ posted_body (content_type_of c.version) endpoint omit body a is
      go (Err f) is e = absurd (cc e)

  -- nothing was found in the values of a request that was made
  followed_on : (a : Result Request Fault) (refusal : Option SerdeError) (q : Request) → then_try (then_try a (following refusal)) (called c) ≡ Ok q → then_try a (called c) ≡ Ok q
  followed_on (Ok a) None q e = e
  followed_on (Ok a) (Some x) q e = absurd (cc e)
  followed_on (Err f) refusal q e = absurd (cc e)

  module _ (schema : Schema) where
    abbrev text : Document → List ℕ
    text d = wire_text false (whole_form schema) d

    -- its body is the text of the document
    made : (ws : Writes) (d : Document) (q : Request) → document_of (posted_value ws) ≡ Ok d → aws_json_request c schema ws endpoint omit ≡ Ok q → sent (text d) ≡ Ok q
    unfolding aws_json_request rpc_answer
    made ws d q told e =
        followed_on (posted (content_type_of c.version) endpoint omit (text d)) (whole_misfit_told schema (present_members ws)) q
        (subst (λ (r : Result Document DocumentFault). then_try (then_try (behind (option_map (λ f. custom (document_fault_text f)) (result_err r)) (posted (content_type_of c.version) endpoint omit (unwrap_or (option_map text (result_ok r)) []))) (following (whole_misfit_told schema (present_members ws)))) (called c) ≡ Ok q) told e)

    low : (ws : Writes) (d : Document) → document_of (posted_value ws) ≡ Ok d → IsPostable schema ws → nesting d ≤ max_nesting
    low ws d told postable = leb-true (nesting d) max_nesting (ap (λ (r : Result Document DocumentFault). is_shallow (result_ok r)) (sym told) ∙ postable.shallow)

pub aws_json_tells : AwsJsonTells
aws_json_tells c schema endpoint omit v w q r stands postable_v postable_w is_q is_r =
    let d = has_document schema (posted_value v) postable_v.shaped in
    let e = has_document schema (posted_value w) postable_w.shaped in
    let made_q = made c endpoint omit schema v d.0 q d.1 is_q in
    let made_r = made c endpoint omit schema w e.0 r e.1 is_r in
    let tells = tells_normal_form schema (posted_value v) (posted_value w) stands postable_v.shaped postable_w.shaped in (
      λ same.
          let bodies = sym (sent_body c endpoint omit (text c endpoint omit schema d.0) q made_q) ∙ ap (λ f. f.body) same ∙ sent_body c endpoint omit (text c endpoint omit schema e.0) r made_r in
          let one : d.0 ≡ e.0 =
          texts_differ false (whole_form schema) (λ t. absurd (cc t)) d.0 e.0 (sound schema (posted_value v) d.0 stands postable_v.shaped d.1) (sound schema (posted_value w) e.0 stands postable_w.shaped e.1)
          (low c endpoint omit schema v d.0 d.1 postable_v) (low c endpoint omit schema w e.0 e.1 postable_w) bodies in
          tells.0 (d.1 ∙ ap (λ x. Ok x) one ∙ sym e.1),
      λ same.
          let both : Ok d.0 ≡ Ok e.0 = sym d.1 ∙ tells.1 same ∙ e.1 in
          let one : d.0 ≡ e.0 = cc both in
          let requests : Ok q ≡ Ok r = sym made_q ∙ ap (λ x. sent c endpoint omit (text c endpoint omit schema x)) one ∙ made_r in
          let it : q ≡ r = cc requests in
          ap facts it,
    )
