-- What is told of a request that is sent on.
use Rattle.std.proofs.Common.{◌≡◌, refl, subst, ◌∙◌, ℕ, ◌==◌, ◌||◌, codes, length, List, Bool, true, false, Option, Some, None, Result, IsTrue, IfOk, if◌then◌else◌}
use Rattle.smithy_types.specs.Grammars.{is_legal_target}
use Rattle.smithy_http.specs.Requests.{Request}
use Rattle.smithy_schema.specs.Nodes.{Schema, Table, at_place}
use Rattle.smithy_schema.specs.WellMade.{is_well_made}
use Rattle.smithy_schema.specs.declared.parts.SchemaIndex.{SchemaIndex}
use Rattle.smithy_serde.specs.Lawful.{IsLawfulText}
use Rattle.smithy_serde.specs.declared.header_omit_settings.OmitFlags.{OmitFlags}
use Rattle.smithy_document.specs.JsonHeld.{json_held}
use Rattle.smithy_document.specs.JsonText.{json_text}
use Rattle.smithy_document.specs.declared.json_codec.JsonCodec.{JsonCodec}
use Rattle.smithy_binding.specs.Placing.{endpoint_or_slash}
use Rattle.smithy_binding.specs.Protocols.{Parts}
use Rattle.smithy_recovery.specs.Recovered.{reading_by}
use Rattle.smithy_recovery.specs.Recovering.{IsCheckedAt}
use Rattle.smithy_recovery.proofs.Decided.{IsSoundReading}
use Rattle.smithy_gateway.specs.Answers.{IsRpc, IsRest, NoInput, NoCall, call_headers}
use Rattle.smithy_recovery.specs.Finding.{Finds}
use Rattle.smithy_recovery.specs.declared.error.RecoverError.{RecoverError}
use Rattle.smithy_gateway.proofs.Sent.{rpc_found, rest_found}
use Rattle.smithy_model.specs.declared.error.JobError.{JobError}
use Rattle.smithy_job.specs.Gateway as jobs
use Rattle.smithy_job.specs.GatewayView.{IsGateway}
use Rattle.smithy_job.specs.Recovering.{Recovering}
use Rattle.smithy_job.specs.Settings.{is_rpc_endpoint}
use Rattle.smithy_job.specs.Tables.{Has}
use Rattle.smithy_job.specs.declared.gateway.Gateway.{Gateway}
use Rattle.smithy_job.specs.declared.gateway.Sending.TheVariants.{Rest, Rpc}
use Rattle.smithy_bind.specs.Gateway.{sent_on}
use Rattle.smithy_bind.specs.Outcome.{gatewayed_job, json_calls, json_reading}
use Rattle.smithy_bind.specs.Told.{outcome_of}
use Rattle.smithy_bind.specs.declared.told.Answer.{Answer}
use Rattle.smithy_bind.specs.views.AnswerView.{Gives}
use Rattle.smithy_bind.specs.views.GatewayView.{TellsSent}

-- an endpoint of calls is a legal target, as is the one that stands for an empty one
pub target_is_legal : (e : List ℕ) → IsTrue (is_rpc_endpoint e) → IsTrue (is_legal_target (endpoint_or_slash e))
target_is_legal e h = go (length e == 0) refl h
  where
    go : (b : Bool) → (length e == 0) ≡ b → IsTrue (b || is_legal_target e) → IsTrue (is_legal_target (if b then codes "/" else e))
    go true is k = refl
    go false is k = k

-- By protocols with bodies of JSON.
module _ (t : Table) (place : SchemaIndex) (s here : Schema) (endpoint : List ℕ) (omit : OmitFlags) (q : Request) (result : Result Request RecoverError) (rest rpc : Parts JsonCodec)
    (kind : rest.content_type ≡ codes "application/json") (rpc_kind : rpc.content_type ≡ codes "application/json") (lawful : IsLawfulText json_text json_held)
    (at : at_place t place.0 ≡ Some s) (stands : Some here ≡ at_place t place.0) (checked : IsCheckedAt t place.0) (well_made : IsTrue (is_well_made here)) where
  sound : IsSoundReading (reading_by (λ (_ : JsonCodec). json_text) (λ (_ : JsonCodec). json_held) rest s endpoint)
  sound = record { checked = checked s at; well_made = made; lawful = lawful }
    where
      made : IsTrue (is_well_made s)
      made = let same : here ≡ s = let e : Some here ≡ Some s = stands ∙ at in cc e in subst (λ (x : Schema). IsTrue (is_well_made x)) same well_made

  pub rpc_by_json : (e : List ℕ) → IsTrue (is_legal_target (endpoint_or_slash e)) → IsRpc (λ _. json_text) (λ _. json_text) rest rpc t place endpoint omit q result
      → IfOk result (λ sent. sent.target ≡ endpoint_or_slash e) → IfOk result (λ sent. sent.headers ≡ call_headers rpc omit sent.body)
      → NoInput (λ _. json_text) rest t place endpoint omit q result → Finds (λ x. x) result (sent_on Rpc (json_reading s endpoint) json_calls omit e q)
  rpc_by_json e legal is target headers none =
      rw (kind, rpc_kind) at
      (rpc_found (λ _. json_text) (λ _. json_held) (λ _. json_text) (λ _. json_held) rest rpc t place s endpoint omit q at sound e omit legal result is target headers none)

  pub rest_by_json : (e : List ℕ) → IsRest (λ _. json_text) (λ _. json_text) rest rpc t place endpoint omit q result
      → NoCall (λ _. json_text) (λ _. json_text) rest rpc t place endpoint omit q result → Finds (λ x. x) result (sent_on Rest (json_reading s endpoint) json_calls omit e q)
  rest_by_json e is none =
      rw (kind, rpc_kind) at
      (rest_found (λ _. json_text) (λ _. json_held) (λ _. json_text) (λ _. json_held) rest rpc t place s endpoint omit q at sound lawful result is none)

-- the job whose request is sent on is the one that was read
pub gateway_answered : (o : Option jobs.Gateway) (stored : Gateway) (result : Result Answer JobError) → Has o (IsGateway stored) → TellsSent stored result → Gives (outcome_of gatewayed_job o) result
gateway_answered (Some is) stored result has told =
    let from : Recovering = record { request = stored.recovering.request; schema = is.recovering.schema; endpoint = stored.recovering.endpoint.now; omit = stored.recovering.omit } in
    let job : jobs.Gateway = record { recovering = from; to = stored.to; rpc_endpoint = stored.rpc_endpoint.now } in
    let same : job ≡ is = rw (has.recovering.request, has.recovering.endpoint, has.recovering.omit, has.to, has.rpc_endpoint) refl in
    subst (λ (j : jobs.Gateway). Gives (gatewayed_job j) result) same (told is.recovering.schema has.recovering.schema)
gateway_answered None stored result has told = absurd has
