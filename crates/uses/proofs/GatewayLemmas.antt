-- Requests that are sent on, by protocols with bodies of JSON.
use Rattle.std.proofs.Common.{◌≡◌, ℕ, codes, List, Result}
use Rattle.smithy_http.specs.Requests.{Request}
use Rattle.smithy_schema.specs.Nodes.{Table}
use Rattle.smithy_schema.specs.declared.parts.SchemaIndex.{SchemaIndex}
use Rattle.smithy_document.specs.JsonText.{json_text}
use Rattle.smithy_document.specs.declared.json_codec.JsonCodec.{JsonCodec}
use Rattle.smithy_binding.specs.Placing.{OmitFlags}
use Rattle.smithy_binding.specs.Protocols.{Parts}
use Rattle.smithy_gateway.specs.Answers.{IsRpc, IsRest, NoInput, NoCall}
use Rattle.smithy_recovery.specs.declared.error.RecoverError.{RecoverError}
use Rattle.uses.specs.Gateway.{IsCallOf, IsRequestOf, LacksCall, LacksInput}

module _ (rest rpc : Parts JsonCodec) (table : Table) (place : SchemaIndex) (endpoint : List ℕ) (omit : OmitFlags) (q : Request) (result : Result Request RecoverError) (kind : rest.content_type ≡ codes "application/json") where
  pub call_by_json : IsRpc (λ _. json_text) (λ _. json_text) rest rpc table place endpoint omit q result → IsCallOf table place endpoint omit q result
  call_by_json is = rw kind at is

  pub request_by_json : IsRest (λ _. json_text) (λ _. json_text) rest rpc table place endpoint omit q result → IsRequestOf table place endpoint omit q result
  request_by_json is = rw kind at is

  pub no_input_by_json : NoInput (λ _. json_text) rest table place endpoint omit q result → LacksInput table place endpoint omit q result
  no_input_by_json none = λ refused s at checked ws is. none refused s at ws (rw kind is)

  pub no_call_by_json : NoCall (λ _. json_text) (λ _. json_text) rest rpc table place endpoint omit q result → LacksCall table place endpoint omit q result
  no_call_by_json none = λ refused s at checked ws is. none refused s at ws (rw kind is)
