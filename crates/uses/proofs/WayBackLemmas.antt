-- The input of a request, by a protocol with bodies of JSON.
use Rattle.std.proofs.Common.{◌≡◌, ℕ, codes, List, Result, IfOk}
use Rattle.std.proofs.lemmas.Result.{IfOk-weaker}
use Rattle.smithy_http.specs.Requests.{Request}
use Rattle.smithy_schema.specs.Nodes.{Table}
use Rattle.smithy_schema.specs.declared.parts.SchemaIndex.{SchemaIndex}
use Rattle.smithy_serde.specs.declared.struct_value.StructValue.{StructValue}
use Rattle.smithy_document.specs.JsonHeld.{json_held}
use Rattle.smithy_document.specs.JsonText.{json_text}
use Rattle.smithy_document.specs.declared.json_codec.JsonCodec.{JsonCodec}
use Rattle.smithy_binding.specs.Placing.{OmitFlags}
use Rattle.smithy_binding.specs.Protocols.{Parts}
use Rattle.smithy_recovery.specs.Recovering.{IsInputOf, Lacks}
use Rattle.smithy_recovery.specs.declared.error.RecoverError.{RecoverError}
use Rattle.uses.specs.WayBack.{HasRequest, LacksInput}

module _ (p : Parts JsonCodec) (endpoint : List ℕ) (omit : OmitFlags) (q : Request) (result : Result StructValue RecoverError) (kind : p.content_type ≡ codes "application/json") where
  pub input_by_json : IfOk result (IsInputOf (λ _. json_text) (λ _. json_held) p endpoint omit q) → IfOk result (HasRequest endpoint omit q)
  input_by_json has =
      IfOk-weaker result (IsInputOf (λ _. json_text) (λ _. json_held) p endpoint omit q) (HasRequest endpoint omit q)
      (λ v h. record { input = record { typed = rw kind at h.typed; normal = h.normal }; seen = rw kind at h.seen }) has

  pub none_by_json : (table : Table) (place : SchemaIndex) → Lacks (λ _. json_text) (λ _. json_held) p table place endpoint omit q result → LacksInput table place.0 endpoint omit q result
  none_by_json table place lacks = λ refused s ws at checked typed seen.
      lacks refused s ws at (record { typed = rw kind typed; seen = rw kind seen })
