-- A response that was written is read as the output's normal form (Smithy, HTTP protocol bindings).
use Rattle.std.specs.Prelude.{◌≡◌, ℕ, true, false, List, [], ◌∷◌, Option, Some, None, option_and_then, Ok, IsTrue}
use Rattle.smithy_types.specs.Documents.{Document}
use Rattle.smithy_http.specs.Responses.{Response}
use Rattle.smithy_http.specs.declared.non_utf8.NonUtf8HeaderHandling.{NonUtf8HeaderHandling}
use Rattle.smithy_schema.specs.Nodes.{Schema}
use Rattle.smithy_schema.specs.WellMade.{is_well_made}
use Rattle.smithy_serde.specs.Held as held
use Rattle.smithy_serde.specs.Held.{Held}
use Rattle.smithy_serde.specs.IndexOrder.{in_order}
use Rattle.smithy_serde.specs.Listings.{Listing, Slot, at_member}
use Rattle.smithy_serde.specs.NormalBody.{in_key_order}
use Rattle.smithy_serde.specs.Values as value
use Rattle.smithy_serde.specs.Values.{Value, Write, label_of}
use Rattle.smithy_serde.specs.ValueRead.{value_read}
use Rattle.smithy_binding.specs.Bindings.{entries_of}
use Rattle.smithy_binding.specs.CheckedOutput.{checked_output}
use Rattle.smithy_binding.specs.Placing.{Protocol}
use Rattle.smithy_response.specs.Handed.{handed, has_unbound}
use Rattle.smithy_response.specs.TransportWins.{without_bound}
use Rattle.smithy_serve.specs.Answer.{answer_response}
use Rattle.smithy_served.specs.AnswerView.{answer_view}
use Rattle.smithy_served.specs.TypedOutputs.{IsTypedOutput}

-- two values are the same: equal, or maps that have one value under each key
abbrev pub IsSame : Value → Value → Type 0
IsSame (value.map us) (value.map ws) = in_key_order (entries_of us) ≡ in_key_order (entries_of ws)
IsSame u v = u ≡ v

-- what is handed out for a member is read by its node, without a refusal, as the same value
abbrev pub IsReadAs : Schema → Held → Option Value → Type 0
IsReadAs m h None = ⊥
IsReadAs m h (Some v) = (u : Value) × (value_read m h ≡ Ok u) × IsSame u v

-- the items are the members of these writes, in order, each read as its value
abbrev pub AreReadAs : List (Slot × Held) → List Write → Type 0
AreReadAs [] [] = Unit {0}
AreReadAs ((at_member m, h) ∷ items) (w ∷ ws) = (w.label ≡ label_of m) × IsReadAs m h (Some w.value) × AreReadAs items ws
AreReadAs _ _ = ⊥

-- A listing hands out each of these members once, with the same value, no other member, and no refusal. They stand in index order
-- here, whatever their order there.
pub record HandsOut (listing : Listing) (view : List Write) : Type 0 where
  pub without_refusal : listing.ends ≡ None
  pub writes : List Write
  pub members : AreReadAs listing.items writes
  pub each_once : in_order writes ≡ view

-- The response of a typed output by a checked schema, and what the codec's reader has at hand over its body.
pub record IsAnswered (protocol : Protocol) (holds : List ℕ → Option Held) (schema : Schema) (ws : List Write) (code : ℕ) (response : Response) (body : Held) : Type 0 where
  pub checked : IsTrue (checked_output schema)
  pub well_made : IsTrue (is_well_made schema)
  pub typed : IsTypedOutput protocol schema ws
  pub answered : answer_response protocol schema ws code ≡ Ok response
  pub body_held : option_and_then holds response.body ≡ Some body

-- The response of a typed output hands out the output's normal form.
abbrev pub OutputsAreReadBack : Protocol → (List ℕ → Option Held) → Type 0
OutputsAreReadBack protocol holds =
    (schema : Schema) (ws : List Write) (code : ℕ) (response : Response) (body : Held) (policy : NonUtf8HeaderHandling)
    → IsAnswered protocol holds schema ws code response body
    → HandsOut (handed schema response body false policy) (answer_view schema ws)

-- the response with another body
abbrev pub with_body : List ℕ → Response → Response
with_body bytes response = record response { body = Some bytes }

-- So it does, where some member stands in the body, with any body whose document differs in fields of bound members alone.
abbrev pub AreReadBackBeside : Protocol → (List ℕ → Option Held) → Type 0
AreReadBackBeside protocol holds =
    (schema : Schema) (ws : List Write) (code : ℕ) (response : Response) (policy : NonUtf8HeaderHandling) (own other : Document) (bytes : List ℕ)
    → IsAnswered protocol holds schema ws code response (held.document own) → has_unbound schema ≡ true
    → without_bound schema other ≡ without_bound schema own
    → HandsOut (handed schema (with_body bytes response) (held.document other) false policy) (answer_view schema ws)
