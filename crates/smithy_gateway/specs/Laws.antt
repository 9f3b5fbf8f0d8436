-- What the gateway keeps.
use Rattle.std.specs.Prelude.{◌≡◌, ◌↔◌, ℕ, List, Some, IsTrue}
use Rattle.smithy_gateway.specs.Words.{is_legal_target, facts, Request, Schema, is_well_made, Write, checked_input, view, OmitFlags, endpoint_or_slash, Parts, is_shallow, Reading, reading_by, recovered, HasFactsOf}
use Rattle.smithy_gateway.specs.Calls.{Texts, Holds, Calling, calling_by, call_document, IsPosted, IsCall}
use Rattle.smithy_gateway.specs.Gateway.{rpc_of, called, rest_of}

-- What a posted request is read as is the typed input in normal form that it posts, and nothing where there is none.
abbrev pub CalledIsExact : Reading → Calling → Type 0
CalledIsExact r calling =
    (omit : OmitFlags) (q : Request) (ws : List Write) → IsTrue (checked_input r.schema) → IsTrue (is_well_made r.schema) →
    (called r omit calling q ≡ Some ws) ↔ IsCall r.protocol r.schema r.endpoint omit calling.protocol.text_of q ws

-- the request to RPC posts the normal form
pub record HasRpc (r : Reading) (omit : OmitFlags) (calling : Calling) (rpc_endpoint : List ℕ) (rpc_omit : OmitFlags) (v : List Write) (q : Request) : Type 0 where
  pub request : Request
  pub gives : rpc_of r omit calling rpc_endpoint rpc_omit q ≡ Some request
  pub posted : IsPosted calling.protocol.text_of (view r.schema v) request

-- Each request with the facts of a typed input's has a request to RPC, to each legal endpoint, which posts the normal form.
abbrev pub PostsView : Reading → Calling → Type 0
PostsView r calling =
    (omit : OmitFlags) (v : List Write) (q : Request) (rpc_endpoint : List ℕ) (rpc_omit : OmitFlags) → IsTrue (checked_input r.schema) →
    IsTrue (is_well_made r.schema) → HasFactsOf r omit q v → IsTrue (is_legal_target (endpoint_or_slash rpc_endpoint)) →
    HasRpc r omit calling rpc_endpoint rpc_omit v q

-- the request to REST has the facts of the typed input's, and the normal form is recovered of it
pub record HasRest (r : Reading) (omit : OmitFlags) (calling : Calling) (v : List Write) (p q : Request) : Type 0 where
  pub request : Request
  pub gives : rest_of r omit calling p ≡ Some request
  pub same : facts request ≡ facts q
  pub recovered : recovered r omit request ≡ Some (view r.schema v)

-- Each request that posts the normal form, its document nested at most 100 deep, has a request to REST with the facts of
-- the first.
abbrev pub PlacesView : Reading → Calling → Type 0
PlacesView r calling =
    (omit : OmitFlags) (v : List Write) (p q : Request) → IsTrue (checked_input r.schema) → IsTrue (is_well_made r.schema) →
    HasFactsOf r omit q v → IsTrue (is_shallow (call_document (view r.schema v))) → IsPosted calling.protocol.text_of (view r.schema v) p →
    HasRest r omit calling v p q

-- the same by the parts of two protocols, with the texts of their codecs and what the readers have at hand, for every schema
-- and endpoint
abbrev pub ByCodecs : {C D : Type 0} → (Reading → Calling → Type 0) → Texts C → Holds C → Texts D → Holds D → Parts C → Parts D → Type 0
ByCodecs Law text holds call_text call_holds p rpc =
    (schema : Schema) (endpoint : List ℕ) → Law (reading_by text holds p schema endpoint) (calling_by call_text call_holds rpc)
