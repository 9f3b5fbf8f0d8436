-- What the calls of the gateway answer.
use Rattle.std.specs.Prelude.{◌≡◌, ℕ, true, List, [], length, Some, Result, Err, option_map, IfOk}
use Rattle.smithy_gateway.specs.Words.{Document, facts, Request, Schema, Table, at_place, SchemaIndex, Write, place, Protocol, OmitFlags, with_defaults, Parts, protocol_of, RecoverError, NotPlaced}
use Rattle.smithy_gateway.specs.Calls.{Texts, IsPosted, IsNormal, IsCall}

-- what holds of the schema at a place of a table
abbrev pub AtSchema : Table → SchemaIndex → (Schema → Type 0) → Type 0
AtSchema t place P = (schema : Schema) → at_place t place.0 ≡ Some schema → P schema

-- the typed input in normal form whose placed request has the facts of this one
pub record IsInput (protocol : Protocol) (schema : Schema) (endpoint : List ℕ) (omit : OmitFlags) (q : Request) (ws : List Write) : Type 0 where
  pub input : IsNormal protocol schema endpoint omit ws
  pub seen : option_map facts (place protocol schema ws endpoint omit) ≡ Some (facts q)

-- a request posts that input
pub record PostsInput (protocol : Protocol) (schema : Schema) (endpoint : List ℕ) (omit : OmitFlags) (q : Request) (text_of : Document → List ℕ) (sent : Request) : Type 0 where
  pub ws : List Write
  pub is : IsInput protocol schema endpoint omit q ws
  pub posted : IsPosted text_of ws sent

-- a request is that of the input that another posts
pub record PlacesCall (protocol : Protocol) (schema : Schema) (endpoint : List ℕ) (omit : OmitFlags) (text_of : Document → List ℕ) (q : Request) (sent : Request) : Type 0 where
  pub ws : List Write
  pub is : IsCall protocol schema endpoint omit text_of q ws
  pub placed : place protocol schema ws endpoint omit ≡ Some sent

-- the request to RPC posts the input of this request
abbrev pub IsRpc : {C D : Type 0} → Texts C → Texts D → Parts C → Parts D → Table → SchemaIndex → List ℕ → OmitFlags → Request → Result Request RecoverError → Type 0
IsRpc text call_text p rpc t place endpoint omit q result =
    IfOk result (λ sent. AtSchema t place (λ schema. PostsInput (protocol_of text p) schema endpoint omit q (call_text rpc.codec) sent))

-- the headers of a posted request with this body: the defaults that are not left out
abbrev pub call_headers : {D : Type 0} → Parts D → OmitFlags → List ℕ → List (List ℕ × List ℕ)
call_headers rpc omit body = with_defaults rpc.content_type true (length body) omit []

-- where it is refused, no typed input has the facts of this request
abbrev pub NoInput : {C : Type 0} → Texts C → Parts C → Table → SchemaIndex → List ℕ → OmitFlags → Request → Result Request RecoverError → Type 0
NoInput text p t place endpoint omit q result =
    result ≡ Err NotPlaced → AtSchema t place (λ schema. (ws : List Write) → IsInput (protocol_of text p) schema endpoint omit q ws → ⊥)

-- the request to REST is that of the input that this request posts
abbrev pub IsRest : {C D : Type 0} → Texts C → Texts D → Parts C → Parts D → Table → SchemaIndex → List ℕ → OmitFlags → Request → Result Request RecoverError → Type 0
IsRest text call_text p rpc t place endpoint omit q result =
    IfOk result (λ sent. AtSchema t place (λ schema. PlacesCall (protocol_of text p) schema endpoint omit (call_text rpc.codec) q sent))

-- where it is refused, this request posts no typed input in normal form
abbrev pub NoCall : {C D : Type 0} → Texts C → Texts D → Parts C → Parts D → Table → SchemaIndex → List ℕ → OmitFlags → Request → Result Request RecoverError → Type 0
NoCall text call_text p rpc t place endpoint omit q result =
    result ≡ Err NotPlaced → AtSchema t place (λ schema. (ws : List Write) → IsCall (protocol_of text p) schema endpoint omit (call_text rpc.codec) q ws → ⊥)
