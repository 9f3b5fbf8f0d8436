-- An input that a request posts whole.
use Rattle.std.specs.Prelude.{◌≡◌, ℕ, codes, List, Option, Some, option_map, IsTrue}
use Rattle.smithy_serde.specs.DocumentOf.{doc_of}
use Rattle.smithy_gateway.specs.Words.{Document, Request, Schema, Held, structure, Write, writes_of, view, Protocol, OmitFlags, Parts, protocol_of, IsTyped, is_shallow}

-- the text of a document in each codec of a type
abbrev pub Texts : Type 0 → Type 0
Texts C = C → Document → List ℕ

-- what the reader of each codec of a type has at hand over bytes
abbrev pub Holds : Type 0 → Type 0
Holds C = C → List ℕ → Option Held

-- by what a posted request is read: a protocol, and what its codec's reader has at hand over bytes
pub record Calling : Type 0 where
  pub protocol : Protocol
  pub holds : List ℕ → Option Held

-- by the parts of a protocol, with the texts of its codec and what its reader has at hand
abbrev pub calling_by : {D : Type 0} → Texts D → Holds D → Parts D → Calling
calling_by text holds parts = record { protocol = protocol_of text parts; holds = holds parts.codec }

-- the document of a whole input, if it has one
abbrev pub call_document : List Write → Option Document
call_document ws = doc_of (structure (writes_of ws))

-- The request posts the codec's text of the input's document, to whatever target and with whatever headers.
pub record IsPosted (text_of : Document → List ℕ) (ws : List Write) (q : Request) : Type 0 where
  pub method : q.method ≡ codes "POST"
  pub body : option_map text_of (call_document ws) ≡ Some q.body

-- a typed input in normal form
pub record IsNormal (protocol : Protocol) (schema : Schema) (endpoint : List ℕ) (omit : OmitFlags) (ws : List Write) : Type 0 where
  pub typed : IsTyped protocol schema endpoint omit ws
  pub normal : view schema ws ≡ ws

-- The typed input in normal form that a request posts, with a document that a codec reads back: nested at most 100 deep.
pub record IsCall (protocol : Protocol) (schema : Schema) (endpoint : List ℕ) (omit : OmitFlags) (text_of : Document → List ℕ) (q : Request) (ws : List Write) : Type 0 where
  pub input : IsNormal protocol schema endpoint omit ws
  pub posted : IsPosted text_of ws q
  pub shallow : IsTrue (is_shallow (call_document ws))
