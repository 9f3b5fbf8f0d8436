-- Which readers a protocol gives of a response (Smithy, HTTP protocol bindings).
use Rattle.std.specs.Prelude.{ℕ, Bool, true, false, not, List, [], Option, unwrap_or, ◌⊎◌}
use Rattle.smithy_response.specs.Words.{Response, NonUtf8HeaderHandling, Schema, Held, AtHand, Begins, Ghosts}
use Rattle.smithy_ids.specs.declared.shape_type.ShapeType.TheVariants as kind
use Rattle.smithy_schema.specs.PreludeNodes.{prelude_node}
use Rattle.smithy_binding.specs.Protocols.{Parts}
use Rattle.smithy_response.specs.declared.response_reader.ResponseReader.{ResponseReader}
use Rattle.smithy_response.specs.ResponseReaders.{is_body_only, IsReader}

-- the bytes of the body, none where it is not buffered
abbrev pub bytes_of : Response → List ℕ
bytes_of response = unwrap_or response.body []

-- the prelude's document node, by which a shape is read that is not known
abbrev pub any_shape : Schema
any_shape = record { table = []; node = prelude_node kind.Document }

-- a reader that begins over the body's bytes, of which a codec tells what is at hand
abbrev pub BeginsOver : {D : Type 0} → (D → AtHand) → (List ℕ → Option Held) → Response → D → Type 0
BeginsOver at holds response reader = Begins (holds (bytes_of response)) (at reader)

-- a reader of a response over such a one
pub record IsReaderOver {D : Type 0} {is_read : Ghosts D} (at : D → AtHand) (holds : List ℕ → Option Held) (response : Response) (is_error : Bool) (policy : NonUtf8HeaderHandling) (is_whole : Bool) (reader : ResponseReader D is_read) : Type 0 where
  pub body : D
  pub begins : BeginsOver at holds response body
  pub reads : IsReader at response is_error policy is_whole body reader

-- that of an output, by the codec of a protocol
abbrev pub IsOfOutput : {C D : Type 0} {is_read : Ghosts D} → (D → AtHand) → (C → List ℕ → Option Held) → Parts C → Response → Schema → NonUtf8HeaderHandling → ResponseReader D is_read → Type 0
IsOfOutput at holds p response schema policy reader =
    IsReaderOver at (holds p.codec) response false policy (not (is_body_only schema)) reader

-- that of a modelled error
abbrev pub IsOfError : {C D : Type 0} {is_read : Ghosts D} → (D → AtHand) → (C → List ℕ → Option Held) → Parts C → Response → NonUtf8HeaderHandling → ResponseReader D is_read → Type 0
IsOfError at holds p response policy reader = IsReaderOver at (holds p.codec) response true policy true reader

-- a reader by the prelude's document node is one of a modelled error
abbrev pub ReadsByDefault : {P R : Type 0} → (P → Response → Schema → NonUtf8HeaderHandling → R → Type 0) → (P → Response → NonUtf8HeaderHandling → R → Type 0) → Type 0
ReadsByDefault {P} {R} reads reads_error =
    (p : P) (response : Response) (policy : NonUtf8HeaderHandling) (r : R) → reads p response any_shape policy r → reads_error p response policy r

-- that of a modelled error, or of an output by the prelude's document node
abbrev pub IsOfErrorOrDefault : {C D : Type 0} {is_read : Ghosts D} → (D → AtHand) → (C → List ℕ → Option Held) → Parts C → Response → NonUtf8HeaderHandling → ResponseReader D is_read → Type 0
IsOfErrorOrDefault at holds p response policy reader =
    IsOfError at holds p response policy reader ⊎ IsOfOutput at holds p response any_shape policy reader
