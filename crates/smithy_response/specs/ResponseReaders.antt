-- What is seen of the reader of a response, and which reader a response has.
use Rattle.std.specs.Prelude.{◌≡◌, Bool, true, false, not, ◌&&◌, [], None, option_map}
use Rattle.smithy_response.specs.Words.{list_any, Response, NonUtf8HeaderHandling, Schema, members_of, is_response_bound, schema_of, SchemaRef, AtHand, Ghosts}
use Rattle.smithy_serde.specs.declared.scalar.Group.TheVariants as group
use Rattle.smithy_response.specs.declared.response_reader.ResponseReader.{ResponseReader}
use Rattle.smithy_response.specs.declared.response_reader.ResponseReader.TheVariants.{BodyOnly, Composite}
use Rattle.smithy_response.specs.declared.composite.CompositeReader.{CompositeReader}
use Rattle.smithy_response.specs.declared.stage.Stage.TheVariants as stage
use Rattle.smithy_response.specs.views.BodyCalls.{seen}
use Rattle.smithy_response.specs.Handed.{has_unbound, handed}

-- the schema has members, and none is bound to another part of the response than the body
abbrev pub is_body_only : Schema → Bool
is_body_only schema = has_unbound schema && not (list_any is_response_bound (members_of schema))

-- the whole response is read by the schema
abbrev pub reads_whole : SchemaRef → Bool
reads_whole schema = not (is_body_only (schema_of schema))

-- a modelled error's reader, and an output's where that is not the body's alone, reads the whole response
abbrev pub chosen_whole : Schema → (is_error : Bool) → Bool
chosen_whole schema true = true
chosen_whole schema false = not (is_body_only schema)

abbrev pub reader_at_hand : {D : Type 0} {is_read : Ghosts D} → (D → AtHand) → ResponseReader D is_read → AtHand
reader_at_hand at (BodyOnly body) = at body
reader_at_hand at (Composite c) = seen at c

-- A reader of the whole response: it tells no value at hand, nothing is open, and a structure has the members that are handed out.
pub record ReadsWhole (response : Response) (is_error : Bool) (policy : NonUtf8HeaderHandling) (body seen : AtHand) : Type 0 where
  pub untold : seen.held ≡ None
  pub none_open : seen.opened ≡ []
  pub members : (schema : Schema) → seen.listing group.Structure schema ≡ option_map (λ h. handed schema response h is_error policy) body.held

-- That reader begins over this one of the body, and no structure is open.
pub record BeginsWhole {D : Type 0} {is_read : Ghosts D} (at : D → AtHand) (response : Response) (is_error : Bool) (policy : NonUtf8HeaderHandling) (body : D) (c : CompositeReader D is_read) : Type 0 where
  pub whole : ReadsWhole response is_error policy (at body) (seen at c)
  pub body_reader : c.body.reader ≡ body
  pub top : c.stage ≡ stage.Top

-- which reader it is
abbrev pub IsReader : {D : Type 0} {is_read : Ghosts D} → (D → AtHand) → Response → Bool → NonUtf8HeaderHandling → (is_whole : Bool) → D → ResponseReader D is_read → Type 0
IsReader at response is_error policy true body (BodyOnly b) = ⊥
IsReader at response is_error policy true body (Composite c) = BeginsWhole at response is_error policy body c
IsReader at response is_error policy false body (BodyOnly b) = b ≡ body
IsReader at response is_error policy false body (Composite c) = ⊥

-- the one that an output or a modelled error has by its schema
abbrev pub IsReaderOf : {D : Type 0} {is_read : Ghosts D} → (D → AtHand) → SchemaRef → Response → Bool → NonUtf8HeaderHandling → D → ResponseReader D is_read → Type 0
IsReaderOf at node response is_error policy body reader = IsReader at response is_error policy (chosen_whole (schema_of node) is_error) body reader
