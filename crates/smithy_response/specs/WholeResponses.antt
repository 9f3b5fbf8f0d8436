-- What a whole response is read as.
use Rattle.std.specs.Prelude.{◌≡◌, ℕ, Bool, Option, Some, option_map, Result}
use Rattle.smithy_response.specs.Words.{NonUtf8HeaderHandling, Response, Table, Schema, at_place, schema_of, SchemaRef, SerdeError, Ghosts, Held, Answer, Slot, Listing, AtHand, Gives}
use Rattle.smithy_serde.specs.declared.struct_value.StructValue.{StructValue}
use Rattle.smithy_serde.specs.declared.scalar.Group.TheVariants as group
use Rattle.smithy_serde.specs.Handing.{AllHanded, at_members}
use Rattle.smithy_serde.specs.ValueReading.{structure_of}
use Rattle.smithy_response.specs.declared.response_reader.ResponseReader.{ResponseReader}
use Rattle.smithy_response.specs.Handed.{handed}
use Rattle.smithy_response.specs.ResponseReaders.{chosen_whole, reader_at_hand, IsReader}
use Rattle.smithy_response.specs.ResponseValue.{value_of_response}

-- by the node at the place, the value of the response with this body, where the body is told
abbrev pub GivesResponse : Table → ℕ → Response → Bool → NonUtf8HeaderHandling → Option Held → Result StructValue SerdeError → Type 0
GivesResponse table place response is_error policy body result =
    (n : Schema) → at_place table place ≡ Some n → (h : Held) → body ≡ Some h
    → Gives structure_of (Some (value_of_response n response h is_error policy)) result

-- what the response hands out, where the body is told
abbrev pub handed_with : Schema → Response → Bool → NonUtf8HeaderHandling → Option Held → Option Listing
handed_with schema response is_error policy body = option_map (λ h. handed schema response h is_error policy) body

-- what the response hands out goes to a consumer
abbrev pub Hands : {S : Type 0} → (S → Schema → Held → S → Answer → Type 0) → SchemaRef → Response → Bool → NonUtf8HeaderHandling → AtHand → S → S → Answer → Type 0
Hands takes node response is_error policy body old new answer =
    AllHanded (at_members takes) group.Structure (handed_with (schema_of node) response is_error policy body.held) old new answer

-- What a reader of the response hands a consumer by a schema is what the response hands out, also where it is the body's alone.
abbrev pub HandsResponse : {D S : Type 0} {is_read : Ghosts D} → (D → AtHand) → (S → Slot → Held → S → Answer → Type 0) → ResponseReader D is_read → Type 0
HandsResponse {D} {S} at takes reader =
    (n : Schema) (response : Response) (is_error : Bool) (policy : NonUtf8HeaderHandling) (body : D) (old new : S) (answer : Answer)
    → IsReader at response is_error policy (chosen_whole n is_error) body reader
    → AllHanded takes group.Structure ((reader_at_hand at reader).listing group.Structure n) old new answer
    → AllHanded takes group.Structure (handed_with n response is_error policy (at body).held) old new answer
