-- What a document serializer refuses, and what it does not.
use Rattle.std.specs.Prelude.{◌≡◌, Option, Some, None, option_map}
use Rattle.smithy_document.specs.Words.{Group, SerdeError, Custom, Label, Scalar, Value, Writes, scalar, document_fault, document_fault_text, State, empty_state, written, all_written, begun, grouped, Step, adds, opens, closes, Seen}
use Rattle.smithy_document.specs.declared.serializer.DocumentShapeSerializer.{DocumentShapeSerializer}
use Rattle.smithy_document.specs.Building.{second_value_text, state_refusal}
use Rattle.smithy_document.specs.views.Standing.{StandsFor, kept_refusal, IsNextRefusal, step_refusal}

-- one value at the top is refused for the first rule of documents that it breaks, and for nothing else
abbrev pub OneIsRefusedByRule : Type 0
OneIsRefusedByRule = (l : Label) (v : Value) → state_refusal (written l v empty_state) ≡ option_map document_fault_text (document_fault v)

-- a second value at the top is refused, where each of the two has a document
abbrev pub SecondIsRefused : Type 0
SecondIsRefused =
    (l m : Label) (v u : Value) → document_fault v ≡ None → document_fault u ≡ None → state_refusal (written m u (written l v empty_state)) ≡ Some second_value_text

-- a scalar at its write
abbrev pub SecondScalarIsRefused : Type 0
SecondScalarIsRefused =
    (l m : Label) (v : Value) (x : Scalar) → document_fault v ≡ None → document_fault (scalar x) ≡ None →
    step_refusal (written l v empty_state) (adds m x) ≡ Some (Custom second_value_text)

-- no list, map or structure where it begins
abbrev pub SecondGroupBegins : Type 0
SecondGroupBegins = (l m : Label) (v : Value) (g : Group) → document_fault v ≡ None → step_refusal (written l v empty_state) (opens m g) ≡ None

-- but where it ends
abbrev pub SecondGroupIsRefused : Type 0
SecondGroupIsRefused =
    (l m : Label) (v : Value) (g : Group) (ws : Writes) → document_fault v ≡ None → document_fault (grouped g ws) ≡ None →
    step_refusal (all_written ws (begun m g (written l v empty_state))) closes ≡ Some (Custom second_value_text)

-- what is wrong with a call of a serializer is the first rule of documents that is broken with it, a second value at the top being one
abbrev pub IsRefusedByRule : Seen → Type 0
IsRefusedByRule seen = (s : State) (step : Step) (a : Option SerdeError) → seen.wrong s step a → a ≡ step_refusal s step

-- without a refusal nothing was told that is refused
abbrev pub IsUnbroken : DocumentShapeSerializer → Type 0
IsUnbroken r = kept_refusal r ≡ None → (s : State) → StandsFor r s → state_refusal s ≡ None

-- with one, a next call is refused so
abbrev pub IsRefusedNext : DocumentShapeSerializer → Type 0
IsRefusedNext r = (e : SerdeError) → kept_refusal r ≡ Some e → (s : State) → StandsFor r s → IsNextRefusal s e
