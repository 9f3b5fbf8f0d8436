-- What a document serializer was told.
use Rattle.std.specs.Prelude.{◌≡◌, ℕ, ◌+◌, List, [], ◌∷◌, length, Option, Some, None, option_map, Result, Ok, Err, ⊤}
use Rattle.std.proofs.Common.{sym, ◌∙◌, zero-add, add-zero, add-suc, suc-add}
use Rattle.smithy_document.specs.Words.{Document, SerdeError, Custom, Writes, no_writes, write, document_of, Open, State, empty_state, Step, after, moved, Faults, IsByRule, Carries, Seen}
use Rattle.smithy_document.specs.declared.frame.Frame.{Frame}
use Rattle.smithy_document.specs.declared.serializer.DocumentShapeSerializer.{DocumentShapeSerializer}
use Rattle.smithy_document.specs.Building.{discriminator_of, Whole, Building, built, start_in, state_refusal}
use Rattle.smithy_document.specs.views.BuildingView.{building_view}
use Rattle.smithy_document.specs.views.Frames.{Held, held_of}
use Rattle.smithy_document.specs.Refused.{IsRefusedFor}

-- the frames, the last first, around others
abbrev pub all_held : List Frame → List Held → List Held
all_held [] hs = hs
all_held (f ∷ fs) hs = all_held fs (held_of f ∷ hs)

-- each open write is held: its names, its group, and what the writes before it have come to
abbrev pub AreHeld : List Held → List Open → Type 0
AreHeld [] [] = ⊤
AreHeld [] (o ∷ os) = ⊥
AreHeld (h ∷ hs) [] = ⊥
AreHeld (h ∷ hs) (o ∷ os) =
    (h.name ≡ o.label.member_name) × (h.full_name ≡ o.label.full_name) × (h.group ≡ o.group) × (built o.before (start_in os) ≡ Ok h.before) × AreHeld hs os

-- what was told has come to that
pub record Holds (b : Building) (hs : List Held) (s : State) : Type 0 where
  pub current : built s.current (start_in s.around) ≡ Ok b
  pub around : AreHeld hs s.around

-- a refusal in the state: a next call breaks a rule first with this text, or it is for memory
abbrev pub IsNextRefusal : State → SerdeError → Type 0
IsNextRefusal s e = (step : Step) × IsRefusedFor (state_refusal (after step s)) e

-- Without a refusal no rule is broken, and what was told has come to what is held.
pub record Stands (b : Building) (hs : List Held) (refusal : Option SerdeError) (s : State) : Type 0 where
  pub as_many : length s.around ≡ length hs
  pub holds : refusal ≡ None → Holds b hs s
  pub refused : (e : SerdeError) → refusal ≡ Some e → IsNextRefusal s e

-- the serializer was told what leads to the state
abbrev pub StandsFor : DocumentShapeSerializer → State → Type 0
StandsFor r s = Stands (building_view r.current) (all_held r.around.items []) r.refusal s

length-all_held : (fs : List Frame) (hs : List Held) → length (all_held fs hs) ≡ length fs + length hs
length-all_held [] hs = sym (zero-add (length hs))
length-all_held (f ∷ fs) hs = length-all_held fs (held_of f ∷ hs) ∙ add-suc (length fs) (length hs) ∙ sym (suc-add (length fs) (length hs))

pub length-held : (fs : List Frame) → length (all_held fs []) ≡ length fs
length-held fs = length-all_held fs [] ∙ add-zero (length fs)

-- how many lists are open
abbrev pub open_count : DocumentShapeSerializer → ℕ
open_count r = length r.around.items

-- the refusal that is kept
abbrev pub kept_refusal : DocumentShapeSerializer → Option SerdeError
kept_refusal r = r.refusal

-- as many open writes as frames
pub length-around : (r : DocumentShapeSerializer) (s : State) → StandsFor r s → length s.around ≡ open_count r
length-around r s h = h.as_many ∙ length-held r.around.items

-- a call that was made
pub record Made (step : Step) (old new : DocumentShapeSerializer) : Type 0 where
  pub lists : moved step (open_count old) (open_count new)
  pub states : Carries (after step) (StandsFor old) (StandsFor new)

-- one that is refused, for the first rule that is broken with it or for memory, and adds nothing
pub record RefusedFor (step : Step) (old new : DocumentShapeSerializer) (e : SerdeError) : Type 0 where
  pub lists : open_count new ≡ open_count old
  pub told : (s : State) → StandsFor old s → IsRefusedFor (state_refusal (after step s)) e

abbrev pub Tried : {U : Type 0} → Step → DocumentShapeSerializer → DocumentShapeSerializer → Result U SerdeError → Type 0
Tried step old new (Ok _) = Made step old new
Tried step old new (Err e) = RefusedFor step old new e

-- a call where no refusal is kept, and what refuses it is not kept yet
pub record Tries {U : Type 0} (step : Step) (old new : DocumentShapeSerializer) (result : Result U SerdeError) : Type 0 where
  pub unrefused : kept_refusal new ≡ None
  pub tried : Tried step old new result

-- what is wrong with a call in a state: the first broken rule of all that is told with it, a second value at the top being one
abbrev pub step_refusal : State → Step → Option SerdeError
step_refusal s step = option_map (λ text. Custom text) (state_refusal (after step s))

-- that, or nothing
abbrev pub WrongInDocument : Faults
WrongInDocument s step a = a ≡ step_refusal s step

-- what is seen of it
abbrev pub document_seen : DocumentShapeSerializer → Seen
document_seen r = record {
  refusal = kept_refusal r;
  lists = open_count r;
  states = StandsFor r;
  as_many = length-around r;
  wrong = WrongInDocument;
  like = StandsFor r;
  alike = λ s h. h;
  text = λ d. [];
  lawful = IsByRule WrongInDocument;
  by_rule = λ h. h;
}

-- the one value that was told, with its document and its discriminator, or none; never two
abbrev pub IsWholeOf : Writes → Option Whole → Type 0
IsWholeOf no_writes w = w ≡ None
IsWholeOf (write l v no_writes) w = (d : Document) × (document_of v ≡ Ok d) × (w ≡ Some record { document = d; discriminator = discriminator_of l v })
IsWholeOf (write l v (write m u ws)) w = ⊥

-- nothing was told
pub record IsNew (r : DocumentShapeSerializer) : Type 0 where
  pub told : StandsFor r empty_state
  pub lists : open_count r ≡ 0
  pub unrefused : kept_refusal r ≡ None
