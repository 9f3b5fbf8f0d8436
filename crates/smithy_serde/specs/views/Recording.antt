-- What a recorder was told.
use Rattle.std.specs.Prelude.{◌≡◌, ℕ, ◌+◌, Bool, true, false, List, [], ◌∷◌, length, Option, None, Some, Result, Ok, Err}
use Rattle.std.proofs.Common.{sym, ap, ◌∙◌, zero-add, add-zero, add-suc, suc-add}
use Rattle.smithy_schema.specs.Nodes.{Table}
use Rattle.smithy_serde.specs.declared.error.SerdeError.{SerdeError}
use Rattle.smithy_serde.specs.declared.error.SerdeError.TheVariants.{OutOfMemory}
use Rattle.smithy_serde.specs.declared.recorder.Frame.{Frame}
use Rattle.smithy_serde.specs.declared.recorder.Recorder.{Recorder}
use Rattle.smithy_serde.specs.declared.recorder.Recorded.{Recorded}
use Rattle.smithy_serde.specs.declared.value.WriteList.{WriteList}
use Rattle.smithy_serde.specs.Values.{Writes}
use Rattle.smithy_serde.specs.Told.{Open, State}
use Rattle.smithy_serde.specs.views.Steps.{Step, after, moved}
use Rattle.smithy_serde.specs.Writing.{Seen, Carries}
use Rattle.smithy_serde.specs.StoredValues.{label_at, HasNode, writes_in, AreDefined}

abbrev pub open_of : Table → Frame → Open
open_of t f = record { label = label_at t f.node.0; group = f.kind; before = writes_in t f.before }

-- the frames, the last first, around others
abbrev pub opens_of : Table → List Frame → List Open → List Open
opens_of t [] os = os
opens_of t (f ∷ fs) os = opens_of t fs (open_of t f ∷ os)

abbrev pub AreFramesDefined : Table → List Frame → Type 0
AreFramesDefined t [] = Unit {0}
AreFramesDefined t (f ∷ fs) = HasNode t f.node.0 × AreDefined t f.before × AreFramesDefined t fs

-- the state of a recorder with these parts
abbrev pub state_in : Table → WriteList → List Frame → State
state_in t ws fs = record { current = writes_in t ws; around = opens_of t fs [] }

-- a recorder with these parts was told what leads to the state, and each node in it is one of its table
pub record Stands (t : Table) (ws : WriteList) (fs : List Frame) (s : State) : Type 0 where
  pub writes : AreDefined t ws
  pub frames : AreFramesDefined t fs
  pub is : state_in t ws fs ≡ s

abbrev pub StandsFor : Recorder → State → Type 0
StandsFor r s = Stands r.table r.current r.around.items s

-- how many lists are open
abbrev pub open_count : Recorder → ℕ
open_count r = length r.around.items

length-opens_of : (t : Table) (fs : List Frame) (os : List Open) → length (opens_of t fs os) ≡ length fs + length os
length-opens_of t [] os = sym (zero-add (length os))
length-opens_of t (f ∷ fs) os = length-opens_of t fs (open_of t f ∷ os) ∙ add-suc (length fs) (length os) ∙ sym (suc-add (length fs) (length os))

-- as many open writes as frames
pub length-around : (r : Recorder) (s : State) → StandsFor r s → length s.around ≡ open_count r
length-around r s h = ap (λ x. length x.around) (sym h.is) ∙ length-opens_of r.table r.around.items [] ∙ add-zero (length r.around.items)

abbrev pub refusal_if : Bool → Option SerdeError
refusal_if true = Some OutOfMemory
refusal_if false = None

-- the refusal that is kept
abbrev pub kept_refusal : Recorder → Option SerdeError
kept_refusal r = refusal_if r.out_of_memory

-- what is seen of it: nothing is wrong with any call
abbrev pub recorder_seen : Recorder → Seen
recorder_seen r = record { refusal = kept_refusal r; lists = open_count r; states = StandsFor r; as_many = length-around r; wrong = λ s step a. a ≡ None; like = λ s. Unit {0}; alike = λ s h. tt; text = λ d. []; lawful = ⊥; by_rule = λ h. absurd h }

-- a step that was tried, by which memory was not wanted before
pub record Moved (change : State → State) (moves : ℕ → ℕ → Type 0) (old new : Recorder) : Type 0 where
  pub lists : moves (open_count old) (open_count new)
  pub states : Carries change (StandsFor old) (StandsFor new)
  pub memory : new.out_of_memory ≡ old.out_of_memory

-- it was made, or all is as before
abbrev pub Tries : {U E : Type 0} → Step → Recorder → Recorder → Result U E → Type 0
Tries step old new (Ok _) = Moved (after step) (moved step) old new
Tries step old new (Err e) = Moved (λ s. s) (λ a b. b ≡ a) old new

-- the table of the recorded nodes
abbrev pub recorded_table : Recorded → Table
recorded_table r = r.table

-- the writes that were recorded
abbrev pub recorded_writes : Recorded → Writes
recorded_writes r = writes_in r.table r.writes

-- each node in them is one of the table
abbrev pub IsSoundRecord : Recorded → Type 0
IsSoundRecord r = AreDefined r.table r.writes
