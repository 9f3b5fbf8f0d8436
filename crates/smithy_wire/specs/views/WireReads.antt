-- What a reader of a body answers.
use Rattle.std.specs.Prelude.{◌≡◌, ℕ, Bool, List, codes, ◌++◌, Option, option_map, ok_or, Result, Ok, Err}
use Rattle.std.specs.declared.alloc.Global.{Global}
use Rattle.json.specs.Value.{value_view, items_view, members_view}
use Rattle.json.specs.declared.value.Value.{Value}
use Rattle.smithy_types.specs.DocumentView.{view, items_view as documents_view, members_view as fields_view}
use Rattle.smithy_types.specs.Documents as doc
use Rattle.smithy_types.specs.declared.date_time.Format.{Format}
use Rattle.smithy_types.specs.declared.document.Document as code
use Rattle.smithy_types.specs.declared.document.Documents.{Documents}
use Rattle.smithy_types.specs.declared.document.Members.{Members}
use Rattle.smithy_serde.specs.Held as held
use Rattle.smithy_wire.specs.Words.{Bor, Document, Held, InvalidInput, Number, then_give}
use Rattle.smithy_wire.specs.Forms.{Form}
use Rattle.smithy_wire.specs.Unwire.{item_step, unread, within, number_read, time_read, string_read, unwire, unwire_items, unwire_pairs}
use Rattle.smithy_wire.specs.WireText.{held_of}
use Rattle.smithy_wire.specs.declared.unread.Unread.{Unread}
use Rattle.smithy_wire.specs.declared.unread.ReadError.{ReadError}
use Rattle.smithy_wire.specs.declared.unread.ReadError.TheVariants as error
use Rattle.smithy_wire.specs.declared.unread.Step.{Step}
use Rattle.smithy_wire.specs.declared.wire_style.WireStyle.{WireStyle}
use Rattle.smithy_wire.specs.declared.unread.Step.TheVariants as step

-- what can't be read, or want of memory
abbrev pub TellsUnread : Unread → ReadError → Type 0
TellsUnread u (error.Unread v) = u ≡ v
TellsUnread u error.OutOfMemory = Unit {0}

-- what is defined, by its view, and what can't be read exactly where nothing is; want of memory is free
abbrev pub Reads : {A V : Type 0} → (A → V) → Result V Unread → Result A ReadError → Type 0
Reads view defined (Ok a) = defined ≡ Ok (view a)
Reads view defined (Err (error.Unread u)) = defined ≡ Err u
Reads view defined (Err error.OutOfMemory) = Unit {0}

-- the text of a step
abbrev pub step_view : Step → List ℕ
step_view (step.Item i) = item_step i
step_view (step.Field name) = codes "." ++ name.now
step_view (step.Key name) = codes "[\"" ++ (name.now ++ codes "\"]")

-- a document is read as what is defined of a text
abbrev pub ReadsGiven : Form → List ℕ → Option Number → Result code.Document ReadError → Type 0
ReadsGiven f s n result = Reads view (ok_or (option_map doc.number n) (unread s f)) result

abbrev pub ReadsNumber : Bool → Form → List ℕ → Result code.Document ReadError → Type 0
ReadsNumber floors f s result = Reads view (ok_or (number_read floors f s) (unread s f)) result

abbrev pub ReadsTime : Bool → Format → Form → List ℕ → Result code.Document ReadError → Type 0
ReadsTime floors format f s result = Reads view (ok_or (time_read floors format s) (unread s f)) result

abbrev pub ReadsString : Bool → Form → List ℕ → Result code.Document ReadError → Type 0
ReadsString floors f s result = Reads view (ok_or (string_read floors f s) (unread s f)) result

-- and of a value, of the items of an array and of the members of an object
abbrev pub ReadsValue : WireStyle → Form → Value Global → Result code.Document ReadError → Type 0
ReadsValue style f v result = Reads view (unwire style f (value_view v)) result

abbrev pub ReadsItems : WireStyle → Form → List (Value Global) → Result Documents ReadError → Type 0
ReadsItems style f vs result = Reads documents_view (unwire_items style f 0 (items_view vs)) result

abbrev pub ReadsMembers : WireStyle → Form → List (Bor (List ℕ) × Value Global) → Result Members ReadError → Type 0
ReadsMembers style f ms result = Reads fields_view (then_give (unwire_pairs style f (members_view ms)) doc.members_of) result

-- what was tried behind a step, from one step further out
abbrev pub ReadsWithin : List ℕ → Result code.Document ReadError → Result code.Document ReadError → Type 0
ReadsWithin step tried result = (expected : Result Document Unread) → Reads view expected tried → Reads view (within step expected) result

-- the same from one step further out
abbrev pub IsOutward : List ℕ → Unread → Unread → Type 0
IsOutward step inner u = u ≡ record { text = inner.text; word = inner.word; path = step ++ inner.path }

-- what is at hand of what was read, or of the text of a refusal
abbrev pub outcome_held : Result code.Document (List ℕ) → Held
outcome_held (Ok d) = held.document (view d)
outcome_held (Err text) = held.refused (InvalidInput text)

-- what was tried is told
abbrev pub TellsOutcome : Result code.Document ReadError → Result code.Document (List ℕ) → Type 0
TellsOutcome tried outcome = (expected : Result Document Unread) → Reads view expected tried → held_of expected ≡ outcome_held outcome
