-- What the code keeps of a message so far, as the definitions see it.
use Rattle.std.specs.Prelude.{◌≡◌, ℕ, List, [], ◌∷◌, map, string_bytes, None, Result, Ok, Err, OnOk, IfErr}
use Rattle.smithy_binding.specs.Words.{cow_str_bytes, Table, Binding, Answer, SerdeError, ShapeValue, WriteList, value_in, writes_in, Value, list_of, Resolved, all_resolved}
use Rattle.smithy_binding.specs.declared.direction.Direction.{Direction}
use Rattle.smithy_binding.specs.declared.direction.DirectedSchema.{DirectedSchema}
use Rattle.smithy_binding.specs.declared.placement.MessageParts.{MessageParts}
use Rattle.smithy_binding.specs.declared.labels.Label.{Label}
use Rattle.smithy_binding.specs.Bodies.{body_parts}
use Rattle.smithy_binding.specs.Faults.{Fault}
use Rattle.smithy_binding.specs.views.Directed.{directed_of, status_fault_in}
use Rattle.smithy_binding.specs.views.Gather.{Gathered, add_or_fault, gather_one, gather, nothing_yet}
use Rattle.smithy_binding.specs.views.Marks.{marks_of}
use Rattle.smithy_binding.specs.views.KeptWrites.{kept_in, KeepsAll}
use Rattle.smithy_binding.specs.views.Placed.{placed_first, first_fault, write_of}
use Rattle.smithy_binding.specs.Refusing.{TellsFault, IsTold, Reports}
use Rattle.smithy_binding.specs.views.StoredTexts.{write_at}

-- a label by its member's name
abbrev pub label_pair : Label → List ℕ × List ℕ
label_pair l = (l.name.now, cow_str_bytes l.text)

abbrev pub gathered_of : MessageParts → Gathered
gathered_of p = record { seen = marks_of p.seen; headers = p.headers; query = string_bytes p.query; labels = map label_pair p.labels.items }

-- What the first write of a member puts into the parts of a message: it has no fault, is put where its binding says, and
-- leaves the body as it was; or its fault is told.
pub record Places (schema m : DirectedSchema) (v : Value) (old new : MessageParts) (result : Answer) : Type 0 where
  pub ok : OnOk result (first_fault (directed_of m) v ≡ None)
  pub put : OnOk result (gathered_of new ≡ placed_first (directed_of schema) (directed_of m) v (gathered_of old))
  pub body : OnOk result (new.body ≡ old.body)
  pub err : IfErr result (IsTold (first_fault (directed_of m) v))

-- the same of a stored value, whatever its table
abbrev pub PlacesValue : DirectedSchema → DirectedSchema → ShapeValue → MessageParts → MessageParts → Answer → Type 0
PlacesValue schema m v old new result = (t : Table) → Places schema m (value_in t v) old new result

-- the fault of the first write of a member is told
abbrev pub TellsFirst : DirectedSchema → Value → SerdeError → Type 0
TellsFirst m v = IsTold (first_fault (directed_of m) v)

-- what the first write of a member with this binding is tested for
abbrev pub TestsStatus : Direction → Binding → ShapeValue → Answer → Type 0
TestsStatus way b v result = (t : Table) → Reports (status_fault_in way b (value_in t v)) result

-- What writes put into the parts of a message: this outcome, and these writes are kept for the body; or its fault is told.
pub record Gathers (t : Table) (outcome : Result Gathered Fault) (kept : List Resolved) (old new : MessageParts) (result : Answer) : Type 0 where
  pub ok : OnOk result (outcome ≡ Ok (gathered_of new))
  pub err : IfErr result (λ e. TellsFault e (λ f. outcome ≡ Err f))
  pub body : OnOk result (KeepsAll t old.body new.body kept)

-- a write of the member at a position
abbrev pub AddsMember : DirectedSchema → Table → DirectedSchema → ℕ → ShapeValue → MessageParts → MessageParts → Answer → Type 0
AddsMember schema t m position v old new result =
    let r = write_of position (directed_of m) (value_in t v) in
    Gathers t (add_or_fault schema.way (directed_of schema) (gathered_of old) r) (r ∷ []) old new result

-- a write of the node at a place
abbrev pub AddsWrite : DirectedSchema → Table → ℕ → ShapeValue → MessageParts → MessageParts → Answer → Type 0
AddsWrite schema t place v old new result =
    let w = write_at t place v in
    Gathers t (gather_one schema.way (directed_of schema) (gathered_of old) w) (all_resolved (directed_of schema) (w ∷ [])) old new result

-- What all writes put into a message in which nothing was.
pub record GathersAll (schema : DirectedSchema) (t : Table) (ws : WriteList) (parts : MessageParts) (result : Answer) : Type 0 where
  pub ok : OnOk result (gather schema.way (directed_of schema) (nothing_yet (directed_of schema)) (list_of (writes_in t ws)) ≡ Ok (gathered_of parts))
  pub err : IfErr result (λ e. TellsFault e (λ f. gather schema.way (directed_of schema) (nothing_yet (directed_of schema)) (list_of (writes_in t ws)) ≡ Err f))
  pub body : OnOk result (kept_in t parts.body ≡ body_parts (directed_of schema) (list_of (writes_in t ws)))
