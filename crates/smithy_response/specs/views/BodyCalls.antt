-- Which calls of a response's reader are its body's reader's, and what the others answer.
use Rattle.std.specs.Prelude.{◌≡◌, ℕ, Bool, true, false, List, [], ◌∷◌, Option, Some, None, Result, Ok, Err}
use Rattle.smithy_response.specs.Words.{Schema, SchemaRef, Ghosts, SerdeError, ScalarKind, ReadScalar, Group, Answer, Frame, AtHand, scalar_of_read, Reads, Skips, OpensAt, NextMember, NextElement, NextEntry, TellsNull}
use Rattle.smithy_serde.specs.declared.scalar.Group.TheVariants as group
use Rattle.smithy_serde.specs.Unchanged.{DoesNothing}
use Rattle.smithy_response.specs.declared.parts.BoundMember.{BoundMember}
use Rattle.smithy_response.specs.views.Transporting.{is_nothing, RefusesNothing}
use Rattle.smithy_response.specs.declared.composite.CompositeReader.{CompositeReader}
use Rattle.smithy_response.specs.declared.response_reader.ResponseReader.{ResponseReader}
use Rattle.smithy_response.specs.declared.response_reader.ResponseReader.TheVariants.{BodyOnly, Composite}
use Rattle.smithy_response.specs.declared.stage.Stage.{Stage}
use Rattle.smithy_response.specs.declared.stage.Stage.TheVariants as stage
use Rattle.smithy_response.specs.views.Frames.{composite_at_hand, at_structure, at_body}

-- what is seen of a reader of bound members and of the body
abbrev pub seen : {D : Type 0} {is_read : Ghosts D} → (D → AtHand) → CompositeReader D is_read → AtHand
seen at c = composite_at_hand c.stage c.transport (at c.body.reader)

-- the calls that each reader answers, by what is seen of it
abbrev pub ReadsSeen : {R : Type 0} → (R → AtHand) → ScalarKind → Schema → R → R → Result ReadScalar SerdeError → Type 0
ReadsSeen at k node old new result = Reads scalar_of_read k node (at old) (at new) result

abbrev pub OpensSeen : {R : Type 0} → (R → AtHand) → Group → Schema → R → R → Answer → Type 0
OpensSeen at g node old new result = OpensAt g node (at old) (at new) result

abbrev pub NextMemberSeen : {R : Type 0} → (R → AtHand) → Schema → R → R → Result (Option SchemaRef) SerdeError → Type 0
NextMemberSeen at node old new result = NextMember node (at old) (at new) result

-- the next member behind a bound one, or behind one that the payload is for, and behind a field of the body
abbrev pub NextBound : {D : Type 0} {is_read : Ghosts D} → (D → AtHand) → (is_given : Bool) → Schema → CompositeReader D is_read → CompositeReader D is_read → Result (Option SchemaRef) SerdeError → Type 0
NextBound at is_given node old new result = NextMember node (at_structure old.transport is_given (at old.body.reader)) (seen at new) result

abbrev pub NextField : {D : Type 0} {is_read : Ghosts D} → (D → AtHand) → Schema → CompositeReader D is_read → CompositeReader D is_read → Result (Option SchemaRef) SerdeError → Type 0
NextField at node old new result = NextMember node (at_body old.transport (at old.body.reader)) (seen at new) result

-- How far a response's reader has come, if it reads more than the body, and what is seen of its body's reader.
pub record Standing : Type 0 where
  pub stage : Option Stage
  pub body : AtHand
  -- the response's structure is open, and no member of it is at hand
  pub nothing : Bool

abbrev pub begins : Stage → BoundMember → Bool
begins (stage.Bound is_given) member = is_nothing member
begins stage.Top member = false
begins stage.Payload member = false
begins stage.Body member = false

abbrev pub stands : {D : Type 0} {is_read : Ghosts D} → (D → AtHand) → CompositeReader D is_read → Standing
stands at c = record { stage = Some c.stage; body = at c.body.reader; nothing = begins c.stage c.transport.member }

abbrev pub reader_stands : {D : Type 0} {is_read : Ghosts D} → (D → AtHand) → ResponseReader D is_read → Standing
reader_stands at (BodyOnly body) = record { stage = None; body = at body; nothing = false }
reader_stands at (Composite c) = stands at c

-- it comes no further
abbrev pub Stays : {R : Type 0} → (R → Standing) → R → R → Type 0
Stays at old new = (at new).stage ≡ (at old).stage

-- a member that is bound to another part than the body is at hand, or an item of it
abbrev pub is_bound : Option Stage → Bool
is_bound (Some (stage.Bound is_given)) = true
is_bound (Some stage.Top) = false
is_bound (Some stage.Payload) = false
is_bound (Some stage.Body) = false
is_bound None = false

-- the response's structure is not open
abbrev pub is_top : Option Stage → Bool
is_top (Some stage.Top) = true
is_top (Some (stage.Bound is_given)) = false
is_top (Some stage.Payload) = false
is_top (Some stage.Body) = false
is_top None = false

-- Unless a bound member is at hand, the body's reader reads a scalar.
abbrev pub ReadsUnless : (bound : Bool) → ScalarKind → Schema → AtHand → AtHand → Result ReadScalar SerdeError → Type 0
ReadsUnless true k node old new result = Unit {0}
ReadsUnless false k node old new result = Reads scalar_of_read k node old new result

abbrev pub ReadsBody : {R : Type 0} → (R → Standing) → ScalarKind → Schema → R → R → Result ReadScalar SerdeError → Type 0
ReadsBody at k node old new result = ReadsUnless (is_bound (at old).stage) k node (at old).body (at new).body result

-- until its first member came to hand, a read is refused
abbrev pub ReadsNothing : Standing → Result ReadScalar SerdeError → Type 0
ReadsNothing old result = RefusesNothing old.nothing result

-- A bound member is not the null. Otherwise the body's reader tells it.
abbrev pub TellsNullUnless : (bound : Bool) → AtHand → Bool → Type 0
TellsNullUnless true body result = result ≡ false
TellsNullUnless false body result = TellsNull body result

abbrev pub TellsBodyNull : Standing → Bool → Type 0
TellsBodyNull now result = TellsNullUnless (is_bound now.stage) now.body result

-- Of a bound member and of its items no size is known. Otherwise the body's reader tells it.
abbrev pub SizedUnless : (bound : Bool) → Option ℕ → Type 0 → Type 0
SizedUnless true size told = size ≡ None
SizedUnless false size told = told

abbrev pub size_by_body : {D : Type 0} {is_read : Ghosts D} → (D → Option ℕ → Type 0) → CompositeReader D is_read → Option ℕ → Type 0
size_by_body tells now size = SizedUnless (is_bound (Some now.stage)) size (tells now.body.reader size)

abbrev pub reader_size_by_body : {D : Type 0} {is_read : Ghosts D} → (D → Option ℕ → Type 0) → ResponseReader D is_read → Option ℕ → Type 0
reader_size_by_body tells (BodyOnly now) size = tells now size
reader_size_by_body tells (Composite now) size = size_by_body tells now size

-- what is open in a reader stays so
abbrev pub SkipsAt : {D : Type 0} → (D → AtHand) → D → D → Answer → Type 0
SkipsAt at old new answer = Skips (at old) (at new) answer

-- A bound member is passed over by doing nothing. Otherwise the body's reader passes over its value, and as that does it.
abbrev pub NothingIf : {R : Type 0} → (bound : Bool) → R → R → Answer → Type 0 → Type 0
NothingIf true old new answer done = DoesNothing old new answer
NothingIf false old new answer done = done

abbrev pub by_body : {D : Type 0} {is_read : Ghosts D} → (D → D → Answer → Type 0) → CompositeReader D is_read → CompositeReader D is_read → Answer → Type 0
by_body does old new answer = NothingIf (is_bound (Some old.stage)) old new answer (does old.body.reader new.body.reader answer)

abbrev pub reader_by_body : {D : Type 0} {is_read : Ghosts D} → (D → D → Answer → Type 0) → ResponseReader D is_read → ResponseReader D is_read → Answer → Type 0
reader_by_body does (BodyOnly old) (BodyOnly new) answer = does old new answer
reader_by_body does (Composite old) (Composite new) answer = by_body does old new answer
reader_by_body does old new answer = ⊥

-- While nothing is open, a structure opens as the response's, no member is at hand, and the body's reader is as it was. Anything else that reader opens.
abbrev pub OpensUnder : List Frame → Group → Schema → AtHand → Standing → Answer → Type 0
OpensUnder [] group.Structure node old new result = (result ≡ Ok tt) × (new.body ≡ old) × (is_top new.stage ≡ false) × (new.nothing ≡ true)
OpensUnder [] group.List node old new result = OpensAt group.List node old new.body result × (is_top new.stage ≡ true)
OpensUnder [] group.Map node old new result = OpensAt group.Map node old new.body result × (is_top new.stage ≡ true)
OpensUnder (o ∷ os) g node old new result = OpensAt g node old new.body result × (is_top new.stage ≡ true)

-- Until the response's structure is open, the body's reader opens everything else, and brings the items to hand.
abbrev pub OpensFirst : {R : Type 0} → (R → Standing) → Group → Schema → R → R → Answer → Type 0
OpensFirst at g node old new result =
    is_top (at old).stage ≡ true → OpensUnder (at old).body.opened g node (at old).body (at new) result

abbrev pub NextMemberFirst : {R : Type 0} → (R → Standing) → Schema → R → R → Result (Option SchemaRef) SerdeError → Type 0
NextMemberFirst at node old new result =
    is_top (at old).stage ≡ true → NextMember node (at old).body (at new).body result × (is_top (at new).stage ≡ true)

abbrev pub NextElementFirst : {R : Type 0} → (R → Standing) → R → R → Result Bool SerdeError → Type 0
NextElementFirst at old new result =
    is_top (at old).stage ≡ true → NextElement (at old).body (at new).body result × (is_top (at new).stage ≡ true)

abbrev pub NextEntryFirst : {R : Type 0} → (R → Standing) → R → R → Result (Option (List ℕ)) SerdeError → Type 0
NextEntryFirst at old new result =
    is_top (at old).stage ≡ true → NextEntry (at old).body (at new).body result × (is_top (at new).stage ≡ true)

-- and a refusal is answered as it is
abbrev pub SettlesFirst : {R : Type 0} → (R → Standing) → SerdeError → R → R → Answer → Type 0
SettlesFirst at refusal old new result = is_top (at old).stage ≡ true → (new ≡ old) × (result ≡ Err refusal)
