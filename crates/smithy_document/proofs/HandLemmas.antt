-- Readers of documents, as they are seen.
use Rattle.std.specs.Prelude.{option_map}
use Rattle.smithy_document.proofs.Common.{◌≡◌, ℕ, Bool, true, false, List, [], ◌∷◌, ◌++◌, map, Option, Some, None, Result, Ok, Err, inl, inr, refl, sym, ap, IfSome, OnErr, is_none, Document, Schema, scalar_of_document, SerdeError, InvalidInput, Group, ReadScalar, Answer, is_null_document, is_null_held, read_scalar, elements, entries, fields, Gives, Answered, NotOpened, Reads, scalar_of_read, read_at, type_of, IsRefusal, then_some, spot_list, seen, refusing, Opened, frame_of, reading, at_path, Coercions, ReadsBy}
use Rattle.smithy_serde.specs.declared.scalar.Group.TheVariants as group
use Rattle.smithy_serde.specs.declared.read_scalar.ScalarKind.{ScalarKind}
use Rattle.smithy_serde.specs.Held as held
use Rattle.smithy_serde.specs.ReadCalls.{Frame}
use Rattle.smithy_document.specs.declared.cursor.Cursor.{Cursor}
use Rattle.smithy_document.specs.views.Paths.{opened_along}

pub read_gives : (k : ScalarKind) (node : Schema) (d : Document) (r : Result ReadScalar SerdeError)
    → Gives scalar_of_read (Some (scalar_of_document (type_of k) d)) r → Gives scalar_of_read (read_at k node (Some (held.document d))) r
unfolding read_scalar
read_gives k node d r h = h

-- with settings of a caller's own nothing is told
pub read_by : {X S : Type 0} (f : X → S) (by : S → Coercions) (settings : Option X) (k : ScalarKind) (node : Schema) (d : Document) (r : Result ReadScalar SerdeError)
    → ReadsBy by (option_map f settings) k d r → Gives scalar_of_read (read_at k node (then_some (is_none settings) (held.document d))) r
unfolding read_scalar
read_by f by None k node d r h = h
read_by f by (Some s) k node d r h = tt

-- ---- what a refused call leaves

pub left_alike : {A : Type 0} {P Q : Type 0} (r : Result A SerdeError) → (P → Q) → OnErr r P → OnErr r Q
left_alike (Ok a) f p = tt
left_alike (Err e) f p = f p

pub plain_alike : (root : Document) (old new : Cursor) → spot_list new ≡ spot_list old → seen true root new ≡ seen true root old
plain_alike root old new same = ap (λ ps. reading true (at_path root ps) (opened_along root ps)) same

settled_first : Frame → List Frame → Option (SerdeError → Answer)
settled_first f [] = f.settled
settled_first f (g ∷ fs) = g.settled

rest_of : List Frame → List Frame
rest_of [] = []
rest_of (f ∷ fs) = fs

settled_in : (tells : Bool) (os : List Opened) (above below : List Frame) (frame : Frame) → map (frame_of tells) os ≡ above ++ (frame ∷ below) → frame.settled ≡ Some (λ e. Err e)
unfolding settled_first rest_of
settled_in tells [] [] below frame is = absurd (cc is)
settled_in tells [] (f ∷ above) below frame is = absurd (cc is)
settled_in tells (o ∷ os) [] below frame is = sym (ap (settled_first frame) is)
settled_in tells (o ∷ os) (f ∷ above) below frame is = settled_in tells os above below frame (ap rest_of is)

-- a refusal is answered as it is
pub answered : (tells : Bool) (d : Document) (os : List Opened) (refusal : SerdeError) → Answered refusal (reading tells d os) (reading tells d os) refusal
answered tells d os refusal = record {
  opened = refl;
  settled = λ above below frame form is. rw (settled_in tells os above below frame is) (inl refl);
}

pub null_told : (tells : Bool) (d : Document) (b : Bool) → b ≡ is_null_document d → IfSome (then_some tells (held.document d)) (λ h. b ≡ is_null_held h)
null_told true d b h = h
null_told false d b h = tt

-- ---- where each read is refused

pub refused_read : (k : ScalarKind) (node : Schema) (text : List ℕ) (e : SerdeError) → IsRefusal (InvalidInput text) e → Reads {A = ReadScalar} scalar_of_read k node (refusing text) (refusing text) (Err e)
unfolding read_scalar
refused_read k node text e h = record { opened = refl; levels = refl; of_kind = tt; gives = h }

pub refused_open : (g : Group) (node : Schema) (text : List ℕ) (e : SerdeError) → IsRefusal (InvalidInput text) e → NotOpened g node (refusing text) (refusing text) e
unfolding elements entries fields
refused_open g node text e (inr memory) = record { opened = refl; levels = refl; refused = inl memory }
refused_open group.List node text e (inl is) = record { opened = refl; levels = refl; refused = inr record { none_left = refl; ended = ap (λ (x : SerdeError). Some x) (sym is) } }
refused_open group.Map node text e (inl is) = record { opened = refl; levels = refl; refused = inr record { none_left = refl; ended = ap (λ (x : SerdeError). Some x) (sym is) } }
refused_open group.Structure node text e (inl is) = record { opened = refl; levels = refl; refused = inr record { none_left = refl; ended = ap (λ (x : SerdeError). Some x) (sym is) } }

none_before : (frame : Frame) (below above : List Frame) → [] ≡ above ++ (frame ∷ below) → ⊥
none_before frame below [] is = cc is
none_before frame below (f ∷ above) is = cc is

pub refused_answered : (text : List ℕ) (refusal : SerdeError) → Answered refusal (refusing text) (refusing text) refusal
refused_answered text refusal = record { opened = refl; settled = λ above below frame form is. absurd (none_before frame below above is) }
