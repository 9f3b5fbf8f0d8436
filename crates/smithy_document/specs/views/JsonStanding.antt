-- What a serializer of JSON was told: the text that it has is that of what this comes to.
use Rattle.std.specs.Prelude.{◌≡◌, ℕ, ◌+◌, length, Bool, true, false, IsTrue, List, [], ◌∷◌, ◌++◌, map, Option, Some, None, Result, Ok, Err}
use Rattle.std.proofs.Common.{◌∙◌}
use Rattle.std.specs.Option.{is_some}
use Rattle.std.specs.Result.{result_err}
use Rattle.serde_json.specs.Written.{comma_if}
use Rattle.smithy_types.specs.Documents as doc
use Rattle.smithy_types.specs.Documents.{Document, Members, members_of, list_of_members}
use Rattle.smithy_serde.specs.declared.error.SerdeError.{SerdeError}
use Rattle.smithy_serde.specs.declared.scalar.Group.{Group}
use Rattle.smithy_serde.specs.declared.scalar.Group.TheVariants as group
use Rattle.smithy_serde.specs.Values.{Label, Scalar}
use Rattle.smithy_serde.specs.DocumentOf.{key_text, scalar_document, no_member_name, document_fault_text}
use Rattle.smithy_serde.specs.Told.{State}
use Rattle.smithy_document.specs.declared.json_writing.Kind.{Kind}
use Rattle.smithy_document.specs.declared.json_writing.Kind.TheVariants as kind
use Rattle.smithy_document.specs.declared.json_writing.Level.{Level}
use Rattle.smithy_document.specs.declared.json_writing.Around.{Around}
use Rattle.smithy_document.specs.declared.json_writing.JsonWriting.{JsonWriting}
use Rattle.smithy_document.specs.declared.json_writing.Lead.{Lead}
use Rattle.smithy_document.specs.declared.json_writing.Lead.TheVariants as lead
use Rattle.smithy_document.specs.declared.json_codec.JsonSerializer.{JsonSerializer}
use Rattle.smithy_document.specs.Building.{texted, second_value_text, is_structure_group, Whole, Building, top, items, fields, entries, put_named, started, finished}
use Rattle.smithy_document.specs.views.Frames.{Held, ended_with}
use Rattle.smithy_document.specs.Refused.{IsRefusedFor}
use Rattle.smithy_document.specs.views.Standing.{Stands}
use Rattle.smithy_document.specs.JsonText.{json_text}
use Rattle.smithy_document.specs.views.JsonShown.{some_items, items_shown, Pair, some_pairs, name_shown, fields_shown, field_starts, NamesAscend}
use Rattle.smithy_document.specs.views.JsonFields.{field_at, names_of, starts_of, IsLastBelow}

-- a part of what is written: its text, and of the fields in it that are open the names and where they begin
pub record Part : Type 0 where
  pub text : List ℕ
  pub names : List (List ℕ)
  pub starts : List ℕ

abbrev pub first_name : Pair → List ℕ
first_name p = p.0

-- the text of the value at the top
abbrev pub top_text : Option Whole → List ℕ
top_text None = []
top_text (Some w) = json_text w.document

-- An object with these fields, in the order in which they were told.
pub record HasFields (l : Level) (ps : List Pair) (p : Part) : Type 0 where
  pub later : l.later ≡ some_pairs ps
  pub text : p.text ≡ 123 ∷ fields_shown false ps
  pub names : p.names ≡ map first_name ps
  pub starts : p.starts ≡ field_starts (l.start + 1) false ps
  pub ascends : IsTrue l.ascends → NamesAscend p.names

-- The same, with a name behind them whose value is to come.
pub record HasNamed (l : Level) (ps : List Pair) (name : List ℕ) (p : Part) : Type 0 where
  pub later : l.later ≡ some_pairs ps
  pub text : p.text ≡ 123 ∷ (fields_shown false ps ++ (comma_if (some_pairs ps) ++ name_shown name))
  pub names : p.names ≡ map first_name ps ++ name ∷ []
  pub starts : p.starts ≡ field_starts (l.start + 1) false ps ++ (l.start + 1 + length (fields_shown false ps ++ comma_if (some_pairs ps))) ∷ []
  pub ascends : IsTrue l.ascends → NamesAscend p.names

-- what the innermost group has come to stands in the text
abbrev pub IsPartOf : Level → Building → Part → Type 0
IsPartOf l (top w) p = (l.kind ≡ kind.Top) × (l.later ≡ is_some w) × (p ≡ record { text = top_text w; names = []; starts = [] })
IsPartOf l (items ds) p = (l.kind ≡ kind.Items) × (l.later ≡ some_items ds) × (p ≡ record { text = 91 ∷ items_shown false ds; names = []; starts = [] })
IsPartOf l (fields ms) p = (l.kind ≡ kind.Fields) × ((ps : List Pair) × (members_of ps ≡ ms) × HasFields l ps p)
IsPartOf l (entries ms None) p = (l.kind ≡ kind.Entries) × (l.keyed ≡ false) × ((ps : List Pair) × (members_of ps ≡ ms) × HasFields l ps p)
IsPartOf l (entries ms (Some key)) p = (l.kind ≡ kind.Entries) × (l.keyed ≡ true) × ((ps : List Pair) × (members_of ps ≡ ms) × HasNamed l ps key p)

-- a group's text up to where a value in it begins, under a node of this member name
abbrev pub Leads : Level → Option (List ℕ) → Building → Part → Type 0
Leads l name (top None) p = (l.kind ≡ kind.Top) × (p ≡ record { text = []; names = []; starts = [] })
Leads l name (top (Some w)) p = ⊥
Leads l name (items ds) p = (l.kind ≡ kind.Items) × (p ≡ record { text = 91 ∷ (items_shown false ds ++ comma_if (some_items ds)); names = []; starts = [] })
Leads l None (fields ms) p = ⊥
Leads l (Some name) (fields ms) p = (l.kind ≡ kind.Fields) × ((ps : List Pair) × (members_of ps ≡ ms) × HasNamed l ps name p)
Leads l name (entries ms None) p = ⊥
Leads l name (entries ms (Some key)) p = (l.kind ≡ kind.Entries) × ((ps : List Pair) × (members_of ps ≡ ms) × HasNamed l ps key p)

-- a document of such a group
abbrev pub empty_of : Group → Document
empty_of group.List = doc.array doc.no_items
empty_of group.Map = doc.object doc.no_members
empty_of group.Structure = doc.object doc.no_members

-- Around a group that is open: the text leads to it, or no document of the group has a place there, and its end is refused.
abbrev pub IsLed : Option SerdeError → Level → Held → Part → Type 0
IsLed None l h p = Leads l h.name h.before p
IsLed (Some e) l h p = IsRefusedFor (result_err (put_named h.name h.full_name (is_structure_group h.group) (empty_of h.group) h.before)) e

-- The whole is the text around and what this group has come to, which begins there.
pub record IsJoined (l : Level) (outer inner whole : Part) : Type 0 where
  pub text : whole.text ≡ outer.text ++ inner.text
  pub names : whole.names ≡ outer.names ++ inner.names
  pub starts : whole.starts ≡ outer.starts ++ inner.starts
  pub first : l.first ≡ length outer.starts
  pub start : l.start ≡ length outer.text

abbrev pub nothing : Part
nothing = record { text = []; names = []; starts = [] }

-- a group that begins there, with so many fields before it
abbrev pub level_of : Kind → ℕ → ℕ → Level
level_of k start first = record { kind = k; later = false; keyed = false; ascends = true; start = start; first = first }

-- the kind of what is inside such a group, and the bracket before it
abbrev pub group_kind : Group → Kind
group_kind group.List = kind.Items
group_kind group.Map = kind.Entries
group_kind group.Structure = kind.Fields

abbrev pub opening : Group → ℕ
opening group.List = 91
opening group.Map = 123
opening group.Structure = 123

-- the groups around one of this kind, the innermost first, stand in this text
abbrev pub AreAround : Kind → List Around → List Held → Part → Type 0
AreAround inside [] [] p = (inside ≡ kind.Top) × (p ≡ nothing)
AreAround inside [] (h ∷ hs) p = ⊥
AreAround inside (f ∷ fs) [] p = ⊥
AreAround inside (f ∷ fs) (h ∷ hs) p =
    (inside ≡ group_kind h.group)
    × ((outer : Part) × (inner : Part) × IsJoined f.level outer inner p × IsLed f.refused f.level h inner × AreAround f.level.kind fs hs outer)

-- the last first
abbrev pub last_first : List Around → List Around → List Around
last_first [] done = done
last_first (f ∷ fs) done = last_first fs (f ∷ done)

abbrev pub part_of : JsonWriting → Part
part_of w = record { text = w.text.items; names = names_of w.fields.list.items; starts = starts_of w.fields.list.items }

-- the text is that of what these groups have come to
pub record Shows (w : JsonWriting) (b : Building) (hs : List Held) : Type 0 where
  pub outer : Part
  pub inner : Part
  pub joined : IsJoined w.level outer inner (part_of w)
  pub current : IsPartOf w.level b inner
  pub around : AreAround w.level.kind (last_first w.around.items []) hs outer

-- What was told has come to something that stands in the text; where a refusal is kept, only as many groups are open.
pub record WritesAs (w : JsonWriting) (refusal : Option SerdeError) (s : State) : Type 0 where
  pub building : Building
  pub held : List Held
  pub as_many : length held ≡ length w.around.items
  pub stands : Stands building held refusal s
  pub shows : refusal ≡ None → Shows w building held

unfoldable pub JsonStandsFor : JsonSerializer → State → Type 0
JsonStandsFor r s = WritesAs r.writing r.refusal s

pub as_many_around : (r : JsonSerializer) (s : State) → JsonStandsFor r s → length s.around ≡ length r.writing.around.items
unfolding JsonStandsFor
as_many_around r s h = h.stands.as_many ∙ h.as_many

-- ---- steps of the code

-- the part that leads to a value, joined to what is around
pub record LeadsTo (w : JsonWriting) (outer : Part) (name : Option (List ℕ)) (b : Building) : Type 0 where
  pub inner : Part
  pub joined : IsJoined w.level outer inner (part_of w)
  pub leads : Leads w.level name b inner

-- a key is due
abbrev pub wants_key : Building → Bool
wants_key (top w) = false
wants_key (items ds) = false
wants_key (fields ms) = false
wants_key (entries ms None) = true
wants_key (entries ms (Some key)) = false

-- no document has a place where no key is due, and this is its refusal
abbrev pub HasNoPlace : Label → JsonWriting → List ℕ → Type 0
HasNoPlace l w text = (inner : Part) (b : Building) → IsPartOf w.level b inner → wants_key b ≡ false → (struct : Bool) (d : Document) → result_err (put_named l.member_name l.full_name struct d b) ≡ Some text

-- where no key is due: the text leads to a value, or no value has a place there, and nothing was written
abbrev pub LeadsOrNot : Label → JsonWriting → JsonWriting → Lead → Type 0
LeadsOrNot l old new lead.Value = (outer inner : Part) (b : Building) → IsJoined old.level outer inner (part_of old) → IsPartOf old.level b inner → wants_key b ≡ false → LeadsTo new outer l.member_name b
LeadsOrNot l old new lead.Second = (new ≡ old) × HasNoPlace l old second_value_text
LeadsOrNot l old new lead.Unnamed = (new ≡ old) × HasNoPlace l old (document_fault_text (no_member_name l.full_name))

-- before a group, whatever is due: the same, with the refusal of the group's document
abbrev pub LeadsGroup : Label → Group → JsonWriting → JsonWriting → Option SerdeError → Type 0
LeadsGroup l g old new None = (outer inner : Part) (b : Building) → IsJoined old.level outer inner (part_of old) → IsPartOf old.level b inner → LeadsTo new outer l.member_name b
LeadsGroup l g old new (Some e) =
    (new ≡ old)
    × ((inner : Part) (b : Building) → IsPartOf old.level b inner → IsRefusedFor (result_err (put_named l.member_name l.full_name (is_structure_group g) (empty_of g) b)) e)

-- a name is written behind a comma where one is due, and noted with the place where it begins
pub record IsNamed (name : List ℕ) (old new : JsonWriting) : Type 0 where
  pub text : new.text.items ≡ (old.text.items ++ comma_if old.level.later) ++ name_shown name
  pub noted : new.fields.list.items ≡ old.fields.list.items ++ field_at name (length (old.text.items ++ comma_if old.level.later)) ∷ []
  pub level : new.level ≡ record old.level { ascends = new.level.ascends }
  pub ascended : IsTrue new.level.ascends → IsTrue old.level.ascends
  pub behind : IsTrue new.level.ascends → IsTrue old.level.later → IsLastBelow name old.fields.list.items

-- a value stands in the group
abbrev pub settled : Level → Level
settled l = record l { later = true; keyed = false }

-- where no key is due, a document that is of no structure is written, or none has a place there, and nothing was written
abbrev pub PutsOrNot : Label → Document → JsonWriting → JsonWriting → Lead → Type 0
PutsOrNot l d old new lead.Value = (b : Building) (hs : List Held) → wants_key b ≡ false → Shows old b hs → (c : Building) × (put_named l.member_name l.full_name false d b ≡ Ok c) × Shows new c hs
PutsOrNot l d old new lead.Second = (new ≡ old) × HasNoPlace l old second_value_text
PutsOrNot l d old new lead.Unnamed = (new ≡ old) × HasNoPlace l old (document_fault_text (no_member_name l.full_name))

-- so is the document of a scalar
abbrev pub PutsScalar : Label → Scalar → JsonWriting → JsonWriting → Lead → Type 0
PutsScalar l s = PutsOrNot l (scalar_document s)

-- what is answered where a value has a place, or none
abbrev pub IsAnswered : {U : Type 0} → Label → Lead → Result U SerdeError → Type 0
IsAnswered l lead.Value (Ok x) = Unit {0}
IsAnswered l lead.Value (Err e) = ⊥
IsAnswered l lead.Second (Ok x) = ⊥
IsAnswered l lead.Second (Err e) = IsRefusedFor (Some second_value_text) e
IsAnswered l lead.Unnamed (Ok x) = ⊥
IsAnswered l lead.Unnamed (Err e) = IsRefusedFor (Some (document_fault_text (no_member_name l.full_name))) e

-- a key is written
abbrev pub IsKeyed : List ℕ → JsonWriting → JsonWriting → Type 0
IsKeyed key old new = (b : Building) (hs : List Held) → wants_key b ≡ true → Shows old b hs → (ms : Members) × (b ≡ entries ms None) × Shows new (entries ms (Some key)) hs

abbrev pub KeyOutcome : {U : Type 0} → Document → JsonWriting → JsonWriting → Result U SerdeError → Type 0
KeyOutcome d old new (Ok x) = (key : List ℕ) × (d ≡ doc.string key) × IsKeyed key old new
KeyOutcome d old new (Err e) = IsRefusedFor (result_err (texted (key_text d))) e

-- a document is written, whatever is due
abbrev pub IsWritten : {U : Type 0} → Label → Document → JsonWriting → JsonWriting → Result U SerdeError → Type 0
IsWritten l d old new (Ok x) = (b : Building) (hs : List Held) → Shows old b hs → (c : Building) × (put_named l.member_name l.full_name false d b ≡ Ok c) × Shows new c hs
IsWritten l d old new (Err e) = (b : Building) (hs : List Held) → Shows old b hs → IsRefusedFor (result_err (put_named l.member_name l.full_name false d b)) e

-- a scalar is
abbrev pub WritesScalar : {U : Type 0} → Label → Scalar → JsonWriting → JsonWriting → Result U SerdeError → Type 0
WritesScalar l x old new result = IsWritten l (scalar_document x) old new result

-- a group begins
pub record Begins (l : Label) (g : Group) (old new : JsonWriting) : Type 0 where
  pub count : length new.around.items ≡ length old.around.items + 1
  pub shows : (b : Building) (hs : List Held) → Shows old b hs → Shows new (started g) (record { name = l.member_name; full_name = l.full_name; group = g; before = b } ∷ hs)

-- behind what is around stands the text of this document
pub record HasText (w : JsonWriting) (outer : Part) (d : Document) : Type 0 where
  pub text : w.text.items ≡ outer.text ++ json_text d
  pub names : names_of w.fields.list.items ≡ outer.names
  pub starts : starts_of w.fields.list.items ≡ outer.starts

-- the fields that were told stand in order
abbrev pub IsOrdered : JsonWriting → JsonWriting → Type 0
IsOrdered old new = (ps : List Pair) (outer inner : Part) → IsJoined old.level outer inner (part_of old) → HasFields old.level ps inner
    → new.text.items ≡ outer.text ++ 123 ∷ fields_shown false (list_of_members (members_of ps))

-- an object ends
abbrev pub EndsObject : JsonWriting → JsonWriting → Type 0
EndsObject old new = (ps : List Pair) (outer inner : Part) → IsJoined old.level outer inner (part_of old) → HasFields old.level ps inner → HasText new outer (doc.object (members_of ps))

-- a document of such a group
abbrev pub IsOfGroup : Group → Document → Type 0
IsOfGroup g d = key_text d ≡ key_text (empty_of g)

-- the text of the innermost group ends: its document stands in its place, or it has none
abbrev pub EndsText : {U : Type 0} → JsonWriting → JsonWriting → Result U SerdeError → Type 0
EndsText old new (Ok x) = (g : Group) (outer inner : Part) (b : Building) → old.level.kind ≡ group_kind g → IsJoined old.level outer inner (part_of old) → IsPartOf old.level b inner
    → (d : Document) × (finished b ≡ Ok d) × IsOfGroup g d × HasText new outer d
EndsText old new (Err e) = (inner : Part) (b : Building) → IsPartOf old.level b inner → IsRefusedFor (result_err (finished b)) e

-- the innermost group is left
pub record IsLeft (old new : JsonWriting) : Type 0 where
  pub frame : Around
  pub rest : List Around
  pub before : old.around.items ≡ rest ++ frame ∷ []
  pub led : frame.refused ≡ None
  pub around : new.around.items ≡ rest
  pub level : new.level ≡ settled frame.level
  pub text : new.text ≡ old.text
  pub noted : new.fields ≡ old.fields

-- or its document has no place, and as many are open
pub record IsStayedIn (old new : JsonWriting) (e : SerdeError) : Type 0 where
  pub frame : Around
  pub rest : List Around
  pub before : old.around.items ≡ rest ++ frame ∷ []
  pub refused : frame.refused ≡ Some e
  pub count : length new.around.items ≡ length old.around.items

abbrev pub Leaving : {U : Type 0} → JsonWriting → JsonWriting → Result U SerdeError → Type 0
Leaving old new (Ok x) = IsLeft old new
Leaving old new (Err e) = IsStayedIn old new e

-- the innermost group ends
abbrev pub Ends : {U : Type 0} → JsonWriting → JsonWriting → Result U SerdeError → Type 0
Ends old new (Ok x) = (length new.around.items + 1 ≡ length old.around.items)
    × ((b : Building) (h : Held) (hs : List Held) → Shows old b (h ∷ hs) → (c : Building) × (ended_with b h ≡ Ok c) × Shows new c hs)
Ends old new (Err e) = (length new.around.items ≡ length old.around.items)
    × ((b : Building) (h : Held) (hs : List Held) → Shows old b (h ∷ hs) → IsRefusedFor (result_err (ended_with b h)) e)

-- nothing was told
pub record IsNewWriting (w : JsonWriting) : Type 0 where
  pub text : w.text.items ≡ []
  pub noted : w.fields.list.items ≡ []
  pub level : w.level ≡ level_of kind.Top 0 0
  pub around : w.around.items ≡ []
