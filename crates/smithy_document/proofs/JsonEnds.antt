-- The ends of groups that were written.
use Rattle.smithy_document.proofs.Common.{◌≡◌, ℕ, ◌+◌, Bool, true, false, List, [], ◌∷◌, ◌++◌, length, take, Option, Some, None, Result, Ok, Err, IsTrue, refl, sym, ap, ap₂, ◌∙◌, subst, result_err, then_try, then_give, texted, Document, SerdeError, Group, Building, top, items, finished, put_named, is_structure_group, ended_with, IsRefusedFor, key_text, list_of_members, append-nil, length-append}
use Rattle.smithy_document.specs.Words.{unmatched_key}
use Rattle.std.proofs.Common.{append_assoc}
use Rattle.smithy_types.specs.Documents as doc
use Rattle.smithy_types.specs.Documents.{members_of}
use Rattle.smithy_serde.specs.declared.scalar.Group.TheVariants as group
use Rattle.smithy_document.specs.Building.{fields, entries}
use Rattle.smithy_document.specs.declared.json_writing.Kind.TheVariants as kind
use Rattle.smithy_document.specs.declared.json_writing.Level.{Level}
use Rattle.smithy_document.specs.declared.json_writing.Around.{Around}
use Rattle.smithy_document.specs.declared.json_writing.JsonWriting.{JsonWriting}
use Rattle.smithy_document.specs.views.Frames.{Held}
use Rattle.smithy_document.specs.JsonText.{json_text}
use Rattle.smithy_document.specs.views.JsonShown.{Pair, fields_shown, items_shown}
use Rattle.smithy_document.specs.views.JsonFields.{names_of, starts_of}
use Rattle.smithy_document.specs.views.JsonStanding.{Part, part_of, HasFields, IsPartOf, empty_of, IsLed, IsJoined, group_kind, AreAround, last_first, Shows, HasText, IsOrdered, EndsObject, IsOfGroup, EndsText, IsLeft, IsStayedIn, Leaving, Ends}
use Rattle.smithy_document.proofs.RefusalLemmas.{refused_before}
use Rattle.smithy_document.proofs.JsonShownLemmas.{array_text, object_text}
use Rattle.smithy_document.proofs.JsonStandingLemmas.{GoesOn, value_settled, led_puts, in_turn}
use Rattle.smithy_document.proofs.JsonSpans.{take_front, names_outside, starts_outside}

-- ---- objects

-- names that ascend are in order as they stand
pub stands_ordered : (w : JsonWriting) → IsTrue w.level.ascends → IsOrdered w w
stands_ordered w up = λ ps outer inner j h. j.text ∙ ap (λ t. outer.text ++ t) (h.text ∙ ap (λ qs. 123 ∷ fields_shown false qs) (sym (in_turn ps (rw (← h.names) (h.ascends up)))))

-- what was put in order takes the place of the object's text
pub puts_ordered : (w new : JsonWriting) (ordered : List ℕ)
    → ((ps : List Pair) (outer inner : Part) → IsJoined w.level outer inner (part_of w) → HasFields w.level ps inner → ordered ≡ 123 ∷ fields_shown false (list_of_members (members_of ps)))
    → new.text.items ≡ take w.level.start w.text.items ++ ordered → IsOrdered w new
puts_ordered w new ordered is text = λ ps outer inner j h.
    text ∙ ap₂ (λ n t. take n t ++ ordered) j.start j.text ∙ ap (λ t. t ++ ordered) (take_front outer.text inner.text) ∙ ap (λ t. outer.text ++ t) (is ps outer inner j h)

pub object_ends : (old mid new : JsonWriting) → IsOrdered old mid → mid.fields ≡ old.fields → mid.level ≡ old.level → new.fields.list.items ≡ take mid.level.first mid.fields.list.items → new.text.items ≡ mid.text.items ++ 125 ∷ []
    → EndsObject old new
object_ends old mid new ordered same level dropped text = λ ps outer inner j h.
    let ms = members_of ps in
    let cut : new.fields.list.items ≡ take old.level.first old.fields.list.items = dropped ∙ ap₂ (λ (l : Level) fs. take l.first fs) level (ap (λ f. f.list.items) same) in
    record {
      text =
          text ∙ ap (λ t. t ++ 125 ∷ []) (ordered ps outer inner j h) ∙ append_assoc outer.text (123 ∷ fields_shown false (list_of_members ms)) (125 ∷ [])
          ∙ ap (λ t. outer.text ++ t) (sym (object_text ms));
      names = ap names_of cut ∙ names_outside old ps outer inner j h;
      starts = ap starts_of cut ∙ starts_outside old ps outer inner j h;
    }

-- ---- groups

abbrev EndsIn : JsonWriting → Part → Building → Group → Type 0
EndsIn new outer b g = (d : Document) × (finished b ≡ Ok d) × IsOfGroup g d × HasText new outer d

no_top : (g : Group) → kind.Top ≡ group_kind g → ⊥
no_top group.List h = cc h
no_top group.Map h = cc h
no_top group.Structure h = cc h

pub top_ends : (old new : JsonWriting) → old.level.kind ≡ kind.Top → (g : Group) → old.level.kind ≡ group_kind g → ⊥
top_ends old new is g h = no_top g (sym is ∙ h)

array_kind : (g : Group) → kind.Items ≡ group_kind g → IsOfGroup g (doc.array doc.no_items)
array_kind group.List h = refl
array_kind group.Map h = absurd (cc h)
array_kind group.Structure h = absurd (cc h)

fields_kind : (g : Group) → kind.Fields ≡ group_kind g → IsOfGroup g (doc.object doc.no_members)
fields_kind group.List h = absurd (cc h)
fields_kind group.Map h = absurd (cc h)
fields_kind group.Structure h = refl

entries_kind : (g : Group) → kind.Entries ≡ group_kind g → IsOfGroup g (doc.object doc.no_members)
entries_kind group.List h = absurd (cc h)
entries_kind group.Map h = refl
entries_kind group.Structure h = absurd (cc h)

pub array_ends : (old new : JsonWriting) → old.level.kind ≡ kind.Items → new.text.items ≡ old.text.items ++ 93 ∷ [] → new.fields ≡ old.fields
    → (g : Group) (outer inner : Part) (b : Building) → old.level.kind ≡ group_kind g → IsJoined old.level outer inner (part_of old) → IsPartOf old.level b inner → EndsIn new outer b g
array_ends old new is text same g outer inner (items ds) of_group j h = (
  doc.array ds,
  refl,
  array_kind g (sym is ∙ of_group),
  record {
    text =
        text ∙ ap (λ t. t ++ 93 ∷ []) (j.text ∙ ap (λ p. outer.text ++ p.text) h.2) ∙ append_assoc outer.text (91 ∷ items_shown false ds) (93 ∷ [])
        ∙ ap (λ t. outer.text ++ t) (sym (array_text ds));
    names = ap (λ f. names_of f.list.items) same ∙ j.names ∙ ap (λ p. outer.names ++ p.names) h.2 ∙ append-nil outer.names;
    starts = ap (λ f. starts_of f.list.items) same ∙ j.starts ∙ ap (λ p. outer.starts ++ p.starts) h.2 ∙ append-nil outer.starts;
  },
)
array_ends old new is text same g outer inner (top w) of_group j h = let no : kind.Items ≡ kind.Top = sym is ∙ h.0 in absurd (cc no)
array_ends old new is text same g outer inner (fields ms) of_group j h = let no : kind.Items ≡ kind.Fields = sym is ∙ h.0 in absurd (cc no)
array_ends old new is text same g outer inner (entries ms None) of_group j h = let no : kind.Items ≡ kind.Entries = sym is ∙ h.0 in absurd (cc no)
array_ends old new is text same g outer inner (entries ms (Some key)) of_group j h = let no : kind.Items ≡ kind.Entries = sym is ∙ h.0 in absurd (cc no)

object_given : (new : JsonWriting) (outer : Part) (ps : List Pair) (ms : doc.Members) → members_of ps ≡ ms → HasText new outer (doc.object (members_of ps)) → HasText new outer (doc.object ms)
object_given new outer ps ms is h = subst (λ m. HasText new outer (doc.object m)) is h

pub structure_ends : (old new : JsonWriting) → old.level.kind ≡ kind.Fields → EndsObject old new
    → (g : Group) (outer inner : Part) (b : Building) → old.level.kind ≡ group_kind g → IsJoined old.level outer inner (part_of old) → IsPartOf old.level b inner → EndsIn new outer b g
structure_ends old new is e g outer inner (fields ms) of_group j h =
    (doc.object ms, refl, fields_kind g (sym is ∙ of_group), object_given new outer h.1.0 ms h.1.1 (e h.1.0 outer inner j h.1.2))
structure_ends old new is e g outer inner (top w) of_group j h = let no : kind.Fields ≡ kind.Top = sym is ∙ h.0 in absurd (cc no)
structure_ends old new is e g outer inner (items ds) of_group j h = let no : kind.Fields ≡ kind.Items = sym is ∙ h.0 in absurd (cc no)
structure_ends old new is e g outer inner (entries ms None) of_group j h = let no : kind.Fields ≡ kind.Entries = sym is ∙ h.0 in absurd (cc no)
structure_ends old new is e g outer inner (entries ms (Some key)) of_group j h = let no : kind.Fields ≡ kind.Entries = sym is ∙ h.0 in absurd (cc no)

pub map_ends : (old new : JsonWriting) → old.level.kind ≡ kind.Entries → old.level.keyed ≡ false → EndsObject old new
    → (g : Group) (outer inner : Part) (b : Building) → old.level.kind ≡ group_kind g → IsJoined old.level outer inner (part_of old) → IsPartOf old.level b inner → EndsIn new outer b g
map_ends old new is keyed e g outer inner (entries ms None) of_group j h =
    (doc.object ms, refl, entries_kind g (sym is ∙ of_group), object_given new outer h.2.0 ms h.2.1 (e h.2.0 outer inner j h.2.2))
map_ends old new is keyed e g outer inner (entries ms (Some key)) of_group j h = let no : false ≡ true = sym keyed ∙ h.1 in absurd (cc no)
map_ends old new is keyed e g outer inner (fields ms) of_group j h = let no : kind.Entries ≡ kind.Fields = sym is ∙ h.0 in absurd (cc no)
map_ends old new is keyed e g outer inner (top w) of_group j h = let no : kind.Entries ≡ kind.Top = sym is ∙ h.0 in absurd (cc no)
map_ends old new is keyed e g outer inner (items ds) of_group j h = let no : kind.Entries ≡ kind.Items = sym is ∙ h.0 in absurd (cc no)

-- a map with a key doesn't
pub keyed_refused : (l : Level) (inner : Part) (b : Building) (e : SerdeError) → l.kind ≡ kind.Entries → l.keyed ≡ true → IsPartOf l b inner
    → IsRefusedFor (result_err (texted {A = Document} (Err unmatched_key))) e → IsRefusedFor (result_err (finished b)) e
keyed_refused l inner (entries ms (Some key)) e is keyed h told = told
keyed_refused l inner (entries ms None) e is keyed h told = let no : true ≡ false = sym keyed ∙ h.1 in absurd (cc no)
keyed_refused l inner (fields ms) e is keyed h told = let no : kind.Entries ≡ kind.Fields = sym is ∙ h.0 in absurd (cc no)
keyed_refused l inner (top w) e is keyed h told = let no : kind.Entries ≡ kind.Top = sym is ∙ h.0 in absurd (cc no)
keyed_refused l inner (items ds) e is keyed h told = let no : kind.Entries ≡ kind.Items = sym is ∙ h.0 in absurd (cc no)

-- ---- the group around

pub last_first-push : (fs : List Around) (f : Around) (done : List Around) → last_first (fs ++ f ∷ []) done ≡ f ∷ last_first fs done
last_first-push [] f done = refl
last_first-push (g ∷ fs) f done = last_first-push fs f (g ∷ done)

-- where no document of a group has a place, this one hasn't
place_same : (name : Option (List ℕ)) (full : List ℕ) (struct : Bool) (d e : Document) (b : Building) → key_text d ≡ key_text e → result_err (put_named name full struct d b) ≡ result_err (put_named name full struct e b)
place_same name full struct d e (top None) same = refl
place_same name full struct d e (top (Some w)) same = refl
place_same name full struct d e (items ds) same = refl
place_same None full struct d e (fields ms) same = refl
place_same (Some n) full struct d e (fields ms) same = refl
place_same name full struct d e (entries ms None) same = ap (λ r. result_err (then_give (texted r) (λ key. entries ms (Some key)))) same
place_same name full struct d e (entries ms (Some key)) same = refl

abbrev InFrame : JsonWriting → Held → List Held → Part → Around → List Around → Type 0
InFrame w h hs whole f fs =
    (w.level.kind ≡ group_kind h.group)
    × ((outer : Part) × (inner : Part) × IsJoined f.level outer inner whole × IsLed f.refused f.level h inner × AreAround f.level.kind fs hs outer)

module _ (old mid : JsonWriting) (b : Building) (h : Held) (hs : List Held) (s : Shows old b (h ∷ hs)) where
  -- the frame of the innermost group
  in_frame : (f : Around) (rest : List Around) → old.around.items ≡ rest ++ f ∷ [] → InFrame old h hs s.outer f (last_first rest [])
  in_frame f rest is = subst (λ fs. AreAround old.level.kind fs (h ∷ hs) s.outer) (ap (λ fs. last_first fs []) is ∙ last_first-push rest f []) s.around

  -- its end is told around
  pub left_shows : {U : Type 0} (x : U) (new : JsonWriting) → EndsText old mid (Ok x) → mid.around ≡ old.around → IsLeft mid new
      → (c : Building) × (ended_with b h ≡ Ok c) × Shows new c hs
  left_shows x new e same l =
      let frame = in_frame l.frame l.rest (ap (λ v. v.items) (sym same) ∙ l.before) in
      let outer = frame.1.0 in
      let inner = frame.1.1 in
      let j = frame.1.2 in
      let led = subst (λ r. IsLed r l.frame.level h inner) l.led frame.1.3 in
      let end = e h.group s.outer s.inner b frame.0 s.joined s.current in
      let d = end.0 in
      let put = led_puts l.frame.level h.name h.full_name (is_structure_group h.group) d h.before inner led in
      let whole : Part = record { text = inner.text ++ json_text d; names = inner.names; starts = inner.starts } in
      let goes : GoesOn inner whole (json_text d) = record { text = refl; names = refl; starts = refl } in
      let current = value_settled l.frame.level h.name h.full_name (is_structure_group h.group) d h.before put.0 inner whole put.1 led goes in (
        put.0,
        ap (λ r. then_try r (λ d. put_named h.name h.full_name (is_structure_group h.group) d h.before)) end.1 ∙ put.1,
        record {
          outer = outer;
          inner = whole;
          joined = record {
            text = ap (λ t. t.items) l.text ∙ end.3.text ∙ ap (λ t. t ++ json_text d) j.text ∙ append_assoc outer.text inner.text (json_text d);
            names = ap (λ f. names_of f.list.items) l.noted ∙ end.3.names ∙ j.names;
            starts = ap (λ f. starts_of f.list.items) l.noted ∙ end.3.starts ∙ j.starts;
            first = ap (λ v. v.first) l.level ∙ j.first;
            start = ap (λ v. v.start) l.level ∙ j.start;
          };
          current = subst (λ v. IsPartOf v put.0 whole) (sym l.level) current;
          around = subst (λ fs. AreAround new.level.kind (last_first fs []) hs outer) (sym l.around) (subst (λ k. AreAround k (last_first l.rest []) hs outer) (sym (ap (λ v. v.kind) l.level)) frame.1.4);
        },
      )

  -- or refused
  pub left_refused : {U : Type 0} (x : U) (new : JsonWriting) (error : SerdeError) → EndsText old mid (Ok x) → mid.around ≡ old.around → IsStayedIn mid new error → IsRefusedFor (result_err (ended_with b h)) error
  left_refused x new error e same l =
      let frame = in_frame l.frame l.rest (ap (λ v. v.items) (sym same) ∙ l.before) in
      let inner = frame.1.1 in
      let told = subst (λ r. IsLed r l.frame.level h inner) l.refused frame.1.3 in
      let end = e h.group s.outer s.inner b frame.0 s.joined s.current in
      let d = end.0 in
      subst (λ r. IsRefusedFor r error)
      (sym
      (ap (λ r. result_err (then_try r (λ d. put_named h.name h.full_name (is_structure_group h.group) d h.before))) end.1
      ∙ place_same h.name h.full_name (is_structure_group h.group) d (empty_of h.group) h.before end.2))
      told

  pub end_refused : (U : Type 0) (error : SerdeError) → EndsText {U = U} old mid (Err error) → IsRefusedFor (result_err (ended_with b h)) error
  end_refused U error e = refused_before (finished b) (λ d. put_named h.name h.full_name (is_structure_group h.group) d h.before) error (e s.inner b s.current)

-- the innermost group ends
pub both_end : {U V : Type 0} (x : U) (old mid new : JsonWriting) (result : Result V SerdeError) → EndsText old mid (Ok x) → mid.around ≡ old.around → Leaving mid new result → Ends old new result
both_end x old mid new (Ok y) e same l =
    let count : length l.rest + 1 ≡ length old.around.items = sym (ap length (ap (λ v. v.items) (sym same) ∙ l.before) ∙ length-append l.rest (l.frame ∷ [])) in
    (ap (λ fs. length fs + 1) l.around ∙ count, λ b h hs s. left_shows old mid b h hs s x new e same l)
both_end x old mid new (Err error) e same l = (l.count ∙ ap (λ v. length v.items) same, λ b h hs s. left_refused old mid b h hs s x new error e same l)

pub end_stops : (U V : Type 0) (old mid : JsonWriting) (error : SerdeError) → EndsText {U = U} old mid (Err error) → mid.around ≡ old.around → Ends {U = V} old mid (Err error)
end_stops U V old mid error e same = (ap (λ v. length v.items) same, λ b h hs s. end_refused old mid b h hs s U error e)
