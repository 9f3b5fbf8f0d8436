-- A group that begins.
use Rattle.smithy_document.proofs.Common.{◌≡◌, ℕ, ◌+◌, Bool, true, false, List, [], ◌∷◌, ◌++◌, length, Option, Some, None, refl, sym, ap, ◌∙◌, subst, result_err, texted, key_text, SerdeError, Group, Label, Building, started, is_structure_group, IsRefusedFor, append-nil, length-append, length-map}
use Rattle.smithy_serde.specs.declared.scalar.Group.TheVariants as group
use Rattle.smithy_document.specs.declared.json_writing.Lead.TheVariants as lead
use Rattle.smithy_document.specs.declared.json_writing.Around.{Around}
use Rattle.smithy_document.specs.declared.json_writing.JsonWriting.{JsonWriting}
use Rattle.smithy_document.specs.views.Frames.{Held}
use Rattle.smithy_document.specs.views.JsonFields.{names_of, starts_of}
use Rattle.smithy_document.specs.views.JsonStanding.{Part, part_of, IsPartOf, IsLed, IsJoined, empty_of, level_of, group_kind, opening, AreAround, last_first, wants_key, HasNoPlace, LeadsOrNot, LeadsGroup, Begins}
use Rattle.smithy_document.proofs.JsonPuts.{key_refused}
use Rattle.smithy_document.proofs.JsonEnds.{last_first-push}

-- ---- what leads to a group

abbrev Tells : Bool → JsonWriting → Type 0
Tells due w = (b : Building) (inner : Part) → IsPartOf w.level b inner → due ≡ wants_key b

pub group_led : (l : Label) (g : Group) (old new : JsonWriting) → Tells false old → LeadsOrNot l old new lead.Value → LeadsGroup l g old new None
group_led l g old new due h = λ outer inner b j part. h outer inner b j part (sym (due b inner part))

pub group_refused : (l : Label) (g : Group) (old new : JsonWriting) (text : List ℕ) (e : SerdeError) → Tells false old → (new ≡ old) × HasNoPlace l old text → IsRefusedFor (Some text) e → LeadsGroup l g old new (Some e)
group_refused l g old new text e due h told =
    (h.0, λ inner b part. subst (λ o. IsRefusedFor o e) (sym (h.1 inner b part (sym (due b inner part)) (is_structure_group g) (empty_of g))) told)

pub group_as_key : (l : Label) (g : Group) (old : JsonWriting) (e : SerdeError) → Tells true old → IsRefusedFor (result_err (texted (key_text (empty_of g)))) e → LeadsGroup l g old old (Some e)
group_as_key l g old e due told = (refl, λ inner b part. key_refused l (is_structure_group g) (empty_of g) e told b (sym (due b inner part)))

-- ---- the group

abbrev begun_part : Group → Part
begun_part g = record { text = opening g ∷ []; names = []; starts = [] }

begun_current : (g : Group) (start first : ℕ) → IsPartOf (level_of (group_kind g) start first) (started g) (begun_part g)
begun_current group.List start first = (refl, refl, refl)
begun_current group.Map start first = (refl, refl, ([], refl, record { later = refl; text = refl; names = refl; starts = refl; ascends = λ up. tt }))
begun_current group.Structure start first = (refl, ([], refl, record { later = refl; text = refl; names = refl; starts = refl; ascends = λ up. tt }))

-- where the text led to, with why the group's end is refused
abbrev IsFramed : Option SerdeError → JsonWriting → Held → Part → Type 0
IsFramed refused mid x outer = (inner : Part) × IsJoined mid.level outer inner (part_of mid) × IsLed refused mid.level x inner

framed : (l : Label) (g : Group) (old mid : JsonWriting) (b : Building) (outer inner : Part) (refused : Option SerdeError) → LeadsGroup l g old mid refused → IsJoined old.level outer inner (part_of old) → IsPartOf old.level b inner
    → IsFramed refused mid (record { name = l.member_name; full_name = l.full_name; group = g; before = b }) outer
framed l g old mid b outer inner None leads j part = let led = leads outer inner b j part in (led.inner, led.joined, led.leads)
framed l g old mid b outer inner (Some e) leads j part = (inner, subst (λ w. IsJoined w.level outer inner (part_of w)) (sym leads.0) j, leads.1 inner b part)

-- `room` is the old one, with room for one more around
pub group_begins : (l : Label) (g : Group) (old room mid new : JsonWriting) (refused : Option SerdeError) → room.text ≡ old.text → room.fields ≡ old.fields → room.level ≡ old.level → mid.around.items ≡ old.around.items
    → LeadsGroup l g room mid refused → mid.level.kind ≡ room.level.kind
    → new.text.items ≡ mid.text.items ++ opening g ∷ [] → new.fields ≡ mid.fields → new.around.items ≡ mid.around.items ++ record { level = mid.level; refused = refused } ∷ []
    → new.level ≡ level_of (group_kind g) (length mid.text.items) (length mid.fields.list.items) → Begins l g old new
group_begins l g old room mid new refused same_text same_fields same_level same_around leads kept text fields around level = record {
  count = ap length around ∙ length-append mid.around.items _ ∙ ap (λ fs. length fs + 1) same_around;
  shows = λ b hs s.
      let frame : Around = record { level = mid.level; refused = refused } in
      let x : Held = record { name = l.member_name; full_name = l.full_name; group = g; before = b } in
      let joined : IsJoined room.level s.outer s.inner (part_of room) = record {
        text = ap (λ t. t.items) same_text ∙ s.joined.text;
        names = ap (λ f. names_of f.list.items) same_fields ∙ s.joined.names;
        starts = ap (λ f. starts_of f.list.items) same_fields ∙ s.joined.starts;
        first = ap (λ v. v.first) same_level ∙ s.joined.first;
        start = ap (λ v. v.start) same_level ∙ s.joined.start;
      } in
      let part = subst (λ v. IsPartOf v b s.inner) (sym same_level) s.current in
      let here = framed l g room mid b s.outer s.inner refused leads joined part in
      let outside : AreAround mid.level.kind (last_first mid.around.items []) hs s.outer =
      subst (λ k. AreAround k (last_first mid.around.items []) hs s.outer) (sym (kept ∙ ap (λ v. v.kind) same_level))
      (subst (λ fs. AreAround old.level.kind (last_first fs []) hs s.outer) (sym same_around) s.around) in
      let inside : new.level.kind ≡ group_kind g = ap (λ v. v.kind) level in
      let frames : last_first new.around.items [] ≡ frame ∷ last_first mid.around.items [] = ap (λ fs. last_first fs []) around ∙ last_first-push mid.around.items frame [] in
      record {
        outer = part_of mid;
        inner = begun_part g;
        joined = record {
          text = text;
          names = ap (λ f. names_of f.list.items) fields ∙ sym (append-nil _);
          starts = ap (λ f. starts_of f.list.items) fields ∙ sym (append-nil _);
          first = ap (λ v. v.first) level ∙ sym (length-map mid.fields.list.items (λ f. f.start));
          start = ap (λ v. v.start) level;
        };
        current = subst (λ v. IsPartOf v (started g) (begun_part g)) (sym level) (begun_current g _ _);
        around = subst (λ fs. AreAround new.level.kind fs (x ∷ hs) (part_of mid)) (sym frames) (inside, (s.outer, here.0, here.1, here.2, outside));
      };
}
