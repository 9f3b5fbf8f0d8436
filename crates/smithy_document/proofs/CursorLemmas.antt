-- How a cursor moves, as a reader is seen.
use Rattle.smithy_document.proofs.Common.{◌≡◌, ℕ, ◌+◌, ◌-◌, ◌<◌, Bool, true, false, List, [], ◌∷◌, ◌++◌, map, length, slice_get, Option, Some, None, option_map, Ok, Err, inl, inr, refl, sym, ap, ◌∙◌, subst, arith, flat_map, IfSome, option_map_or, unwrap_or, Document, list_of_items, nesting, Schema, mismatch, SerdeError, OutOfMemory, Group, Held, walked, elements, entries, fields, known, IsIn, NotOpened, IsRefused, IsRefusedAt, Hands, SettlesBy, Advanced, MemberAdvanced, Closed, Halted, NextElement, IsRefusal, then_some, Spot, spot_list, document_in, name_in, opened_in, seen, ClosesAt, StepsTo, Advances, ClosesBehind, StepsToMember, Part, nameless, parts_of, opens_as, kind_of_group, handed_out, told_out, frame_of, reading, Names, name_at, part_in, rest_in, step_in, at_path, opened_at, last_name}
use Rattle.std.proofs.lemmas.List.Sums.{fold_push}
use Rattle.smithy_types.specs.Documents as doc
use Rattle.smithy_serde.specs.declared.scalar.Group.TheVariants as group
use Rattle.smithy_serde.specs.Held as held
use Rattle.smithy_serde.specs.Listings.{Slot, at_member, at_element, at_key, Listing, contents, contents_at, asked, listing_of}
use Rattle.smithy_serde.specs.ReadCalls.{Frame, Opened}
use Rattle.smithy_document.specs.declared.cursor.Cursor.{Cursor}
use Rattle.smithy_document.specs.OpenDocuments as walk
use Rattle.smithy_document.specs.views.Paths.{opened_along}
use Rattle.smithy_document.proofs.PathLemmas.{rest_first, rest_none, part_within, last_item}
use Rattle.smithy_document.proofs.WayLemmas.{opened_last, last_is}

-- ---- opening

all_elements : (ds : doc.Items) → map (λ (p : Part). held.document p.1) (nameless ds) ≡ map (λ d. held.document d) (list_of_items ds)
all_elements doc.no_items = refl
all_elements (doc.item d ds) = ap (λ hs. held.document d ∷ hs) (all_elements ds)

listed : (g : Group) (node : Schema) (d : Document) → opens_as g d ≡ true → handed_out g (parts_of d) (asked g node) ≡ Some (contents g node (held.document d))
unfolding elements entries fields
listed group.List node (doc.array ds) h = ap (λ hs. Some (listing_of {A = Held} (λ x. (at_element, x)) (Ok hs))) (all_elements ds)
listed group.Map node (doc.object ms) h = refl
listed group.Structure node (doc.object ms) h = refl
listed _ node _ h = absurd (cc h)

told_listed : (tells : Bool) (g : Group) (node : Schema) (d : Document) → opens_as g d ≡ true → told_out tells g (parts_of d) (asked g node) ≡ contents_at (then_some tells (held.document d)) g node
told_listed true g node d h = listed g node d h
told_listed false g node d h = refl

same_container : (tells : Bool) (d : Document) → then_some tells (held.document d) ≡ option_map walked (then_some tells (held.document d))
same_container true d = refl
same_container false d = refl

pub opened_here : (tells : Bool) (g : Group) (node : Schema) (d now : Document) (os after : List walk.Opened) → opens_as g d ≡ true → after ≡ record { form = g; container = d; rest = parts_of d } ∷ os
    → Opened g node (reading tells d os) (reading tells now after)
opened_here tells g node d now os after opens is =
    let o : walk.Opened = record { form = g; container = d; rest = parts_of d } in
    record {
      frame = frame_of tells o;
      now_is = ap (map (frame_of tells)) is;
      form = refl;
      container = same_container tells d;
      depth = refl;
      within = omega arith;
      to_come = told_listed tells g node d opens;
    }

pub is_opened : (tells : Bool) (g : Group) (node : Schema) (root : Document) (old new : Cursor) (names : Names) → opens_as g (document_in root old) ≡ true
    → rest_in (document_in root old) names 0 ≡ parts_of (document_in root old) → spot_list new ≡ spot_list old ++ record { form = g; names = names; next = 0 } ∷ []
    → Opened g node (seen tells root old) (seen tells root new)
is_opened tells g node root old new names opens all pushed =
    let p : Spot = record { form = g; names = names; next = 0 } in
    let d = document_in root old in
    let whole : opened_at d p ≡ record { form = g; container = d; rest = parts_of d } = ap (λ rest. record { form = g; container = d; rest = rest }) all in
    opened_here tells g node d (document_in root new) (opened_in root old) (opened_in root new) opens
    (ap (opened_along root) pushed ∙ opened_last step_in opened_at root (spot_list old) p ∙ ap (λ x. x ∷ opened_along root (spot_list old)) whole)

refused_listing : (g : Group) (node : Schema) (d : Document) (e : SerdeError) → opens_as g d ≡ false → e ≡ mismatch (kind_of_group g) d → IsRefusedAt (contents g node (held.document d)) e
unfolding elements entries fields
refused_listing group.List node (doc.array ds) e h is = absurd (cc h)
refused_listing group.List node d e h is = record { none_left = refl; ended = ap (λ (x : SerdeError). Some x) (sym is) }
refused_listing group.Map node (doc.object ms) e h is = absurd (cc h)
refused_listing group.Map node d e h is = record { none_left = refl; ended = ap (λ (x : SerdeError). Some x) (sym is) }
refused_listing group.Structure node (doc.object ms) e h is = absurd (cc h)
refused_listing group.Structure node d e h is = record { none_left = refl; ended = ap (λ (x : SerdeError). Some x) (sym is) }

told_refused : (tells : Bool) (g : Group) (node : Schema) (d : Document) (e : SerdeError) → opens_as g d ≡ false → IsRefusal (mismatch (kind_of_group g) d) e → IsRefused (contents_at (then_some tells (held.document d)) g node) e
told_refused tells g node d e h (inr memory) = inl memory
told_refused true g node d e h (inl is) = inr (refused_listing g node d e h is)
told_refused false g node d e h (inl is) = inr tt

pub refused_here : (tells : Bool) (g : Group) (node : Schema) (d : Document) (os : List walk.Opened) (e : SerdeError) → opens_as g d ≡ false → IsRefusal (mismatch (kind_of_group g) d) e
    → NotOpened g node (reading tells d os) (reading tells d os) e
refused_here tells g node d os e h refusal = record { opened = refl; levels = refl; refused = told_refused tells g node d e h refusal }

pub not_opened : (tells : Bool) (g : Group) (node : Schema) (root : Document) (c : Cursor) (e : SerdeError) → opens_as g (document_in root c) ≡ false
    → IsRefusal (mismatch (kind_of_group g) (document_in root c)) e → NotOpened g node (seen tells root c) (seen tells root c) e
not_opened tells g node root c = refused_here tells g node (document_in root c) (opened_in root c)

pub starved_here : (tells : Bool) (g : Group) (node : Schema) (d now : Document) (os after : List walk.Opened) (e : SerdeError) → now ≡ d → after ≡ os → e ≡ OutOfMemory → NotOpened g node (reading tells d os) (reading tells now after) e
starved_here tells g node d now os after e same kept memory = record { opened = ap (map (frame_of tells)) kept; levels = ap nesting same; refused = inl memory }

pub starved : (tells : Bool) (g : Group) (node : Schema) (root : Document) (old new : Cursor) (e : SerdeError) → spot_list new ≡ spot_list old → e ≡ OutOfMemory → NotOpened g node (seen tells root old) (seen tells root new) e
starved tells g node root old new e same memory = record { opened = ap (λ ps. map (frame_of tells) (opened_along root ps)) same; levels = ap (λ ps. nesting (at_path root ps)) same; refused = inl memory }

-- ---- a part

last_of : (d : Document) (p : Spot) (part : Document) → part_in d p.names p.next ≡ Some part → step_in d (record p { next = p.next + 1 }) ≡ part
last_of d p part h =
    last_is (part_in d p.names) (p.next + 1) d (omega arith) ∙ ap (λ i. unwrap_or (part_in d p.names i) d) (let same : p.next + 1 - 1 ≡ p.next = omega arith in same) ∙ ap (λ o. unwrap_or o d) h

pub steps : (root : Document) (ps : List Spot) (p : Spot) (part : Document) → part_in (at_path root ps) p.names p.next ≡ Some part
    → StepsTo (name_at p.names p.next) (opened_along root (ps ++ p ∷ [])) (at_path root (ps ++ record p { next = p.next + 1 } ∷ [])) (opened_along root (ps ++ record p { next = p.next + 1 } ∷ []))
steps root ps p part h =
    let q : Spot = record p { next = p.next + 1 } in
    let d = at_path root ps in
    let more : List Part = rest_in d p.names (p.next + 1) in
    let comes : at_path root (ps ++ q ∷ []) ≡ part = fold_push step_in root ps q ∙ last_of d p part h in
    record {
      top = opened_at d p;
      below = opened_along root ps;
      more = more;
      was = opened_last step_in opened_at root ps p;
      now_is = opened_last step_in opened_at root ps q;
      part = rest_first d p.names p.next part h ∙ ap (λ x. (name_at p.names p.next, x) ∷ more) (sym comes);
      within = subst (λ x. nesting x < nesting d) (sym comes) (part_within d p.names p.next part h);
    }

pub closes : (root : Document) (ps : List Spot) (p : Spot) → part_in (at_path root ps) p.names p.next ≡ None
    → ClosesAt (opened_along root (ps ++ p ∷ [])) (at_path root ps) (opened_along root ps)
closes root ps p h =
    record { top = opened_at (at_path root ps) p; was = opened_last step_in opened_at root ps p; none_left = rest_none (at_path root ps) p.names p.next h; again = refl }

-- the position behind a part
pub record Stepping (n next : ℕ) (o : Option Document) : Type 0 where
  pub part : Document
  pub there : o ≡ Some part
  pub same : n ≡ next

pub stepped : (n next : ℕ) (o : Option Document) → option_map (λ d. n) o ≡ Some next → Stepping n next o
stepped n next None h = absurd (cc h)
stepped n next (Some d) h = record { part = d; there = refl; same = cc h }

pub not_stepped : (n : ℕ) (o : Option Document) → option_map (λ d. n) o ≡ None → o ≡ None
not_stepped n None h = refl
not_stepped n (Some d) h = absurd (cc h)

pub named_last : (c : Cursor) (ps : List Spot) (q : Spot) (i : ℕ) → spot_list c ≡ ps ++ q ∷ [] → q.next ≡ i + 1 → name_in c ≡ name_at q.names i
named_last c ps q i is next =
    ap (λ xs. option_map_or last_name (slice_get xs (length xs - 1)) []) is ∙ ap (λ o. option_map_or last_name o []) (last_item ps q)
    ∙ ap (name_at q.names) (let e : q.next - 1 ≡ i = omega arith in e)

-- ---- a reader

pub open_spot : (tells : Bool) (g : Group) (root d : Document) (ps : List Spot) → IsIn g (reading tells d (opened_along root ps)) → 0 < length ps
open_spot tells g root d [] h = absurd h
open_spot tells g root d (p ∷ ps) h = omega arith

pub in_told : (tells : Bool) (g : Group) (d : Document) (os : List walk.Opened) → IsIn g (reading tells d os) → IsIn g (reading true d os)
in_told tells g d [] h = h
in_told tells g d (o ∷ os) h = h

form_of : (g : Group) (d : Document) (os below : List walk.Opened) (top : walk.Opened) → os ≡ top ∷ below → IsIn g (reading true d os) → top.form ≡ g
form_of g d os below top is h = subst (λ xs. IsIn g (reading true d xs)) is h

-- an item goes out
out : {A : Type 0} (named : A → Slot × Held) (xs ys : List A) (x : A) → xs ≡ x ∷ ys → Hands (Some (listing_of named (Ok xs))) (named x).0 (Some (named x).1) (Some (listing_of named (Ok ys)))
out named xs ys x is = rw is ((named x).1, map named ys, refl, refl, refl)

settles : {A : Type 0} (named : A → Slot × Held) (xs : List A) (slot : Slot) → SettlesBy (Some (listing_of named (Ok xs))) slot (Some (λ e. Err e))
settles named xs slot = (λ e. Err e, refl, λ e. refl)

pub record Handing (tells : Bool) (g : Group) (by : Option Schema) (rest more : List Part) (slot : Slot) (d : Document) : Type 0 where
  pub hands : Hands (told_out tells g rest by) slot (then_some tells (held.document d)) (told_out tells g more by)
  pub settles : SettlesBy (told_out tells g rest by) slot (Some (λ e. Err e))

element_out : (tells : Bool) (g : Group) (rest more : List Part) (name : List ℕ) (d : Document) → g ≡ group.List → rest ≡ (name, d) ∷ more → Handing tells g None rest more at_element d
element_out false g rest more name d form is = record { hands = tt; settles = tt }
element_out true g rest more name d form is =
    let see : Part → Held = λ p. held.document p.1 in
    rw form record { hands = out (λ x. (at_element, x)) (map see rest) (map see more) (held.document d) (ap (map see) is); settles = settles (λ x. (at_element, x)) (map see rest) at_element }

entry_out : (tells : Bool) (g : Group) (rest more : List Part) (name : List ℕ) (d : Document) → g ≡ group.Map → rest ≡ (name, d) ∷ more → Handing tells g None rest more (at_key name) d
entry_out false g rest more name d form is = record { hands = tt; settles = tt }
entry_out true g rest more name d form is =
    let see : Part → List ℕ × Held = λ p. (p.0, held.document p.1) in
    rw form record { hands = out (λ e. (at_key e.0, e.1)) (map see rest) (map see more) (name, held.document d) (ap (map see) is); settles = settles (λ e. (at_key e.0, e.1)) (map see rest) (at_key name) }

member_out : (tells : Bool) (g : Group) (node m : Schema) (rest more : List Part) (d : Document) → g ≡ group.Structure → flat_map (known node) rest ≡ (m, held.document d) ∷ flat_map (known node) more
    → Handing tells g (Some node) rest more (at_member m) d
member_out false g node m rest more d form is = record { hands = tt; settles = tt }
member_out true g node m rest more d form is =
    rw form record { hands = out (λ m. (at_member m.0, m.1)) (flat_map (known node) rest) (flat_map (known node) more) (m, held.document d) is; settles = settles (λ m. (at_member m.0, m.1)) (flat_map (known node) rest) (at_member m) }

advanced : (tells : Bool) (by : Option Schema) (slot : Slot) (d0 d : Document) (before after below : List walk.Opened) (top : walk.Opened) (more : List Part) → before ≡ top ∷ below → after ≡ record top { rest = more } ∷ below
    → length more < length top.rest → nesting d < nesting top.container → Handing tells top.form by top.rest more slot d → Advanced by slot (reading tells d0 before) (reading tells d after)
advanced tells by slot d0 d before after below top more was now_is falls within handing = record {
  top = frame_of tells top;
  next = frame_of tells (record top { rest = more });
  below = map (frame_of tells) below;
  was = ap (map (frame_of tells)) was;
  now_is = ap (map (frame_of tells)) now_is;
  form = refl;
  container = refl;
  depth = refl;
  falls = falls;
  lower = within;
  hands = handing.hands;
  settles = handing.settles;
}

-- nothing is left
pub record LeftNone (listing : Option Listing) : Type 0 where
  pub none_left : IfSome listing (λ xs. xs.items ≡ [])
  pub not_refused : IfSome listing (λ xs. xs.ends ≡ None)

none_out : (tells : Bool) (g : Group) (rest : List Part) → rest ≡ [] → LeftNone (told_out tells g rest None)
none_out false g rest is = record { none_left = tt; not_refused = tt }
none_out true group.List rest is = rw is record { none_left = refl; not_refused = refl }
none_out true group.Map rest is = rw is record { none_left = refl; not_refused = refl }
none_out true group.Structure rest is = record { none_left = tt; not_refused = tt }

no_member_out : (tells : Bool) (g : Group) (node : Schema) (rest : List Part) → g ≡ group.Structure → flat_map (known node) rest ≡ [] → LeftNone (told_out tells g rest (Some node))
no_member_out false g node rest form is = record { none_left = tt; not_refused = tt }
no_member_out true g node rest form is = rw form record { none_left = ap (map (λ m. (at_member m.0, m.1))) is; not_refused = refl }

closed : (tells : Bool) (by : Option Schema) (d0 d : Document) (before after : List walk.Opened) (top : walk.Opened) → before ≡ top ∷ after → d ≡ top.container → LeftNone (told_out tells top.form top.rest by)
    → Closed by (reading tells d0 before) (reading tells d after)
closed tells by d0 d before after top was again left = record {
  top = frame_of tells top;
  was = ap (map (frame_of tells)) was;
  held = ap (λ x. then_some tells (held.document x)) again;
  levels = ap nesting again;
  none_left = left.none_left;
  not_refused = left.not_refused;
}

falls_by : (rest more : List Part) (p : Part) → rest ≡ p ∷ more → length more < length rest
falls_by rest more p is = let n : length rest ≡ length (p ∷ more) = ap length is in omega arith

pub element_next : (tells : Bool) (d0 d : Document) (before after : List walk.Opened) (name : List ℕ) → IsIn group.List (reading true d0 before) → StepsTo name before d after → Advanced None at_element (reading tells d0 before) (reading tells d after)
element_next tells d0 d before after name form h =
    advanced tells None at_element d0 d before after h.below h.top h.more h.was h.now_is (falls_by h.top.rest h.more (name, d) h.part) h.within
    (element_out tells h.top.form h.top.rest h.more name d (form_of group.List d0 before h.below h.top h.was form) h.part)

pub entry_next : (tells : Bool) (d0 d : Document) (before after : List walk.Opened) (name : List ℕ) → IsIn group.Map (reading true d0 before) → StepsTo name before d after → Advanced None (at_key name) (reading tells d0 before) (reading tells d after)
entry_next tells d0 d before after name form h =
    advanced tells None (at_key name) d0 d before after h.below h.top h.more h.was h.now_is (falls_by h.top.rest h.more (name, d) h.part) h.within
    (entry_out tells h.top.form h.top.rest h.more name d (form_of group.Map d0 before h.below h.top h.was form) h.part)

pub member_next : (tells : Bool) (node m : Schema) (d0 d : Document) (before after : List walk.Opened) → IsIn group.Structure (reading true d0 before) → StepsToMember node m before d after
    → MemberAdvanced node m (reading tells d0 before) (reading tells d after)
member_next tells node m d0 d before after form h = record {
  advanced = advanced tells (Some node) (at_member m) d0 d before after h.below h.top h.more h.was h.now_is h.falls h.within
      (member_out tells h.top.form node m h.top.rest h.more d (form_of group.Structure d0 before h.below h.top h.was form) h.field);
  is_member = h.is_member;
}

pub items_closed : (tells : Bool) (d0 d : Document) (before after : List walk.Opened) → ClosesAt before d after → Closed None (reading tells d0 before) (reading tells d after)
items_closed tells d0 d before after h = closed tells None d0 d before after h.top h.was h.again (none_out tells h.top.form h.top.rest h.none_left)

pub members_closed : (tells : Bool) (node : Schema) (d0 d : Document) (before after : List walk.Opened) → IsIn group.Structure (reading true d0 before) → ClosesBehind node before d after → Closed (Some node) (reading tells d0 before) (reading tells d after)
members_closed tells node d0 d before after form h =
    closed tells (Some node) d0 d before after h.top h.was h.again
    (no_member_out tells h.top.form node h.top.rest (form_of group.Structure d0 before after h.top h.was form) h.none_left)

tail : {X : Type 0} → List X → List X
tail [] = []
tail (x ∷ xs) = xs

depth_of : List Frame → ℕ
depth_of [] = 0
depth_of (f ∷ fs) = f.depth

pub entry_starved : (tells : Bool) (d0 d : Document) (before after : List walk.Opened) (name : List ℕ) (e : SerdeError) → StepsTo name before d after → e ≡ OutOfMemory → Halted None (reading tells d0 before) (reading tells d after) e
unfolding tail depth_of
entry_starved tells d0 d before after name e h memory = record {
  still = λ top below is. (
    frame_of tells (record h.top { rest = h.more }),
    ap (map (frame_of tells)) h.now_is ∙ ap (λ fs. frame_of tells (record h.top { rest = h.more }) ∷ fs) (ap tail (sym (ap (map (frame_of tells)) h.was) ∙ is)),
    ap depth_of (sym (ap (map (frame_of tells)) h.was) ∙ is),
  );
  refused = λ top below is. inl memory;
}

pub element_moved : (tells : Bool) (root : Document) (old new : Cursor) (more : Bool) → IsIn group.List (seen true root old) → Advances root old new more → NextElement (seen tells root old) (seen tells root new) (Ok more)
element_moved tells root old new true form h = element_next tells (document_in root old) (document_in root new) (opened_in root old) (opened_in root new) (name_in new) form h.1
element_moved tells root old new false form h = items_closed tells (document_in root old) (document_in root new) (opened_in root old) (opened_in root new) h
