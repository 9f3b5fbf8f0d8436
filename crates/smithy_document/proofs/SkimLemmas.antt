-- Parts whose names are no member's are passed over.
use Rattle.std.specs.Prelude.{option_and_then}
use Rattle.smithy_document.proofs.Common.{◌≡◌, ℕ, ◌<◌, ◌≤◌, List, [], ◌∷◌, ◌++◌, length, Option, Some, None, refl, sym, ap, ◌∙◌, subst, arith, flat_map, option_map_or, Document, nesting, Schema, member_named, member_at, position_of_name, known, IsMember, Spot, ClosesAt, StepsTo, ClosesBehind, StepsToMember, Part, Opened, step_in, opened_at}
use Rattle.smithy_serde.specs.Held as held
use Rattle.smithy_document.specs.views.Paths.{opened_along}

-- the containers are those from the start but for parts of the innermost that were passed over
pub record Skims (node : Schema) (start now : List Opened) : Type 0 where
  pub top : Opened
  pub below : List Opened
  pub rest : List Part
  pub was : start ≡ top ∷ below
  pub now_is : now ≡ record top { rest = rest } ∷ below
  pub same : flat_map (known node) top.rest ≡ flat_map (known node) rest
  pub fewer : length rest ≤ length top.rest

-- how many parts the innermost container has left
abbrev pub left_in : List Opened → ℕ
left_in [] = 0
left_in (o ∷ os) = length o.rest

some_open : (os : List Opened) (o : Opened) → (top : Opened) × (below : List Opened) × (os ++ o ∷ [] ≡ top ∷ below)
some_open [] o = (o, [], refl)
some_open (x ∷ os) o = (x, os ++ o ∷ [], refl)

is_some_open : (root : Document) (ps : List Spot) → 0 < length ps → (top : Opened) × (below : List Opened) × (opened_along root ps ≡ top ∷ below)
is_some_open root [] h = absurd (omega arith)
is_some_open root (p ∷ ps) h = some_open (opened_along (step_in root p) ps) (opened_at root p)

pub skims_none : (node : Schema) (root : Document) (ps : List Spot) → 0 < length ps → Skims node (opened_along root ps) (opened_along root ps)
skims_none node root ps h =
    let o = is_some_open root ps h in
    record { top = o.0; below = o.1; rest = o.0.rest; was = o.2; now_is = o.2; same = refl; fewer = omega arith }

tail : List Opened → List Opened
tail [] = []
tail (o ∷ os) = os

head_or : Opened → List Opened → Opened
head_or x [] = x
head_or x (o ∷ os) = o

-- the innermost container as it is now
module _ (node : Schema) (start now after : List Opened) (d : Document) (name : List ℕ) (s : Skims node start now) (h : StepsTo name now d after) where
  abbrev current : Opened
  current = record s.top { rest = s.rest }

  same_lists : current ∷ s.below ≡ h.top ∷ h.below
  same_lists = sym s.now_is ∙ h.was

  same_top : current ≡ h.top
  unfolding head_or
  same_top = ap (head_or current) same_lists

  same_below : s.below ≡ h.below
  unfolding tail
  same_below = ap tail same_lists

  rest_is : s.rest ≡ (name, d) ∷ h.more
  rest_is = ap (λ (o : Opened). o.rest) same_top ∙ h.part

  now_after : after ≡ record s.top { rest = h.more } ∷ s.below
  now_after = h.now_is ∙ ap (λ (o : Opened). record o { rest = h.more } ∷ h.below) (sym same_top) ∙ ap (λ os. record s.top { rest = h.more } ∷ os) (sym same_below)

  fewer_left : length h.more < length s.rest
  fewer_left = let n : length s.rest ≡ length ((name, d) ∷ h.more) = ap length rest_is in omega arith

  fields_are : flat_map (known node) s.top.rest ≡ known node (name, d) ++ flat_map (known node) h.more
  fields_are = s.same ∙ ap (flat_map (known node)) rest_is

  pub skims_on : member_named node name ≡ None → Skims node start after
  skims_on none = record {
    top = s.top;
    below = s.below;
    rest = h.more;
    was = s.was;
    now_is = now_after;
    same = fields_are ∙ ap (λ o. option_map_or (λ m. (m, held.document d) ∷ []) o [] ++ flat_map (known node) h.more) none;
    fewer = omega (arith, fewer_left, s.fewer);
  }

  pub skims_to : (m : Schema) → member_named node name ≡ Some m → IsMember node m → StepsToMember node m start d after
  skims_to m is member = record {
    top = s.top;
    below = s.below;
    more = h.more;
    was = s.was;
    now_is = now_after;
    field = fields_are ∙ ap (λ o. option_map_or (λ m. (m, held.document d) ∷ []) o [] ++ flat_map (known node) h.more) is;
    falls = omega (arith, fewer_left, s.fewer);
    within = subst (λ (o : Opened). nesting d < nesting o.container) (sym same_top) h.within;
    is_member = member;
  }

  pub skims_shorter : left_in after < left_in now
  skims_shorter = subst (λ os. left_in os < left_in now) (sym now_after) (subst (λ os. length h.more < left_in os) (sym s.now_is) fewer_left)

pub skims_behind : (node : Schema) (start now after : List Opened) (d : Document) → Skims node start now → ClosesAt now d after → ClosesBehind node start d after
unfolding head_or tail
skims_behind node start now after d s h =
    let current : Opened = record s.top { rest = s.rest } in
    let lists : current ∷ s.below ≡ h.top ∷ after = sym s.now_is ∙ h.was in
    let top : current ≡ h.top = ap (head_or current) lists in
    record {
      top = s.top;
      was = s.was ∙ ap (λ os. s.top ∷ os) (ap tail lists);
      none_left = s.same ∙ ap (λ (o : Opened). flat_map (known node) o.rest) top ∙ ap (flat_map (known node)) h.none_left;
      again = h.again ∙ ap (λ (o : Opened). o.container) (sym top);
    }

named_member : (node : Schema) (o : Option ℕ) (m : Schema) → option_and_then (member_at node) o ≡ Some m → IsMember node m
named_member node None m h = absurd (cc h)
named_member node (Some i) m h = (i, h)

pub is_named : (node : Schema) (name : List ℕ) (m : Schema) → member_named node name ≡ Some m → IsMember node m
is_named node name m h = named_member node (position_of_name node name) m h
