-- Paths into a tree of JSON, a position at a time.
use Rattle.smithy_document.proofs.Common.{◌≡◌, ℕ, ◌+◌, ◌-◌, ◌<◌, ◌≤◌, List, [], ◌∷◌, ◌++◌, length, drop, get_or, slice_get, IsTrue, Option, Some, None, option_map, refl, sym, ap, ◌∙◌, subst, arith, ◌⊎◌, inl, inr, flat_map, IfSome, option_map_or, unwrap_or, and_parts, and_from, length-drop, slice_get_cases, drop_of_length-le, Document, nesting, is_canonical, Schema, member_named, known, TreeSpot, ClosesAt, StepsTo, ClosesBehind, StepsToMember, is_in_order, is_read, part_at, part_name, Part, parts_of, part_behind, path_end, opened_along}
use Rattle.std.proofs.lemmas.List.Sums.{fold_push}
use Rattle.smithy_serde.specs.Held as held
use Rattle.smithy_document.specs.views.KnownParts.{IsNextKnown}
use Rattle.smithy_document.specs.views.TreePaths.{opened_at}
use Rattle.smithy_document.proofs.PartLemmas.{AllParts, IsCanonical, IsInOrder, at_position, parts_nested, parts_canonical, parts_in_order}
use Rattle.smithy_document.proofs.PathLemmas.{drop_first}
use Rattle.smithy_document.proofs.SkimLemmas.{is_named}
use Rattle.smithy_document.proofs.WayLemmas.{opened_last, end_keeps, last_is, last_keeps}

part_within : (c : Document) (i : ℕ) (p : Part) → slice_get (parts_of c) i ≡ Some p → nesting p.1 < nesting c
part_within c i p h = subst (λ o. IfSome (option_map (λ (x : Part). x.1) o) (λ x. nesting x < nesting c)) h (at_position (λ x. nesting x < nesting c) (parts_of c) i (parts_nested c))

-- what holds of each part of what it holds of holds of the end of a path
path_keeps : (Holds : Document → Type 0) → ((d : Document) → Holds d → AllParts Holds (parts_of d)) → (d : Document) (ps : List TreeSpot) → Holds d → Holds (path_end d ps)
path_keeps Holds parts =
    end_keeps Holds part_behind (λ d p h. last_keeps Holds (part_at d) p.next d h (at_position Holds (parts_of d) (p.next - 1) (parts d h)))

-- what was read is canonical and in order, and so is what stands in it
pub path_read : (d : Document) (ps : List TreeSpot) → IsTrue (is_read d) → IsTrue (is_read (path_end d ps))
path_read d ps h =
    let halves = and_parts (is_canonical d) (is_in_order d) h in
    and_from _ _ (path_keeps IsCanonical parts_canonical d ps halves.0) (path_keeps IsInOrder parts_in_order d ps halves.1)

-- ---- a part comes to hand

pub handed : (d : Document) (p : TreeSpot) (part : Document) → 0 < p.next → part_at d (p.next - 1) ≡ Some part → part ≡ part_behind d p
handed d p part some h = sym (last_is (part_at d) p.next d some ∙ ap (λ o. unwrap_or o d) h)

pub none_handed : (d : Document) (p : TreeSpot) → 0 < p.next → part_at d (p.next - 1) ≡ None → d ≡ part_behind d p
none_handed d p some h = sym (last_is (part_at d) p.next d some ∙ ap (λ o. unwrap_or o d) h)

behind : (d : Document) (p : TreeSpot) (part : Part) → 0 < p.next → slice_get (parts_of d) (p.next - 1) ≡ Some part → part_behind d p ≡ part.1
behind d p part some h = sym (handed d p part.1 some (ap (option_map (λ x. x.1)) h))

pub steps : (root : Document) (ps : List TreeSpot) (p q : TreeSpot) (part : Part) → q.form ≡ p.form → q.next ≡ p.next + 1 → slice_get (parts_of (path_end root ps)) p.next ≡ Some part
    → StepsTo part.0 (opened_along root (ps ++ p ∷ [])) (path_end root (ps ++ q ∷ [])) (opened_along root (ps ++ q ∷ []))
steps root ps p q part form next h =
    let d = path_end root ps in
    let before : q.next - 1 ≡ p.next = omega arith in
    let comes : path_end root (ps ++ q ∷ []) ≡ part.1 = fold_push part_behind root ps q ∙ behind d q part (omega arith) (ap (slice_get (parts_of d)) before ∙ h) in
    record {
      top = opened_at d p;
      below = opened_along root ps;
      more = drop (p.next + 1) (parts_of d);
      was = opened_last part_behind opened_at root ps p;
      now_is = opened_last part_behind opened_at root ps q ∙ ap (λ f. record { form = f; container = d; rest = drop q.next (parts_of d) } ∷ opened_along root ps) form ∙ ap (λ n. record { form = p.form; container = d; rest = drop n (parts_of d) } ∷ opened_along root ps) next;
      part = drop_first (parts_of d) p.next part h ∙ ap (λ x. (part.0, x) ∷ drop (p.next + 1) (parts_of d)) (sym comes);
      within = subst (λ x. nesting x < nesting d) (sym comes) (part_within d p.next part h);
    }

pub closes : (root : Document) (ps : List TreeSpot) (p : TreeSpot) → length (parts_of (path_end root ps)) ≤ p.next → ClosesAt (opened_along root (ps ++ p ∷ [])) (path_end root ps) (opened_along root ps)
closes root ps p h = record { top = opened_at (path_end root ps) p; was = opened_last part_behind opened_at root ps p; none_left = drop_of_length-le (parts_of (path_end root ps)) h; again = refl }

pub steps_to_member : (root : Document) (ps : List TreeSpot) (p q : TreeSpot) (node m : Schema) → q.form ≡ p.form → IsNextKnown node m (parts_of (path_end root ps)) p.next q.next
    → StepsToMember node m (opened_along root (ps ++ p ∷ [])) (path_end root (ps ++ q ∷ [])) (opened_along root (ps ++ q ∷ []))
steps_to_member root ps p q node m form h =
    let d = path_end root ps in
    let parts = parts_of d in
    let comes : path_end root (ps ++ q ∷ []) ≡ h.part.1 = fold_push part_behind root ps q ∙ behind d q h.part (let l : p.next < q.next = h.later in omega arith) h.there in
    record {
      top = opened_at d p;
      below = opened_along root ps;
      more = drop q.next parts;
      was = opened_last part_behind opened_at root ps p;
      now_is = opened_last part_behind opened_at root ps q ∙ ap (λ f. record { form = f; container = d; rest = drop q.next parts } ∷ opened_along root ps) form;
      field = rw comes h.field;
      falls = rw (length-drop q.next parts, length-drop p.next parts) (let l : p.next < q.next = h.later in let w : q.next ≤ length parts = h.within in omega arith);
      within = subst (λ x. nesting x < nesting d) (sym comes) (part_within d (q.next - 1) h.part h.there);
      is_member = h.is_member;
    }

pub closes_behind : (root : Document) (ps : List TreeSpot) (p : TreeSpot) (node : Schema) → flat_map (known node) (drop p.next (parts_of (path_end root ps))) ≡ []
    → ClosesBehind node (opened_along root (ps ++ p ∷ [])) (path_end root ps) (opened_along root ps)
closes_behind root ps p node h = record { top = opened_at (path_end root ps) p; was = opened_last part_behind opened_at root ps p; none_left = h; again = refl }

-- ---- parts whose names are members'

-- a part that is there, with its name
pub record There (d : Document) (i : ℕ) : Type 0 where
  pub part : Part
  pub there : slice_get (parts_of d) i ≡ Some part
  pub named : part_name d i ≡ part.0

pub is_there : (d : Document) (i : ℕ) → i < length (parts_of d) → There d i
is_there d i l = go (slice_get_cases (parts_of d) i).1
  where
    go : ((x : Part) × (i < length (parts_of d)) × (slice_get (parts_of d) i ≡ Some x) × (get_or (parts_of d) i x ≡ x)) ⊎ ((length (parts_of d) ≤ i) × (slice_get (parts_of d) i ≡ None)) → There d i
    go (inl c) = record { part = c.0; there = c.2; named = ap (λ o. option_map_or (λ p. p.0) o []) c.2 }
    go (inr c) = let past : length (parts_of d) ≤ i = c.0 in absurd (omega arith)

known_here : (node : Schema) (d : Document) (i : ℕ) (part : Part) (o : Option Schema) → slice_get (parts_of d) i ≡ Some part → member_named node part.0 ≡ o
    → flat_map (known node) (drop i (parts_of d)) ≡ option_map_or (λ m. (m, held.document part.1) ∷ []) o [] ++ flat_map (known node) (drop (i + 1) (parts_of d))
known_here node d i part o there is =
    ap (flat_map (known node)) (drop_first (parts_of d) i part there)
    ∙ ap (λ o. option_map_or (λ m. (m, held.document part.1) ∷ []) o [] ++ flat_map (known node) (drop (i + 1) (parts_of d))) is

pub passed_over : (node : Schema) (d : Document) (from i : ℕ) (name : List ℕ) → i < length (parts_of d) → name ≡ part_name d i → None ≡ member_named node name
    → flat_map (known node) (drop from (parts_of d)) ≡ flat_map (known node) (drop i (parts_of d)) → flat_map (known node) (drop from (parts_of d)) ≡ flat_map (known node) (drop (i + 1) (parts_of d))
passed_over node d from i name l named none same =
    let h = is_there d i l in
    same ∙ known_here node d i h.part None h.there (ap (member_named node) (sym h.named ∙ sym named) ∙ sym none)

pub found_known : (node m : Schema) (d : Document) (from i : ℕ) (name : List ℕ) → i < length (parts_of d) → from ≤ i → name ≡ part_name d i → Some m ≡ member_named node name
    → flat_map (known node) (drop from (parts_of d)) ≡ flat_map (known node) (drop i (parts_of d)) → IsNextKnown node m (parts_of d) from (i + 1)
found_known node m d from i name l later named is same =
    let h = is_there d i l in
    let there : i + 1 - 1 ≡ i = omega arith in
    record {
      part = h.part;
      there = ap (slice_get (parts_of d)) there ∙ h.there;
      later = omega arith;
      within = omega arith;
      field = same ∙ known_here node d i h.part (Some m) h.there (ap (member_named node) (sym h.named ∙ sym named) ∙ sym is);
      is_member = is_named node name m (sym is);
    }

pub none_known : (node : Schema) (d : Document) (from i : ℕ) → length (parts_of d) ≤ i → flat_map (known node) (drop from (parts_of d)) ≡ flat_map (known node) (drop i (parts_of d))
    → flat_map (known node) (drop from (parts_of d)) ≡ []
none_known node d from i past same = same ∙ ap (flat_map (known node)) (drop_of_length-le (parts_of d) past)
