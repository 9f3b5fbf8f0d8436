-- The least number of an entry that conflicts, among those where a path of both can lead, is that of the first entry that conflicts.
use Prim.Native.Nat.{zero}
use Rattle.smithy_router.proofs.Common.{◌≡◌, refl, sym, ◌∙◌, ap, subst, ℕ, suc, ◌≤◌, arith, Bool, true, false, cond, ◌&&◌, ◌||◌, List, [], ◌∷◌, ◌++◌, length, map, find, Option, Some, None, option_map, option_and_then, slice_get, ◌⊎◌, inl, inr, if◌then◌else◌, option_map_or, slice_get-map, Contains, Contains-append_left, Contains-append_right, and_parts, same_text, Segment, Literal, Hole, Route, conflicts, overlaps, paths_meet, segments_meet, entry_seen, route_seen, best_seen, Entry, child_of, child_at, ends_of, ends_at, ends_behind, first_segments, has_more, goes_on, IsIndexed, Node, Bor}
use Rattle.std.specs.BTreeMap.{values}
use Rattle.std.specs.Map.{lookup, values_of}
use Rattle.std.specs.Prelude.{ltb}
use Rattle.std.proofs.lemmas.Bool.{ltb-true, ltb-false}
use Rattle.smithy_router.specs.Conflicting.{behind, children_met, conflicts_at, earlier, first_among, first_literal, from_each, levels_of, met}
use Rattle.smithy_router.specs.Tables.{first_conflict}
use Rattle.smithy_router.specs.declared.conflict.Newcomer.{Newcomer}
use Rattle.smithy_router.specs.declared.route.StoredEntry.{StoredEntry}
use Rattle.smithy_router.proofs.Tests.{same_text_is}
use Rattle.smithy_router.proofs.Ranks.{three}
use Rattle.smithy_router.proofs.Growing.{contains_none}

-- The first among numbers.

module _ (new : Newcomer) where
  among_more : (first : ℕ) (ns ms : List ℕ) → first_among new first (ns ++ ms) ≡ first_among new (first_among new first ns) ms
  among_more first [] ms = refl
  among_more first (n ∷ ns) ms = among_more (earlier new first n) ns ms

  -- it is the first so far, or one whose entry conflicts
  abbrev IsOne : ℕ → ℕ → Type 0
  IsOne first f = (f ≡ first) ⊎ (conflicts_at new f ≡ true)

  -- and at most the first so far and the number, if its entry conflicts
  earlier_is : (first n : ℕ) → IsOne first (earlier new first n) × (earlier new first n ≤ first) × (conflicts_at new n ≡ true → earlier new first n ≤ n)
  earlier_is first n = go (ltb n first) refl (conflicts_at new n) refl
    where
      go : (l : Bool) → ltb n first ≡ l → (c : Bool) → conflicts_at new n ≡ c
          → IsOne first (if l && c then n else first) × ((if l && c then n else first) ≤ first) × (conflicts_at new n ≡ true → (if l && c then n else first) ≤ n)
      go false less c is = (inl refl, omega arith, λ e. omega (arith, ltb-false n first less))
      go true less true is = (inr is, omega (arith, ltb-true n first less), λ e. omega arith)
      go true less false is = (inl refl, omega arith, λ e. (let no : true ≡ false = sym e ∙ is in absurd (cc no)))

  among_most : (first : ℕ) (ns : List ℕ) → first_among new first ns ≤ first
  among_most first [] = omega arith
  among_most first (n ∷ ns) = omega (arith, among_most (earlier new first n) ns, (earlier_is first n).1)

  among_one : (first : ℕ) (ns : List ℕ) → IsOne first (first_among new first ns)
  among_one first [] = inl refl
  among_one first (n ∷ ns) = go (among_one (earlier new first n) ns)
    where
      go : IsOne (earlier new first n) (first_among new first (n ∷ ns)) → IsOne first (first_among new first (n ∷ ns))
      go (inl same) = subst (IsOne first) (sym same) (earlier_is first n).0
      go (inr conflict) = inr conflict

  among_least : (first : ℕ) (ns : List ℕ) (n : ℕ) → conflicts_at new n ≡ true → Contains ns n → first_among new first ns ≤ n
  among_least first [] n conflict among = contains_none n among
  among_least first (m ∷ ns) n conflict (zero, _, same) =
      let here : earlier new first m ≤ n = subst (λ (k : ℕ). earlier new first k ≤ n) (sym same) ((earlier_is first n).2 conflict) in
      omega (arith, among_most (earlier new first m) ns, here)
  among_least first (m ∷ ns) n conflict (suc k, l, same) = among_least (earlier new first m) ns n conflict (k, omega (arith, l), same)

-- The entries where a path of both can lead.

has_first : {X : Type 0} (x : X) (xs : List X) → Contains (x ∷ xs) x
has_first x xs = (0, omega arith, refl)

has_later : {X : Type 0} (y : X) (xs : List X) (x : X) → Contains xs x → Contains (y ∷ xs) x
has_later y xs x (k, l, same) = (suc k, omega (arith, l), same)

-- what a look-up finds is among the values
value_found : {K : Type 0} (test : K → Bool) (es : List (K × ℕ)) (child : ℕ) → lookup test es ≡ Some child → Contains (map Some (values_of es)) (Some child)
value_found test [] child is = absurd (cc is)
value_found test (e ∷ es) child is = go (test e.0) is (value_found test es child)
  where
    go : (t : Bool) → cond t (Some e.1) (lookup test es) ≡ Some child → (lookup test es ≡ Some child → Contains (map Some (values_of es)) (Some child)) → Contains (Some e.1 ∷ map Some (values_of es)) (Some child)
    go true is more = subst (Contains (Some e.1 ∷ map Some (values_of es))) is (has_first (Some e.1) (map Some (values_of es)))
    go false is more = has_later (Some e.1) (map Some (values_of es)) (Some child) (more is)

-- segment by segment, a path can fit both as far as both go
abbrev MayMeet : List Segment → List Segment → Type 0
MayMeet [] ss = Unit {0}
MayMeet (q ∷ qs) [] = Unit {0}
MayMeet (q ∷ qs) (s ∷ ss) = (segments_meet q s ≡ true) × MayMeet qs ss

-- a child behind a segment is one of those that are gone on to
child_met : (node : Node) (q : Segment) (qs ss : List Segment) (child : ℕ) → MayMeet (q ∷ qs) ss → child_of node q ≡ Some child → Contains (children_met node ss) (Some child)
child_met node Hole qs [] child meet is = subst (λ (o : Option ℕ). Contains (node.hole ∷ map Some (values node.literals)) o) is (has_first node.hole (map Some (values node.literals)))
child_met node Hole qs (Hole ∷ ss) child meet is = subst (λ (o : Option ℕ). Contains (node.hole ∷ map Some (values node.literals)) o) is (has_first node.hole (map Some (values node.literals)))
child_met node Hole qs (Literal text ∷ ss) child meet is =
    subst (λ (o : Option ℕ). Contains (node.hole ∷ child_of node (Literal text) ∷ []) o) is (has_first node.hole (child_of node (Literal text) ∷ []))
child_met node (Literal text) qs [] child meet is = has_later node.hole (map Some (values node.literals)) (Some child) (value_found _ node.literals.entries child is)
child_met node (Literal text) qs (Hole ∷ ss) child meet is = has_later node.hole (map Some (values node.literals)) (Some child) (value_found _ node.literals.entries child is)
child_met node (Literal text) qs (Literal other ∷ ss) child meet is =
    let same : text ≡ other = same_text_is text other meet.0 in
    subst (λ (o : Option ℕ). Contains (node.hole ∷ child_of node (Literal other) ∷ []) o) (ap (λ (t : List ℕ). child_of node (Literal t)) (sym same) ∙ is)
    (has_later node.hole (child_of node (Literal other) ∷ []) (child_of node (Literal other)) (has_first (child_of node (Literal other)) []))

each_has : (f : Option ℕ → List ℕ) (ps : List (Option ℕ)) (p : Option ℕ) (number : ℕ) → Contains ps p → Contains (f p) number → Contains (from_each f ps) number
each_has f [] p number at h = contains_none p at
each_has f (x ∷ ps) p number (zero, _, same) h = Contains-append_left (f x) (from_each f ps) number (subst (λ (o : Option ℕ). Contains (f o) number) (sym same) h)
each_has f (x ∷ ps) p number (suc k, l, same) h = Contains-append_right (f x) (from_each f ps) number (each_has f ps p number (k, omega (arith, l), same) h)

-- what ends at a node
ends_met : (nodes : List Node) (levels place : ℕ) (ss : List Segment) (is_greedy : Bool) (number : ℕ) → Contains (ends_at nodes place is_greedy) number → Contains (met nodes levels (Some place) ss) number
ends_met nodes zero place ss is_greedy number = go (slice_get nodes place) is_greedy
  where
    go : (o : Option Node) (b : Bool) → Contains (option_map_or (λ n. ends_of n b) o []) number → Contains (option_map_or (λ n. n.greedy.items ++ n.ends.items) o []) number
    go None b h = contains_none number h
    go (Some node) true h = Contains-append_left node.greedy.items node.ends.items number h
    go (Some node) false h = Contains-append_right node.greedy.items node.ends.items number h
ends_met nodes (suc n) place ss is_greedy number = go (slice_get nodes place) is_greedy
  where
    below : Node → List ℕ
    below node = from_each (λ p. met nodes n p (behind ss)) (children_met node ss)

    go : (o : Option Node) (b : Bool) → Contains (option_map_or (λ n. ends_of n b) o []) number → Contains (option_map_or (λ node. node.greedy.items ++ (node.ends.items ++ below node)) o []) number
    go None b h = contains_none number h
    go (Some node) true h = Contains-append_left node.greedy.items (node.ends.items ++ below node) number h
    go (Some node) false h = Contains-append_right node.greedy.items (node.ends.items ++ below node) number (Contains-append_left node.ends.items (below node) number h)

-- what ends on a way that may be gone, and is not too long
ways_met : (nodes : List Node) (levels : ℕ) (qs ss : List Segment) (place : Option ℕ) (is_greedy : Bool) (number : ℕ) → MayMeet qs ss → length qs ≤ levels
    → Contains (ends_behind nodes place qs is_greedy) number → Contains (met nodes levels place ss) number
ways_met nodes levels qs ss None is_greedy number meet l h = contains_none number h
ways_met nodes levels [] ss (Some place) is_greedy number meet l h = ends_met nodes levels place ss is_greedy number h
ways_met nodes zero (q ∷ qs) ss (Some place) is_greedy number meet l h = absurd (omega (arith, l))
ways_met nodes (suc n) (q ∷ qs) ss (Some place) is_greedy number meet l h =
    go (slice_get nodes place) (λ child k. ways_met nodes n qs (behind ss) (Some child) is_greedy number (rest ss meet) (omega (arith, l)) k) h
  where
    rest : (ss : List Segment) → MayMeet (q ∷ qs) ss → MayMeet qs (behind ss)
    rest [] m = open_end qs
      where
        open_end : (qs : List Segment) → MayMeet qs []
        open_end [] = tt
        open_end (q ∷ qs) = tt
    rest (s ∷ ss) m = m.1

    below : Node → List ℕ
    below node = from_each (λ p. met nodes n p (behind ss)) (children_met node ss)

    at_child : (node : Node) (o : Option ℕ) → child_of node q ≡ o → ((child : ℕ) → Contains (ends_behind nodes (Some child) qs is_greedy) number → Contains (met nodes n (Some child) (behind ss)) number)
        → Contains (ends_behind nodes o qs is_greedy) number → Contains (below node) number
    at_child node None is again h = contains_none number h
    at_child node (Some child) is again h =
        each_has (λ p. met nodes n p (behind ss)) (children_met node ss) (Some child) number (child_met node q qs ss child meet is) (again child h)

    go : (o : Option Node) → ((child : ℕ) → Contains (ends_behind nodes (Some child) qs is_greedy) number → Contains (met nodes n (Some child) (behind ss)) number)
        → Contains (ends_behind nodes (option_and_then (λ node. child_of node q) o) qs is_greedy) number
        → Contains (option_map_or (λ node. node.greedy.items ++ (node.ends.items ++ below node)) o []) number
    go None again h = contains_none number h
    go (Some node) again h =
        Contains-append_right node.greedy.items (node.ends.items ++ below node) number
        (Contains-append_right node.ends.items (below node) number (at_child node (child_of node q) refl again h))

-- paths that meet, and their first segments
ways_meet : (n : ℕ) (h g : Bool) (qs ss : List Segment) → paths_meet h qs g ss ≡ true → MayMeet (first_segments n qs) ss
ways_meet n h g [] ss meet = tt
ways_meet zero h g (q ∷ qs) ss meet = tt
ways_meet (suc n) h g (q ∷ qs) [] meet = tt
ways_meet (suc n) h g (q ∷ qs) (s ∷ ss) meet = let both = and_parts (segments_meet q s) (paths_meet h qs g ss) meet in (both.0, ways_meet n h g qs ss both.1)

first_most : (n : ℕ) (qs : List Segment) → length (first_segments n qs) ≤ n
first_most n [] = omega arith
first_most zero (q ∷ qs) = omega arith
first_most (suc n) (q ∷ qs) = omega (arith, first_most n qs)

ended_most : (n : ℕ) (h : Bool) (qs ss : List Segment) → paths_meet h qs false ss ≡ true → length (first_segments n qs) ≤ length ss
ended_most n h [] ss meet = omega arith
ended_most zero h (q ∷ qs) ss meet = omega arith
ended_most (suc n) h (q ∷ qs) [] meet = absurd (cc meet)
ended_most (suc n) h (q ∷ qs) (s ∷ ss) meet = omega (arith, ended_most n h qs ss (and_parts (segments_meet q s) (paths_meet h qs false ss) meet).1)

levels_enough : (h : Bool) (qs : List Segment) (route : Route) → paths_meet h qs route.is_greedy route.segments ≡ true → length (first_segments 32 qs) ≤ levels_of route
levels_enough h qs route meet = go (has_more 32 route.segments) route.is_greedy meet
  where
    go : (more g : Bool) → paths_meet h qs g route.segments ≡ true → length (first_segments 32 qs) ≤ (if more || g then 32 else length route.segments)
    go true g meet = first_most 32 qs
    go false true meet = first_most 32 qs
    go false false meet = ended_most 32 h qs route.segments meet

-- The first of a list.

find_least : {X : Type 0} (p : X → Bool) (xs : List X) (f : ℕ) → (f ≡ length xs) ⊎ (option_map_or p (slice_get xs f) false ≡ true)
    → ((n : ℕ) → option_map_or p (slice_get xs n) false ≡ true → f ≤ n) → slice_get xs f ≡ find p xs
find_least p [] f one least = refl
find_least p (x ∷ xs) f one least = go (p x) refl (find_least p xs) f one least
  where
    go : (t : Bool) → p x ≡ t
        → ((f : ℕ) → (f ≡ length xs) ⊎ (option_map_or p (slice_get xs f) false ≡ true) → ((n : ℕ) → option_map_or p (slice_get xs n) false ≡ true → f ≤ n) → slice_get xs f ≡ find p xs) → (f : ℕ) → (f ≡ suc (length xs)) ⊎ (option_map_or p (slice_get (x ∷ xs) f) false ≡ true)
        → ((n : ℕ) → option_map_or p (slice_get (x ∷ xs) n) false ≡ true → f ≤ n) → slice_get (x ∷ xs) f ≡ cond t (Some x) (find p xs)
    go true is rest zero one least = refl
    go true is rest (suc k) one least = absurd (omega (arith, least 0 is))
    go false is rest zero (inl e) least = absurd (omega (arith, e))
    go false is rest zero (inr here) least = let no : true ≡ false = sym here ∙ is in absurd (cc no)
    go false is rest (suc k) (inl e) least = rest k (inl (omega (arith, e))) (λ n h. omega (arith, least (suc n) h))
    go false is rest (suc k) (inr here) least = rest k (inr here) (λ n h. omega (arith, least (suc n) h))

find_seen : (p : Entry → Bool) (stored : List StoredEntry) → option_map entry_seen (find (λ e. p (entry_seen e)) stored) ≡ find p (map entry_seen stored)
find_seen p [] = refl
find_seen p (e ∷ stored) = go (p (entry_seen e)) (find_seen p stored)
  where
    go : (t : Bool) → option_map entry_seen (find (λ e. p (entry_seen e)) stored) ≡ find p (map entry_seen stored)
        → option_map entry_seen (cond t (Some e) (find (λ e. p (entry_seen e)) stored)) ≡ cond t (Some (entry_seen e)) (find p (map entry_seen stored))
    go true more = refl
    go false more = more

-- the number of an entry that conflicts is among those that are met
conflict_met : (nodes : List Node) (stored : List StoredEntry) (route : Route) (number : ℕ) → IsIndexed nodes (map entry_seen stored) → option_map_or (λ e. conflicts (route_seen e.route) route) (slice_get stored number) false ≡ true
    → Contains (met nodes (levels_of route) (child_at nodes 0 (Literal route.method)) route.segments) number
conflict_met nodes stored route number indexed = go (slice_get stored number) refl
  where
    go : (o : Option StoredEntry) → slice_get stored number ≡ o → option_map_or (λ e. conflicts (route_seen e.route) route) o false ≡ true → Contains (met nodes (levels_of route) (child_at nodes 0 (Literal route.method)) route.segments) number
    go None is h = absurd (cc h)
    go (Some e) is h =
        let r = route_seen e.route in
        let ends = indexed number (entry_seen e) (slice_get-map entry_seen stored number ∙ ap (option_map entry_seen) is) in
        let test : conflicts r route ≡ true = h in
        let overlap : overlaps r route ≡ true = (three _ _ _ test).0 in
        let parts = three (same_text r.method route.method) (paths_meet r.is_greedy r.segments route.is_greedy route.segments) _ overlap in
        let meet = parts.1 in
        let same : r.method ≡ route.method = same_text_is r.method route.method parts.0 in
        subst (λ (t : List ℕ). Contains (met nodes (levels_of route) (child_at nodes 0 (Literal t)) route.segments) number) same
        (ways_met nodes (levels_of route) (first_segments 32 r.segments) route.segments (child_at nodes 0 (Literal r.method)) (goes_on r) number
        (ways_meet 32 r.is_greedy route.is_greedy r.segments route.segments meet) (levels_enough r.is_greedy r.segments route meet) ends)

-- the entry at the least number that conflicts is the first one
pub first_found : (new : Newcomer) (levels first : ℕ) (start : Option ℕ) (segments : List Segment) (found : Option (Bor StoredEntry)) → IsIndexed new.tree.now.nodes.items (map entry_seen new.tree.now.entries.items)
    → levels ≡ levels_of (route_seen new.route.now) → start ≡ child_at new.tree.now.nodes.items 0 (Literal (route_seen new.route.now).method) → segments ≡ (route_seen new.route.now).segments
    → first ≡ first_among new (length new.tree.now.entries.items) (met new.tree.now.nodes.items levels start segments) → option_map (λ e. e.now) found ≡ slice_get new.tree.now.entries.items first
    → best_seen found ≡ first_conflict (route_seen new.route.now) (map entry_seen new.tree.now.entries.items)
first_found new levels first start segments found indexed l s ss f is =
    seen found ∙ ap (option_map entry_seen) (is ∙ ap (slice_get stored) (f ∙ same) ∙ find_least (λ e. conflicts (route_seen e.route) route) stored least (among_one new (length stored) numbers)
    (λ n h. among_least new (length stored) numbers n h (conflict_met nodes stored route n indexed h)))
    ∙ find_seen (λ e. conflicts e.route route) stored
  where
    nodes : List Node
    nodes = new.tree.now.nodes.items

    stored : List StoredEntry
    stored = new.tree.now.entries.items

    route : Route
    route = route_seen new.route.now

    numbers : List ℕ
    numbers = met nodes (levels_of route) (child_at nodes 0 (Literal route.method)) route.segments

    least : ℕ
    least = first_among new (length stored) numbers

    same : first_among new (length stored) (met nodes levels start segments) ≡ least
    same = λ i. first_among new (length stored) (met nodes (l i) (s i) (ss i))

    seen : (o : Option (Bor StoredEntry)) → best_seen o ≡ option_map entry_seen (option_map (λ e. e.now) o)
    seen None = refl
    seen (Some e) = refl

-- The search, a node at a time.

-- the first so far at a node, by what ends there
pub record IsHere (new : Newcomer) (first : ℕ) (greedy : ℕ) (here : ℕ) (place : Option ℕ) (node : Node) : Type 0 where
  pub node_is : Some node ≡ option_and_then (slice_get new.tree.now.nodes.items) place
  pub greedy_is : greedy ≡ first_among new first node.greedy.items
  pub here_is : here ≡ first_among new greedy node.ends.items

module _ (new : Newcomer) (levels n first greedy here : ℕ) (place : Option ℕ) (node : Node) (ss rest : List Segment) where
  abbrev nodes_in : List Node
  nodes_in = new.tree.now.nodes.items

  abbrev below_at : Option ℕ → List ℕ
  below_at p = met nodes_in n p rest

  same_here : IsHere new first greedy here place node → first_among new (first_among new first node.greedy.items) node.ends.items ≡ here
  same_here h = ap (λ (k : ℕ). first_among new k node.ends.items) (sym h.greedy_is) ∙ sym h.here_is

  pub none_below : IsHere new first greedy here place node → levels ≡ 0 → here ≡ first_among new first (met nodes_in levels place ss)
  none_below h l =
      sym (same_here h) ∙ sym (among_more new first node.greedy.items node.ends.items)
      ∙ ap (λ (o : Option Node). first_among new first (option_map_or (λ x. x.greedy.items ++ x.ends.items) o [])) h.node_is
      ∙ ap (λ (k : ℕ). first_among new first (met nodes_in k place ss)) (sym l)

  -- at a node and what is below it
  all_below : IsHere new first greedy here place node → levels ≡ suc n → rest ≡ behind ss → first_among new first (met nodes_in levels place ss) ≡ first_among new here (from_each below_at (children_met node ss))
  all_below h l r =
      ap (λ (k : ℕ). first_among new first (met nodes_in k place ss)) l
      ∙ ap (λ (o : Option Node). first_among new first (option_map_or (λ x. x.greedy.items ++ (x.ends.items ++ from_each (λ p. met nodes_in n p (behind ss)) (children_met x ss))) o [])) (sym h.node_is)
      ∙ among_more new first node.greedy.items (node.ends.items ++ from_each (λ p. met nodes_in n p (behind ss)) (children_met node ss))
      ∙ among_more new (first_among new first node.greedy.items) node.ends.items (from_each (λ p. met nodes_in n p (behind ss)) (children_met node ss))
      ∙ (λ i. first_among new (same_here h i) (from_each (λ p. met nodes_in n p (sym r i)) (children_met node ss)))

  module _ (hole : ℕ) (h : IsHere new first greedy here place node) (l : levels ≡ suc n) (r : rest ≡ behind ss) (hole_is : hole ≡ first_among new here (below_at node.hole)) where
    -- behind a hole, and behind these others
    behind_hole : (others : List (Option ℕ)) → children_met node ss ≡ node.hole ∷ others → first_among new hole (from_each below_at others) ≡ first_among new first (met nodes_in levels place ss)
    behind_hole others are =
        sym (all_below h l r ∙ ap (λ (ps : List (Option ℕ)). first_among new here (from_each below_at ps)) are
        ∙ among_more new here (below_at node.hole) (from_each below_at others) ∙ ap (λ (k : ℕ). first_among new k (from_each below_at others)) (sym hole_is))

    pub literal_below : (text : List ℕ) (child : Option ℕ) (result : ℕ) → Some text ≡ first_literal ss → child ≡ child_of node (Literal text) → result ≡ first_among new hole (below_at child)
        → result ≡ first_among new first (met nodes_in levels place ss)
    literal_below text child result t c is =
        is ∙ sym (among_more new hole (below_at child) [])
        ∙ behind_hole (child ∷ []) (ap (λ (o : Option (List ℕ)). node.hole ∷ option_map_or (λ x. child_of node (Literal x) ∷ []) o (map Some (values node.literals))) (sym t) ∙ (λ i. node.hole ∷ sym c i ∷ []))

    pub any_below : (children : List ℕ) → None ≡ first_literal ss → children ≡ values node.literals → first_among new hole (from_each below_at (map Some children)) ≡ first_among new first (met nodes_in levels place ss)
    any_below children t are =
        behind_hole (map Some children)
        (ap (λ (o : Option (List ℕ)). node.hole ∷ option_map_or (λ x. child_of node (Literal x) ∷ []) o (map Some (values node.literals))) (sym t) ∙ (λ i. node.hole ∷ map Some (sym are i)))

-- a child more
pub child_more : (new : Newcomer) (f : Option ℕ → List ℕ) (found more child whole : ℕ) (all rest : List ℕ) → all ≡ child ∷ rest → more ≡ first_among new found (f (Some child))
    → first_among new found (from_each f (map Some all)) ≡ whole → first_among new more (from_each f (map Some rest)) ≡ whole
child_more new f found more child whole all rest are is so_far =
    ap (λ (k : ℕ). first_among new k (from_each f (map Some rest))) is ∙ sym (among_more new found (f (Some child)) (from_each f (map Some rest)))
    ∙ ap (λ (xs : List ℕ). first_among new found (from_each f (map Some xs))) (sym are) ∙ so_far
