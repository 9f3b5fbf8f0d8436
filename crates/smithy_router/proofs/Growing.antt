-- Nodes that grow keep what stands in them.
use Rattle.std.proofs.Common.{string_bytes}
use Prim.Native.Nat.{zero}
use Rattle.smithy_router.proofs.Common.{◌≤◌, ◌≡◌, refl, sym, ◌∙◌, ap, subst, ℕ, suc, ◌+◌, ◌<◌, arith, Bool, true, false, cond, List, [], ◌∷◌, ◌++◌, length, map, get_or, take, drop, Option, Some, None, Result, Ok, Err, IfOk, OnOk, OnErr, ◌⊎◌, inl, inr, slice_get, option_and_then, String, option_map_or, Contains, slice_set, length-append, length-set, length-map, drop_more, Contains-append_left, Contains-push, slice_get_within, slice_get_read, Segment, Literal, Hole, Route, IsRoute, segment_seen, entry_seen, EntryAdded, Entry, AreApart, IsApartFrom, child_of, ends_of, child_at, ends_at, ends_behind, first_segments, has_more, way_of, goes_on, EndsAt, IsIndexed, IsWithin, Grows, HasChild, HasEnd, IsAs, IsLeaf, HasChildAt, Leads, IsBehind, IsSound, entries_of, Node}
use Rattle.std.specs.BTreeMap.{BTreeMap, get_by_text, Updates}
use Rattle.std.specs.String.{string_cmp}
use Rattle.std.specs.Str.{bytes_eq}
use Rattle.std.specs.Global.{Global}
use Rattle.std.proofs.lemmas.Map.Text.{btree_map_updates_text}
use Rattle.std.proofs.lemmas.Slice.Eq.{bytes_eq-Decides}
use Rattle.smithy_router.specs.declared.segment.PathSegment.{PathSegment}
use Rattle.smithy_router.specs.declared.tree.RouteTree.{RouteTree}
use Rattle.smithy_router.proofs.Adding.{added}

-- an empty list has nothing
pub contains_none : {P X : Type 0} (x : X) → Contains [] x → P
contains_none x h = absurd (omega (arith, h.1))

-- nodes keep what they have
pub grows_self : (nodes : List Node) → Grows nodes nodes
grows_self nodes = record {
  longer = omega arith;
  children = λ place s child e. e;
  ends = λ place b number h. h;
  within = λ h. h;
}

pub grows_through : (a b c : List Node) → Grows a b → Grows b c → Grows a c
grows_through a b c ab bc = record {
  longer = omega (arith, ab.longer, bc.longer);
  children = λ place s child e. bc.children place s child (ab.children place s child e);
  ends = λ place is_greedy number h. bc.ends place is_greedy number (ab.ends place is_greedy number h);
  within = λ h. bc.within (ab.within h);
}

-- what ends behind segments from a node ends there still
pub ends_kept : (old new : List Node) → Grows old new → (place : Option ℕ) (segments : List Segment) (is_greedy : Bool) (number : ℕ)
    → Contains (ends_behind old place segments is_greedy) number → Contains (ends_behind new place segments is_greedy) number
ends_kept old new grows None segments is_greedy number h = contains_none number h
ends_kept old new grows (Some place) [] is_greedy number h = grows.ends place is_greedy number h
ends_kept old new grows (Some place) (s ∷ ss) is_greedy number h = go (child_at old place s) refl (λ child k. ends_kept old new grows (Some child) ss is_greedy number k) h
  where
    go : (child : Option ℕ) → child_at old place s ≡ child → ((c : ℕ) → Contains (ends_behind old (Some c) ss is_greedy) number → Contains (ends_behind new (Some c) ss is_greedy) number)
        → Contains (ends_behind old child ss is_greedy) number → Contains (ends_behind new (child_at new place s) ss is_greedy) number
    go None e again h = contains_none number h
    go (Some child) e again h = subst (λ (o : Option ℕ). Contains (ends_behind new o ss is_greedy) number) (sym (grows.children place s child e)) (again child h)

-- each entry ends at the node of its route still
pub indexed_kept : (old new : List Node) (entries : List Entry) → Grows old new → IsIndexed old entries → IsIndexed new entries
indexed_kept old new entries grows h number e is = ends_kept old new grows (Some 0) (way_of e.route) (goes_on e.route) number (h number e is)

-- a store at one place
set_at : (nodes : List Node) (place other : ℕ) (b : Node) → place < length nodes
    → ((other ≡ place) × (slice_get (slice_set nodes place b) other ≡ Some b)) ⊎ (slice_get (slice_set nodes place b) other ≡ slice_get nodes other)
set_at [] place other b h = absurd (omega (arith, h))
set_at (x ∷ nodes) zero zero b h = inl (refl, refl)
set_at (x ∷ nodes) zero (suc other) b h = inr refl
set_at (x ∷ nodes) (suc place) zero b h = inr refl
set_at (x ∷ nodes) (suc place) (suc other) b h = go (set_at nodes place other b (omega (arith, h)))
  where
    go : ((other ≡ place) × (slice_get (slice_set nodes place b) other ≡ Some b)) ⊎ (slice_get (slice_set nodes place b) other ≡ slice_get nodes other)
        → ((suc other ≡ suc place) × (slice_get (slice_set nodes place b) other ≡ Some b)) ⊎ (slice_get (slice_set nodes place b) other ≡ slice_get nodes other)
    go (inl here) = inl (ap suc here.0, here.1)
    go (inr same) = inr same

set_here : (nodes : List Node) (place : ℕ) (b : Node) → place < length nodes → slice_get (slice_set nodes place b) place ≡ Some b
set_here [] place b h = absurd (omega (arith, h))
set_here (x ∷ nodes) zero b h = refl
set_here (x ∷ nodes) (suc place) b h = set_here nodes place b (omega (arith, h))

-- and one at the end
get_pushed : {X : Type 0} (xs : List X) (b : X) (place : ℕ)
    → (slice_get (xs ++ b ∷ []) place ≡ slice_get xs place) ⊎ ((slice_get xs place ≡ None) × (slice_get (xs ++ b ∷ []) place ≡ Some b) × (place ≡ length xs))
get_pushed [] b zero = inr (refl, refl, refl)
get_pushed [] b (suc place) = inl refl
get_pushed (x ∷ xs) b zero = inl refl
get_pushed (x ∷ xs) b (suc place) = go (get_pushed xs b place)
  where
    go : (slice_get (xs ++ b ∷ []) place ≡ slice_get xs place) ⊎ ((slice_get xs place ≡ None) × (slice_get (xs ++ b ∷ []) place ≡ Some b) × (place ≡ length xs))
        → (slice_get (xs ++ b ∷ []) place ≡ slice_get xs place) ⊎ ((slice_get xs place ≡ None) × (slice_get (xs ++ b ∷ []) place ≡ Some b) × (suc place ≡ suc (length xs)))
    go (inl same) = inl same
    go (inr at) = inr (at.0, at.1, ap suc at.2)

-- what a node that may be there has
abbrev child_in : Segment → Option Node → Option ℕ
child_in s node = option_and_then (λ n. child_of n s) node

abbrev ends_in : Bool → Option Node → List ℕ
ends_in is_greedy node = option_map_or (λ n. ends_of n is_greedy) node []

-- a node in the place of another, or of none: it keeps the children and the entries, and each child that it has more is below n
record Keeps (n : ℕ) (old : Option Node) (new : Option Node) : Type 0 where
  pub children : (s : Segment) (child : ℕ) → child_in s old ≡ Some child → child_in s new ≡ Some child
  pub ends : (b : Bool) (number : ℕ) → Contains (ends_in b old) number → Contains (ends_in b new) number
  pub within : (s : Segment) (child : ℕ) → child_in s new ≡ Some child → (child_in s old ≡ Some child) ⊎ (child < n)

keeps_same : (n : ℕ) (old new : Option Node) → new ≡ old → Keeps n old new
keeps_same n old new same = subst (Keeps n old) (sym same) (record { children = λ s c e. e; ends = λ b k h. h; within = λ s c e. inl e })

-- nodes grow where each keeps what it has
grows_by : (old new : List Node) → length old ≤ length new → ((place : ℕ) → Keeps (length old) (slice_get old place) (slice_get new place)) → Grows old new
grows_by old new longer keeps = record {
  longer = longer;
  children = λ place s child e. (keeps place).children s child e;
  ends = λ place b number h. (keeps place).ends b number h;
  within = λ h place s child e. go place s child (h place s child) ((keeps place).within s child e);
}
  where
    go : (place : ℕ) (s : Segment) (child : ℕ) → (child_at old place s ≡ Some child → child < length old) → (child_at old place s ≡ Some child) ⊎ (child < length old) → child < length new
    go place s child within (inl was) = omega (arith, longer, within was)
    go place s child within (inr l) = omega (arith, longer, l)

-- a node more, which has no children
pub grows_push : (nodes : List Node) (leaf : Node) → IsLeaf leaf → Grows nodes (nodes ++ leaf ∷ [])
grows_push nodes leaf is_leaf = grows_by nodes (nodes ++ leaf ∷ []) (omega (arith, length-append nodes (leaf ∷ []))) (λ place. go place (get_pushed nodes leaf place))
  where
    more : Keeps (length nodes) None (Some leaf)
    more = record {
      children = λ s c e. absurd (cc e);
      ends = λ b k h. contains_none k h;
      within = λ s c e. (let no : None ≡ Some c = sym (is_leaf s) ∙ e in absurd (cc no));
    }

    go : (place : ℕ) → (slice_get (nodes ++ leaf ∷ []) place ≡ slice_get nodes place) ⊎ ((slice_get nodes place ≡ None) × (slice_get (nodes ++ leaf ∷ []) place ≡ Some leaf) × (place ≡ length nodes))
        → Keeps (length nodes) (slice_get nodes place) (slice_get (nodes ++ leaf ∷ []) place)
    go place (inl same) = keeps_same (length nodes) (slice_get nodes place) (slice_get (nodes ++ leaf ∷ []) place) same
    go place (inr at) =
        subst (λ (o : Option Node). Keeps (length nodes) o (slice_get (nodes ++ leaf ∷ []) place)) (sym at.0) (subst (Keeps (length nodes) None) (sym at.1) more)

-- a node in the place of one whose children and entries it has
grows_set : (nodes : List Node) (place : ℕ) (old new : Node) → slice_get nodes place ≡ Some old → Keeps (length nodes) (Some old) (Some new) → Grows nodes (slice_set nodes place new)
grows_set nodes place old new is keeps =
    grows_by nodes (slice_set nodes place new) (omega (arith, length-set nodes place new)) (λ other. go other (set_at nodes place other new (slice_get_within nodes place old is)))
  where
    go : (other : ℕ) → ((other ≡ place) × (slice_get (slice_set nodes place new) other ≡ Some new)) ⊎ (slice_get (slice_set nodes place new) other ≡ slice_get nodes other)
        → Keeps (length nodes) (slice_get nodes other) (slice_get (slice_set nodes place new) other)
    go other (inl (same, here)) =
        subst (λ (o : Option Node). Keeps (length nodes) o (slice_get (slice_set nodes place new) other)) (sym (ap (slice_get nodes) same ∙ is)) (subst (Keeps (length nodes) (Some old)) (sym here) keeps)
    go other (inr same) = keeps_same (length nodes) (slice_get nodes other) (slice_get (slice_set nodes place new) other) same

-- a node with a child more
keeps_child : (nodes : List Node) (old new : Node) (segment : Segment) (child : ℕ) → child_of old segment ≡ None → child < length nodes → HasChild old segment child new → Keeps (length nodes) (Some old) (Some new)
keeps_child nodes old new segment child absent l has = record {
  children = λ s c e. children s c (has.others s) e;
  ends = λ b number h. subst (λ (ends : List ℕ). Contains ends number) (sym (has.ends b)) h;
  within = λ s c e. within s c (has.others s) e;
}
  where
    children : (s : Segment) (c : ℕ) → (s ≡ segment) ⊎ (child_of new s ≡ child_of old s) → child_of old s ≡ Some c → child_of new s ≡ Some c
    children s c (inl same) e = let no : None ≡ Some c = sym absent ∙ ap (child_of old) (sym same) ∙ e in absurd (cc no)
    children s c (inr same) e = same ∙ e

    within : (s : Segment) (c : ℕ) → (s ≡ segment) ⊎ (child_of new s ≡ child_of old s) → child_of new s ≡ Some c → (child_of old s ≡ Some c) ⊎ (c < length nodes)
    within s c (inl same) e =
        let is : Some child ≡ Some c = sym has.here ∙ ap (child_of new) (sym same) ∙ e in
        let number : child ≡ c = cc is in
        inr (subst (λ (n : ℕ). n < length nodes) number l)
    within s c (inr same) e = inl (sym same ∙ e)

-- one with an entry more
keeps_end : (nodes : List Node) (old new : Node) (is_greedy : Bool) (number : ℕ) → HasEnd old is_greedy number new → Keeps (length nodes) (Some old) (Some new)
keeps_end nodes old new is_greedy number has = record {
  children = λ s c e. has.children s ∙ e;
  ends = λ b n h. go b n (has.ends b) h;
  within = λ s c e. inl (sym (has.children s) ∙ e);
}
  where
    go : (b : Bool) (n : ℕ) → (ends_of new b ≡ ends_of old b) ⊎ (ends_of new b ≡ ends_of old b ++ number ∷ []) → Contains (ends_of old b) n → Contains (ends_of new b) n
    go b n (inl same) h = subst (λ (ends : List ℕ). Contains ends n) (sym same) h
    go b n (inr more) h = subst (λ (ends : List ℕ). Contains ends n) (sym more) (Contains-append_left (ends_of old b) (number ∷ []) n h)

-- one that is as it was
keeps_as : (nodes : List Node) (old new : Node) → IsAs old new → Keeps (length nodes) (Some old) (Some new)
keeps_as nodes old new as_old = record {
  children = λ s c e. as_old.children s ∙ e;
  ends = λ b n h. subst (λ (ends : List ℕ). Contains ends n) (sym (as_old.ends b)) h;
  within = λ s c e. inl (sym (as_old.children s) ∙ e);
}

-- a literal's child put into its map
pub has_literal : (node : Node) (m : BTreeMap (String Global) ℕ) (key : String Global) (text : List ℕ) (child : ℕ) → string_bytes key ≡ text
    → Updates string_cmp node.literals m key (Some child) → HasChild node (Literal text) child (record { literals = m; hole = node.hole; ends = node.ends; greedy = node.greedy })
has_literal node m key text child is updates = record {
  here = at text ∙ ap (λ (b : Bool). cond b (Some child) (get_by_text node.literals text)) ((bytes_eq-Decides text text).1 refl);
  others = λ s. others s;
  ends = λ b. same_ends b;
}
  where
    at : (q : List ℕ) → get_by_text m q ≡ cond (bytes_eq text q) (Some child) (get_by_text node.literals q)
    at q = btree_map_updates_text (string_bytes key) node.literals m (Some child) updates q ∙ ap (λ (t : List ℕ). cond (bytes_eq t q) (Some child) (get_by_text node.literals q)) is

    other : (q : List ℕ) (b : Bool) → bytes_eq text q ≡ b → (Literal q ≡ Literal text) ⊎ (get_by_text m q ≡ get_by_text node.literals q)
    other q true e = let same : text ≡ q = (bytes_eq-Decides text q).0 e in inl (ap Literal (sym same))
    other q false e = inr (at q ∙ ap (λ (b : Bool). cond b (Some child) (get_by_text node.literals q)) e)

    others : (s : Segment) → (s ≡ Literal text) ⊎ (child_of (record { literals = m; hole = node.hole; ends = node.ends; greedy = node.greedy }) s ≡ child_of node s)
    others (Literal q) = other q (bytes_eq text q) refl
    others Hole = inr refl

    same_ends : (b : Bool) → ends_of (record { literals = m; hole = node.hole; ends = node.ends; greedy = node.greedy }) b ≡ ends_of node b
    same_ends true = refl
    same_ends false = refl

-- a new child: a leaf behind the nodes, and then its place at the node above it
pub child_added : (old mid new : List Node) (place child : ℕ) (segment : Segment) (leaf was now : Node) → mid ≡ old ++ leaf ∷ [] → IsLeaf leaf → place < length old → child ≡ length old
    → child_at old place segment ≡ None → slice_get mid place ≡ Some was → new ≡ slice_set mid place now → HasChild was segment child now → Grows old new × HasChildAt new place segment child
child_added old mid new place child segment leaf was now pushed is_leaf within is_child absent is stored has =
    let longer : length mid ≡ length old + 1 = ap length pushed ∙ length-append old (leaf ∷ []) in
    let none : child_of was segment ≡ None = go (get_pushed old leaf place) in
    let grown = grows_set mid place was now is (keeps_child mid was now segment child none (omega (arith, longer, is_child)) has) in (
      subst (Grows old) (sym stored) (grows_through old mid (slice_set mid place now) (subst (Grows old) (sym pushed) (grows_push old leaf is_leaf)) grown),
      record {
        here = subst (λ (nodes : List Node). child_at nodes place segment ≡ Some child) (sym stored) (ap (child_in segment) (set_here mid place now (slice_get_within mid place was is)) ∙ has.here);
        within = omega (arith, longer, is_child, ap length stored ∙ length-set mid place now);
      },
    )
  where
    go : (slice_get (old ++ leaf ∷ []) place ≡ slice_get old place) ⊎ ((slice_get old place ≡ None) × (slice_get (old ++ leaf ∷ []) place ≡ Some leaf) × (place ≡ length old)) → child_of was segment ≡ None
    go (inl same) = ap (child_in segment) (sym is ∙ ap (λ (nodes : List Node). slice_get nodes place) pushed ∙ same) ∙ absent
    go (inr at) =
        let same : Some was ≡ Some leaf = sym is ∙ ap (λ (nodes : List Node). slice_get nodes place) pushed ∙ at.1 in
        ap (child_in segment) same ∙ is_leaf segment

-- one that could not be put
pub child_not_put : (old mid new : List Node) (place : ℕ) (leaf was now : Node) → mid ≡ old ++ leaf ∷ [] → IsLeaf leaf → slice_get mid place ≡ Some was → new ≡ slice_set mid place now → IsAs was now → Grows old new
child_not_put old mid new place leaf was now pushed is_leaf is stored as_it_was =
    subst (Grows old) (sym stored) (grows_through old mid (slice_set mid place now) (subst (Grows old) (sym pushed) (grows_push old leaf is_leaf))
    (grows_set mid place was now is (keeps_as mid was now as_it_was)))

-- nodes that are as they were
pub grows_same : (old new : List Node) → new ≡ old → Grows old new
grows_same old new same = subst (Grows old) (sym same) (grows_self old)

pub grows_leaf : (old new : List Node) (leaf : Node) → new ≡ old ++ leaf ∷ [] → IsLeaf leaf → Grows old new
grows_leaf old new leaf same is_leaf = subst (Grows old) (sym same) (grows_push old leaf is_leaf)

-- a node that is left for another
pub leads_more : (nodes new : List Node) (start place child : ℕ) (all : List Segment) (s : Segment) (rest : List Segment)
    → Grows nodes new → Leads nodes start all place (s ∷ rest) → HasChildAt new place s child → Leads new start all child rest
leads_more nodes new start place child all s rest grows h has later grown is_greedy =
    h later (grows_through nodes new later grows grown) is_greedy ∙ ap (λ (o : Option ℕ). ends_behind later o rest is_greedy) (grown.children place s child has.here)

pub leads_self : (nodes : List Node) (start : ℕ) (all : List Segment) → Leads nodes start all start all
leads_self nodes start all later grown is_greedy = refl

-- the way of a route, by its method and its segments
pub behind_way : {E : Type 0} (nodes new : List Node) (route : Route) (method : List ℕ) (start : ℕ) (segments : List Segment) (result : Result ℕ E) → method ≡ route.method
    → HasChildAt nodes 0 (Literal method) start → Grows nodes new → segments ≡ first_segments 32 route.segments → IfOk result (IsBehind new start segments) → IfOk result (IsBehind new 0 (way_of route))
behind_way nodes new route method start segments (Err e) same has grows is h = tt
behind_way nodes new route method start segments (Ok place) same has grows is h =
    subst (λ (ss : List Segment). IsBehind new 0 ss place) ((λ i. Literal (same i) ∷ is i)) (record {
      leads = λ later grown is_greedy.
          ap (λ (o : Option ℕ). ends_behind later o segments is_greedy) (grown.children 0 (Literal method) start (grows.children 0 (Literal method) start has.here))
          ∙ h.leads later grown is_greedy;
      within = h.within;
    })

-- an entry more at the node of a route
pub end_added : (nodes new : List Node) (route : Route) (place number : ℕ) (was now : Node) (end : Bool) → slice_get nodes place ≡ Some was → new ≡ slice_set nodes place now
    → IsBehind nodes 0 (way_of route) place → end ≡ goes_on route → HasEnd was end number now → Grows nodes new × EndsAt new route number
end_added nodes new route place number was now end is stored behind goes has =
    let grown = subst (Grows nodes) (sym stored) (grows_set nodes place was now is (keeps_end nodes was now end number has)) in
    let here : slice_get new place ≡ Some now = ap (λ (ns : List Node). slice_get ns place) stored ∙ set_here nodes place now (slice_get_within nodes place was is) in
    let ends : ends_at new place end ≡ ends_of was end ++ number ∷ [] = ap (ends_in end) here ∙ has.here in
    let all : ends_behind new (Some 0) (way_of route) end ≡ ends_of was end ++ number ∷ [] = behind.leads new grown end ∙ ends in (
      grown,
      subst (λ (b : Bool). Contains (ends_behind new (Some 0) (way_of route) b) number) goes
          (subst (λ (ns : List ℕ). Contains ns number) (sym all) (Contains-push (ends_of was end) number)),
    )

pub end_not_added : (nodes new : List Node) (place : ℕ) (was now : Node) → slice_get nodes place ≡ Some was → new ≡ slice_set nodes place now → IsAs was now → Grows nodes new
end_not_added nodes new place was now is stored as_it_was = subst (Grows nodes) (sym stored) (grows_set nodes place was now is (keeps_as nodes was now as_it_was))

-- an entry more in the list
pub indexed_more : (nodes : List Node) (entries : List Entry) (last : Entry) → IsIndexed nodes entries → EndsAt nodes last.route (length entries) → IsIndexed nodes (entries ++ last ∷ [])
indexed_more nodes entries last h ends number e is = go (get_pushed entries last number)
  where
    go : (slice_get (entries ++ last ∷ []) number ≡ slice_get entries number) ⊎ ((slice_get entries number ≡ None) × (slice_get (entries ++ last ∷ []) number ≡ Some last) × (number ≡ length entries)) → EndsAt nodes e.route number
    go (inl same) = h number e (sym same ∙ is)
    go (inr at) =
        let same : last ≡ e = cc (sym at.1 ∙ is) in
        subst (λ (x : Entry). EndsAt nodes x.route number) same (subst (λ (n : ℕ). EndsAt nodes last.route n) (sym at.2) ends)

-- what is read at a place
pub read_at : (nodes : List Node) (place : ℕ) (node : Node) → place < length nodes → node ≡ get_or nodes place node → slice_get nodes place ≡ Some node
read_at nodes place node within is = slice_get_read nodes (length nodes) place node refl within is

pub read_before : (old mid : List Node) (leaf : Node) (place : ℕ) (node : Node) → mid ≡ old ++ leaf ∷ [] → place < length old → node ≡ get_or mid place node → slice_get mid place ≡ Some node
read_before old mid leaf place node pushed within is = read_at mid place node (omega (arith, within, ap length pushed ∙ length-append old (leaf ∷ []))) is

-- a child that is there
pub child_there : (nodes : List Node) (place : ℕ) (segment : Segment) (node : Node) (child : ℕ) → place < length nodes → node ≡ get_or nodes place node → Some child ≡ child_of node segment → IsWithin nodes
    → HasChildAt nodes place segment child
child_there nodes place segment node child l is has within =
    let here : child_at nodes place segment ≡ Some child = ap (child_in segment) (read_at nodes place node l is) ∙ sym has in
    record { here = here; within = within place segment child here }

-- the node behind a segment more
pub leads_at : (nodes new : List Node) (start place child : ℕ) (all : List Segment) (stored : List PathSegment) (i : ℕ) (s : PathSegment) → i < length stored → s ≡ get_or stored i s → Grows nodes new
    → Leads nodes start all place (map segment_seen (drop i stored)) → HasChildAt new place (segment_seen s) child → Leads new start all child (map segment_seen (drop (i + 1) stored))
leads_at nodes new start place child all stored i s l is grows h has =
    let rest : drop i stored ≡ s ∷ drop (i + 1) stored = rw (drop_more stored i s l, ← is) refl in
    leads_more nodes new start place child all (segment_seen s) (map segment_seen (drop (i + 1) stored)) grows
    (subst (λ (ps : List PathSegment). Leads nodes start all place (map segment_seen ps)) rest h) has

-- a tree whose nodes grow
pub sound_still : (old new : RouteTree) → IsSound old → Grows old.nodes.items new.nodes.items → new.entries.items ≡ old.entries.items → IsSound new
sound_still old new sound grows same =
    let as_old : entries_of new ≡ entries_of old = ap (map entry_seen) same in
    record {
      apart = subst AreApart (sym as_old) sound.apart;
      within = grows.within sound.within;
      indexed = subst (IsIndexed new.nodes.items) (sym as_old) (indexed_kept old.nodes.items new.nodes.items (entries_of old) grows sound.indexed);
    }

-- a tree with an entry more, or one whose entry found no memory
pub sound_more : {E : Type 0} (old new : RouteTree) (route : Route) (operation : List ℕ) (number : ℕ) (result : Result (Unit {0}) E) → IsSound old → IsRoute route → IsApartFrom route (entries_of old)
    → Grows old.nodes.items new.nodes.items → number ≡ length old.entries.items → EndsAt new.nodes.items route number
    → OnOk result (EntryAdded old.entries.items route operation new.entries.items) → OnErr result (new.entries.items ≡ old.entries.items) → IsSound new
sound_more old new route operation number (Ok u) sound is_route apart grows at ends more same =
    let last : Entry = record { route = route; operation = operation } in
    let here : number ≡ length (entries_of old) = at ∙ sym (length-map old.entries.items entry_seen) in
    record {
      apart = added route operation (entries_of old) (entries_of new) sound.apart is_route apart more;
      within = grows.within sound.within;
      indexed = subst (IsIndexed new.nodes.items) (sym more)
          (indexed_more new.nodes.items (entries_of old) last (indexed_kept old.nodes.items new.nodes.items (entries_of old) grows sound.indexed)
          (subst (λ (n : ℕ). EndsAt new.nodes.items route n) here ends));
    }
sound_more old new route operation number (Err e) sound is_route apart grows at ends more same = sound_still old new sound grows same

-- the first segments of stored ones, and whether there are more
pub first_all : (n : ℕ) (stored : List PathSegment) → length stored ≤ n → map segment_seen stored ≡ first_segments n (map segment_seen stored)
first_all n [] l = refl
first_all zero (s ∷ stored) l = absurd (omega (arith, l))
first_all (suc n) (s ∷ stored) l = ap (λ (ss : List Segment). segment_seen s ∷ ss) (first_all n stored (omega (arith, l)))

pub first_cut : (n : ℕ) (stored : List PathSegment) → map segment_seen (take n stored) ≡ first_segments n (map segment_seen stored)
first_cut zero [] = refl
first_cut (suc n) [] = refl
first_cut zero (s ∷ stored) = refl
first_cut (suc n) (s ∷ stored) = ap (λ (ss : List Segment). segment_seen s ∷ ss) (first_cut n stored)

pub more_there : (n : ℕ) (stored : List PathSegment) → n < length stored → has_more n (map segment_seen stored) ≡ true
more_there n [] l = absurd (omega (arith, l))
more_there zero (s ∷ stored) l = refl
more_there (suc n) (s ∷ stored) l = more_there n stored (omega (arith, l))

pub no_more : (n : ℕ) (stored : List PathSegment) → length stored ≤ n → has_more n (map segment_seen stored) ≡ false
no_more n [] l = refl
no_more zero (s ∷ stored) l = absurd (omega (arith, l))
no_more (suc n) (s ∷ stored) l = no_more n stored (omega (arith, l))

pub ruleset cutting = (first_all, first_cut, more_there, no_more)
