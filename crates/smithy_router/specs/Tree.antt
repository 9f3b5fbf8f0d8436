-- The tree of a list of routes: a node for each beginning of a method and segments, told by its place among the nodes; the
-- first one is the root. An entry is told by its number, its place in the list.
use Rattle.std.specs.Prelude.{◌≡◌, ℕ, ◌<◌, ◌≤◌, Bool, true, false, List, [], ◌∷◌, ◌++◌, ◌||◌, length, map, slice_get, Option, Some, None, option_and_then, Result, ◌⊎◌}
use Rattle.std.specs.BTreeMap.{get_by_text}
use Rattle.std.specs.List.{Contains}
use Prim.Native.Nat.{zero, suc}
use Rattle.std.specs.Option.{option_map_or}
use Rattle.smithy_router.specs.Segments.{Segment, Literal, Hole}
use Rattle.smithy_router.specs.Routes.{Route}
use Rattle.smithy_router.specs.Tables.{Entry, AreApart}
use Rattle.smithy_router.specs.Adding.{AddsRoute, AddsTemplate}
use Rattle.smithy_router.specs.Seen.{entry_seen, EntryAdded}
use Rattle.smithy_router.specs.declared.error.RouteError.{RouteError}
use Rattle.smithy_router.specs.declared.node.Node.{Node}
use Rattle.smithy_router.specs.declared.tree.RouteTree.{RouteTree}

-- the child of a node behind a segment
abbrev pub child_of : Node → Segment → Option ℕ
child_of node (Literal text) = get_by_text node.literals text
child_of node Hole = node.hole

-- the entries that end at a node, with or without a greedy end
abbrev pub ends_of : Node → Bool → List ℕ
ends_of node true = node.greedy.items
ends_of node false = node.ends.items

-- the same of the node at a place
abbrev pub child_at : List Node → ℕ → Segment → Option ℕ
child_at nodes place segment = option_and_then (λ node. child_of node segment) (slice_get nodes place)

abbrev pub ends_at : List Node → ℕ → Bool → List ℕ
ends_at nodes place is_greedy = option_map_or (λ node. ends_of node is_greedy) (slice_get nodes place) []

-- the entries that end behind these segments from a node
abbrev pub ends_behind : List Node → Option ℕ → List Segment → Bool → List ℕ
ends_behind nodes None segments is_greedy = []
ends_behind nodes (Some place) [] is_greedy = ends_at nodes place is_greedy
ends_behind nodes (Some place) (s ∷ ss) is_greedy = ends_behind nodes (child_at nodes place s) ss is_greedy

-- the entries that these segments of a target lead to from a node: behind each segment the child of its literal and that
-- of a hole, and each greedy end on the way
abbrev pub led_to : List Node → Option ℕ → List (List ℕ) → List ℕ
led_to nodes None segments = []
led_to nodes (Some place) [] = ends_at nodes place false
led_to nodes (Some place) (s ∷ ss) =
    ends_at nodes place true
    ++ (led_to nodes (child_at nodes place (Literal s)) ss ++ led_to nodes (child_at nodes place Hole) ss)

-- so many segments, or all where there are fewer
abbrev pub first_segments : ℕ → List Segment → List Segment
first_segments n [] = []
first_segments zero (s ∷ ss) = []
first_segments (suc n) (s ∷ ss) = s ∷ first_segments n ss

-- there are more than so many
abbrev pub has_more : ℕ → List Segment → Bool
has_more n [] = false
has_more zero (s ∷ ss) = true
has_more (suc n) (s ∷ ss) = has_more n ss

-- the way of a route from the root: its method, and then its first 32 segments
abbrev pub way_of : Route → List Segment
way_of route = Literal route.method ∷ first_segments 32 route.segments

-- the route goes on behind its way: it has more segments or a greedy end
abbrev pub goes_on : Route → Bool
goes_on route = has_more 32 route.segments || route.is_greedy

-- the entry of this number ends at the node of this route
abbrev pub EndsAt : List Node → Route → ℕ → Type 0
EndsAt nodes route number = Contains (ends_behind nodes (Some 0) (way_of route) (goes_on route)) number

-- each entry of a list ends at the node of its route
abbrev pub IsIndexed : List Node → List Entry → Type 0
IsIndexed nodes entries = (number : ℕ) (e : Entry) → slice_get entries number ≡ Some e → EndsAt nodes e.route number

-- each child is a node
abbrev pub IsWithin : List Node → Type 0
IsWithin nodes = (place : ℕ) (s : Segment) (child : ℕ) → child_at nodes place s ≡ Some child → child < length nodes

-- nodes keep their children and their entries
pub record Grows (old : List Node) (new : List Node) : Type 0 where
  pub longer : length old ≤ length new
  pub children : (place : ℕ) (s : Segment) (child : ℕ) → child_at old place s ≡ Some child → child_at new place s ≡ Some child
  pub ends : (place : ℕ) (is_greedy : Bool) (number : ℕ) → Contains (ends_at old place is_greedy) number → Contains (ends_at new place is_greedy) number
  pub within : IsWithin old → IsWithin new

-- a node with this child more, or in the place of another
pub record HasChild (old : Node) (segment : Segment) (child : ℕ) (new : Node) : Type 0 where
  pub here : child_of new segment ≡ Some child
  pub others : (s : Segment) → (s ≡ segment) ⊎ (child_of new s ≡ child_of old s)
  pub ends : (is_greedy : Bool) → ends_of new is_greedy ≡ ends_of old is_greedy

-- a node with this entry more
pub record HasEnd (old : Node) (is_greedy : Bool) (number : ℕ) (new : Node) : Type 0 where
  pub children : (s : Segment) → child_of new s ≡ child_of old s
  pub ends : (b : Bool) → (ends_of new b ≡ ends_of old b) ⊎ (ends_of new b ≡ ends_of old b ++ number ∷ [])
  pub here : ends_of new is_greedy ≡ ends_of old is_greedy ++ number ∷ []

-- a node that is as another
pub record IsAs (old : Node) (new : Node) : Type 0 where
  pub children : (s : Segment) → child_of new s ≡ child_of old s
  pub ends : (is_greedy : Bool) → ends_of new is_greedy ≡ ends_of old is_greedy

-- a node without children
abbrev pub IsLeaf : Node → Type 0
IsLeaf node = (s : Segment) → child_of node s ≡ None

-- the child of a node behind a segment, which is a node
pub record HasChildAt (nodes : List Node) (place : ℕ) (segment : Segment) (child : ℕ) : Type 0 where
  pub here : child_at nodes place segment ≡ Some child
  pub within : child < length nodes

-- in all that the nodes grow to, what ends behind these segments from one node ends behind those from another
abbrev pub Leads : List Node → ℕ → List Segment → ℕ → List Segment → Type 0
Leads nodes start segments place rest =
    (later : List Node) → Grows nodes later → (is_greedy : Bool)
    → ends_behind later (Some start) segments is_greedy ≡ ends_behind later (Some place) rest is_greedy

-- the node behind these segments from another
pub record IsBehind (nodes : List Node) (start : ℕ) (segments : List Segment) (place : ℕ) : Type 0 where
  pub leads : Leads nodes start segments place []
  pub within : place < length nodes

abbrev pub entries_of : RouteTree → List Entry
entries_of tree = map entry_seen tree.entries.items

-- no two routes of the list conflict, and each stands in the tree
pub record IsSound (tree : RouteTree) : Type 0 where
  pub apart : AreApart (entries_of tree)
  pub within : IsWithin tree.nodes.items
  pub indexed : IsIndexed tree.nodes.items (entries_of tree)

-- a tree with the entry of a route as its last one
abbrev pub HasEntry : RouteTree → Route → List ℕ → RouteTree → Type 0
HasEntry old route operation new = EntryAdded old.entries.items route operation new.entries.items

-- the outcome of adding a route to a tree, or a template by its route
abbrev pub RouteAdded : RouteTree → Route → List ℕ → RouteTree → Result (Unit {0}) RouteError → Type 0
RouteAdded old route operation new result = AddsRoute (entries_of old) route operation (entries_of new) result

abbrev pub TemplateAdded : RouteTree → Option Route → List ℕ → RouteTree → Result (Unit {0}) RouteError → Type 0
TemplateAdded old route operation new result = AddsTemplate (entries_of old) route operation (entries_of new) result
