-- The first entry that a new route conflicts with, among those that end where a path of both can lead.
use Rattle.std.specs.Prelude.{ℕ, Bool, false, ltb, ◌&&◌, List, [], ◌∷◌, ◌++◌, length, map, Option, Some, None, option_and_then, slice_get, if◌then◌else◌}
use Prim.Native.Nat.{zero, suc}
use Rattle.std.specs.BTreeMap.{values}
use Rattle.std.specs.Option.{option_map_or}
use Rattle.smithy_router.specs.Deciding.{conflicts}
use Rattle.smithy_router.specs.Routes.{Route}
use Rattle.smithy_router.specs.Seen.{route_seen}
use Rattle.smithy_router.specs.Segments.{Segment, Literal, Hole}
use Rattle.smithy_router.specs.Tree.{child_of, goes_on}
use Rattle.smithy_router.specs.declared.conflict.Newcomer.{Newcomer}
use Rattle.smithy_router.specs.declared.node.Node.{Node}

-- the entry of this number conflicts with the new route
abbrev pub conflicts_at : Newcomer → ℕ → Bool
conflicts_at new number =
    option_map_or (λ e. conflicts (route_seen e.route) (route_seen new.route.now)) (slice_get new.tree.now.entries.items number) false

-- the number, where it is less than the first so far and its entry conflicts
abbrev pub earlier : Newcomer → ℕ → ℕ → ℕ
earlier new first number = if ltb number first && conflicts_at new number then number else first

-- the first so far, or the least of these whose entry conflicts
abbrev pub first_among : Newcomer → ℕ → List ℕ → ℕ
first_among new first [] = first
first_among new first (n ∷ ns) = first_among new (earlier new first n) ns

-- the segments behind the first one
abbrev pub behind : List Segment → List Segment
behind [] = []
behind (s ∷ ss) = ss

-- the literal that the first one is, if it is one
abbrev pub first_literal : List Segment → Option (List ℕ)
first_literal [] = None
first_literal (Hole ∷ ss) = None
first_literal (Literal text ∷ ss) = Some text

-- the children of a node where the first of these segments leads; any, where it is no literal
abbrev pub children_met : Node → List Segment → List (Option ℕ)
children_met node ss =
    node.hole ∷ option_map_or (λ text. child_of node (Literal text) ∷ []) (first_literal ss) (map Some (values node.literals))

-- what each of these places gives
abbrev pub from_each : (Option ℕ → List ℕ) → List (Option ℕ) → List ℕ
from_each f [] = []
from_each f (p ∷ ps) = f p ++ from_each f ps

-- the entries that end at this node, or at most so many levels below it where these segments, and any behind them, lead
abbrev pub met : List Node → ℕ → Option ℕ → List Segment → List ℕ
met nodes zero place ss = option_map_or (λ node. node.greedy.items ++ node.ends.items) (option_and_then (slice_get nodes) place) []
met nodes (suc n) place ss =
    option_map_or (λ node. node.greedy.items ++ (node.ends.items ++ from_each (λ p. met nodes n p (behind ss)) (children_met node ss)))
    (option_and_then (slice_get nodes) place) []

-- the first so far, or the least of these whose entry conflicts
abbrev pub first_below : Newcomer → ℕ → ℕ → Option ℕ → List Segment → ℕ
first_below new first levels place ss = first_among new first (met new.tree.now.nodes.items levels place ss)

-- how many levels below that of its method the routes end that a route may meet
abbrev pub levels_of : Route → ℕ
levels_of route = if goes_on route then 32 else length route.segments
