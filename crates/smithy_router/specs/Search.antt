-- The best one of the entries that a target leads to.
use Rattle.std.specs.Prelude.{ℕ, List, [], ◌∷◌, slice_get, Option}
use Rattle.std.specs.Option.{option_map_or}
use Rattle.smithy_router.specs.Tables.{Entry, better}
use Rattle.smithy_router.specs.Tree.{led_to, entries_of}
use Rattle.smithy_router.specs.declared.search.Search.{Search}

-- the better one of the best so far and the entry of a number
abbrev pub better_of : List ℕ → List ℕ → List Entry → Option Entry → ℕ → Option Entry
better_of method target entries best number =
    option_map_or (λ e. better method target best e) (slice_get entries number) best

-- the best of what was the best before and the entries of these numbers, in order
abbrev pub best_of : List ℕ → List ℕ → List Entry → Option Entry → List ℕ → Option Entry
best_of method target entries best [] = best
best_of method target entries best (n ∷ ns) = best_of method target entries (better_of method target entries best n) ns

-- the same in a search
abbrev pub best_among : Search → Option Entry → List ℕ → Option Entry
best_among search best numbers = best_of search.method.now search.target.now (entries_of search.tree.now) best numbers

-- the best of what was the best before and what these segments lead to from a node
abbrev pub best_below : Search → Option Entry → Option ℕ → List (List ℕ) → Option Entry
best_below search best place segments = best_among search best (led_to search.tree.now.nodes.items place segments)
