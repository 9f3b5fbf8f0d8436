use Rattle.smithy_binding.proofs.Common.{◌≡◌, ◌||◌, ℕ, List, is_one_of, directed_of, query_names, has_key}
use Rattle.smithy_binding.proofs.MapEntries.{names_from}
use Rattle.smithy_binding.proofs.maps.query_names.Given as goal

abbrev pub invariant-loop-position : goal.invariant-loop-position
invariant-loop-position l =
    (name : List ℕ) → (has_key l.names name || is_one_of name (names_from (directed_of l.schema) l.position)) ≡ is_one_of name (query_names (directed_of l.schema))
