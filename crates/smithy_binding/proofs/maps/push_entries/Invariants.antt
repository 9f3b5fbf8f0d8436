use Rattle.smithy_binding.proofs.Common.{◌≡◌, ◌++◌, string_bytes, Schema, Table, to_query_map, directed_of, writes_in, pairs_at, query_names, has_key, queries}
use Rattle.smithy_serde.specs.Values.{map}
use Rattle.smithy_binding.proofs.MapEntries.{kept_from}
use Rattle.smithy_binding.proofs.maps.push_entries.Given as goal

abbrev pub invariant-loop-place : goal.invariant-loop-place
invariant-loop-place l =
    (t : Table) (m : Schema) → let ws = writes_in t l.entries in
    string_bytes l.query ++ queries (kept_from (has_key l.names) ws l.place) ≡ string_bytes l.initial.query ++ queries (pairs_at to_query_map (query_names (directed_of l.schema)) m (map ws))
