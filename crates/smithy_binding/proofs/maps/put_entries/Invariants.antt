use Rattle.smithy_binding.proofs.Common.{◌≡◌, to_prefix, directed_of, writes_in, put_all, inserted_at, pairs_fault}
use Rattle.smithy_serde.specs.Values.{map}
use Rattle.smithy_binding.proofs.MapEntries.{headers_from}
use Rattle.smithy_binding.proofs.maps.put_entries.Given as goal

abbrev pub invariant-loop-place : goal.invariant-loop-place
invariant-loop-place l =
    let m = directed_of l.member in
    let ws = writes_in l.table l.entries in
    record {
      legal : pairs_fault m (headers_from l.prefix ws l.place) ≡ pairs_fault m (inserted_at (to_prefix l.prefix) m (map ws));
      put : put_all l.headers (headers_from l.prefix ws l.place) ≡ put_all l.initial.headers (inserted_at (to_prefix l.prefix) m (map ws));
    }
