use Rattle.smithy_binding.proofs.Common.{◌≡◌, ◌++◌, string_bytes, Table, listed, writes_in, list, entry_pairs, queries}
use Rattle.smithy_binding.proofs.maps.push_texts.Given as goal

abbrev pub invariant-loop-text : goal.invariant-loop-text
invariant-loop-text l =
    (t : Table) → string_bytes l.query ++ queries (entry_pairs (l.key, list (listed t l.text-iterator))) ≡ string_bytes l.initial.query ++ queries (entry_pairs (l.key, list (writes_in t l.texts)))
