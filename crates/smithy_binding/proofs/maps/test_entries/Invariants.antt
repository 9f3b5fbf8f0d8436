use Rattle.smithy_binding.proofs.Common.{◌≡◌, option_map, key_of, value_of, schema_of, listed, writes_in, entry_fault}
use Rattle.smithy_binding.proofs.maps.test_entries.Given as goal

abbrev pub invariant-loop-value : goal.invariant-loop-value
invariant-loop-value l =
    let m = schema_of l.member in
    entry_fault m (option_map schema_of l.node) (option_map schema_of l.next) (listed l.table l.value-iterator) ≡ entry_fault m (key_of m) (value_of m) (writes_in l.table l.entries)
