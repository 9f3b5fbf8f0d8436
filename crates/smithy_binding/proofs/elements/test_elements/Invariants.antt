use Rattle.smithy_binding.proofs.Common.{◌≡◌, schema_of, listed, writes_in, element_fault}
use Rattle.smithy_binding.proofs.elements.test_elements.Given as goal

abbrev pub invariant-loop-value : goal.invariant-loop-value
invariant-loop-value l = element_fault (schema_of l.member) l.kind (listed l.table l.value-iterator) ≡ element_fault (schema_of l.member) l.kind (writes_in l.table l.elements)
