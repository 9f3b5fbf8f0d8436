use Rattle.smithy_binding.proofs.Common.{◌≡◌, directed_of, listed, writes_in, AreListedDefined, list_of}
use Rattle.smithy_binding.proofs.Codes.{code_in}
use Rattle.smithy_binding.proofs.output.code_value.Given as goal

abbrev pub invariant-loop-node : goal.invariant-loop-node
invariant-loop-node l = record {
  code : code_in (directed_of l.schema) (list_of (listed l.table l.node-iterator)) ≡ code_in (directed_of l.schema) (list_of (writes_in l.table l.writes));
  nodes : AreListedDefined l.table l.node-iterator;
}
