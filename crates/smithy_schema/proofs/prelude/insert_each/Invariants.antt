use Rattle.std.proofs.Common.{◌≡◌, ◌++◌, map, take, Some}
use Rattle.smithy_schema.specs.PreludeNodes.{prelude_kinds, prelude_nodes}
use Rattle.smithy_schema.proofs.prelude.insert_each.Given as goal

abbrev pub invariant-loop-kind : goal.invariant-loop-kind
invariant-loop-kind l = record {
  kinds : l.kind-items ≡ prelude_kinds;
  nodes : l.table ≡ l.initial.table ++ map Some (take l.kind-index prelude_nodes);
}
