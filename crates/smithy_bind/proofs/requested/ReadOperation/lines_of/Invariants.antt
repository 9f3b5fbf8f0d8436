use Rattle.std.proofs.Common.{◌≡◌, ◌++◌, map, IfSome}
use Rattle.std.specs.List.{AllByRecursion}
use Rattle.std.specs.Vec.Iter.{into_iter_items}
use Rattle.smithy_serde.specs.StoredValues.{AreDefined}
use Rattle.smithy_job.specs.Common.{Common}
use Rattle.smithy_job.specs.CommonView.{writes_seen}
use Rattle.smithy_bind.specs.views.RequestedView.{answer_with, lines_with, IsOperation}
use Rattle.smithy_bind.proofs.requested.ReadOperation.lines_of.Given as goal

abbrev pub invariant-loop-writes : goal.invariant-loop-writes
invariant-loop-writes g l = record {
  can : (goal.iterator-loop-writes g).can_next l.writes-iterator;
  finite : (goal.iterator-loop-writes g).is_finite l.writes-iterator;
  defined : AllByRecursion (λ w. IfSome w (AreDefined l.nodes)) (into_iter_items l.writes-iterator);
  beside : l.names.table ≡ l.self.common.model.table;
  lines : (is : Common) → IsOperation l.self is
      → l.lines.items ++ lines_with (answer_with (g.C.Codec.text l.protocol.codec) is) (map (writes_seen l.nodes) (into_iter_items l.writes-iterator))
      ≡ l.fn.lines.items ++ lines_with (answer_with (g.C.Codec.text l.protocol.codec) is) (map (writes_seen l.nodes) l.fn.each.items);
}
