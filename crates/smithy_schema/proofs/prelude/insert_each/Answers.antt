use Rattle.smithy_schema.proofs.PreludeLemmas.{prelude_grown}
use Rattle.smithy_schema.proofs.prelude.insert_each.Goals as goal

pub loop-kind-preserved : goal.loop-kind-preserved
loop-kind-preserved c = record {
  kinds = c.loop-kind.invariant.kinds;
  nodes = prelude_grown _ _ _ c.loop-kind.kind-index _ c.loop-kind-test.true c.loop-kind.invariant.nodes c.in_ok-insert_kind.ensures.ok;
}
