use Rattle.std.proofs.Common.{◌≡◌, ◌≤◌, ◌-◌, ◌++◌, drop, length, map}
use Rattle.smithy_json.specs.JsonView.{view}
use Rattle.smithy_job.specs.Common.{Common}
use Rattle.smithy_bind.specs.Outcome.{json_bodies}
use Rattle.smithy_bind.specs.Requesting.{lines_for}
use Rattle.smithy_bind.specs.views.RequestedView.{IsOperation}
use Rattle.smithy_bind.proofs.requested.ReadOperation.lines_by.Given as goal

abbrev pub invariant-loop-done : goal.invariant-loop-done
invariant-loop-done g l = record {
  within : l.done ≤ length l.inputs;
  beside : l.names.table ≡ l.self.common.model.table;
  lines : (is : Common) → IsOperation l.self is
      → l.lines.items ++ lines_for (json_bodies (g.C.Codec.text l.protocol.codec)) is (map view (drop l.done l.inputs)) ≡ lines_for (json_bodies (g.C.Codec.text l.protocol.codec)) is (map view l.inputs);
}

abbrev pub decreases-loop-done : goal.decreases-loop-done
decreases-loop-done g l = length l.inputs - l.done
