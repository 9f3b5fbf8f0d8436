use Rattle.std.proofs.Common.{◌≡◌, map, take}
use Rattle.smithy_json.specs.views.JsonView.{view}
use Rattle.smithy_job.proofs.keys.are_same.Given as goal

abbrev pub invariant-loop-place : goal.invariant-loop-place
invariant-loop-place l = map view (take l.place l.ones) ≡ map view (take l.place l.others)
