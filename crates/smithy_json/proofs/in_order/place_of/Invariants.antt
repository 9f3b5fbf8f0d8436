use Rattle.std.proofs.Common.{◌≡◌, drop}
use Rattle.smithy_json.specs.views.JsonView.{entries}
use Rattle.smithy_json.specs.PutMembers.{place_of}
use Rattle.smithy_json.proofs.OrderLemmas.{past}
use Rattle.smithy_json.proofs.in_order.place_of.Given as goal

abbrev pub invariant-loop-place : goal.invariant-loop-place
invariant-loop-place l = past l.place (place_of l.name (entries (drop l.place l.members))) ≡ place_of l.name (entries l.members)
