use Rattle.std.proofs.Common.{◌≡◌, drop, map}
use Rattle.smithy_json.specs.JsonView.{view}
use Rattle.smithy_job.specs.RoutingView.{operation_by}
use Rattle.smithy_bind.specs.views.RoutedView.{added_seen, routes_along, routes_named}
use Rattle.smithy_bind.proofs.routed.routes_of.Given as goal

abbrev pub invariant-loop-name : goal.invariant-loop-name
invariant-loop-name l = routes_along (operation_by l.operations) (added_seen l.added) (map view (drop l.name-index l.names)) ≡ routes_named l.operations
