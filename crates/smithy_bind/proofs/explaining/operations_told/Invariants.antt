use Rattle.std.proofs.Common.{◌≡◌, drop, map, None, option_map}
use Rattle.smithy_json.specs.JsonView.{view}
use Rattle.smithy_types.specs.Results.{each}
use Rattle.smithy_job.specs.RoutingView.{all_named, operation_by}
use Rattle.smithy_bind.specs.views.ExplainingView.{told_or, told_seen}
use Rattle.smithy_bind.proofs.explaining.operations_told.Given as goal

abbrev pub invariant-loop-name : goal.invariant-loop-name
invariant-loop-name l =
    option_map (told_or (told_seen l.told)) (each (operation_by l.operations) (map view (drop l.name-index l.names))) ≡ option_map (told_or None) (all_named l.operations)
