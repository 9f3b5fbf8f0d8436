use Rattle.std.proofs.Common.{◌≡◌, drop, find, map}
use Rattle.smithy_json.specs.JsonView.{view}
use Rattle.smithy_bind.specs.views.RoutedView.{is_named}
use Rattle.smithy_bind.proofs.routed.text_named.Given as goal

abbrev pub invariant-loop-text : goal.invariant-loop-text
invariant-loop-text l = find (is_named l.name) (map view (drop l.text-index l.names)) ≡ find (is_named l.name) (map view l.names)
