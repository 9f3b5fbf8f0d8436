use Rattle.std.proofs.Common.{◌≡◌, map, drop}
use Rattle.smithy_json.specs.JsonView.{view}
use Rattle.smithy_bind.specs.Explaining.{rule_of_items}
use Rattle.smithy_bind.proofs.explaining.items_told.Given as goal

abbrev pub invariant-loop-position : goal.invariant-loop-position
invariant-loop-position l = rule_of_items (view l.job) l.position (map view (drop l.position l.items)) ≡ rule_of_items (view l.job) 0 (map view l.items)
