use Rattle.std.proofs.Common.{◌≡◌, ◌+◌, drop}
use Rattle.smithy_json.specs.JsonEnd.{front_from, json_end}
use Rattle.smithy_json.proofs.ending.json_end.Given as goal

abbrev pub invariant-loop-index : goal.invariant-loop-index
invariant-loop-index l = l.index + front_from l.opened.items l.place (drop l.index l.bytes) ≡ json_end l.bytes
