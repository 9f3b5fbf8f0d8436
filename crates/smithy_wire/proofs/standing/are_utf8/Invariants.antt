use Rattle.smithy_wire.proofs.Common.{◌≡◌, drop}
use Rattle.smithy_wire.specs.views.ShownNames.{texts_shown}
use Rattle.std.specs.List.{list_all}
use Rattle.std.specs.Str.{is_utf8}
use Rattle.smithy_wire.proofs.standing.are_utf8.Given as goal

abbrev pub invariant-loop-name : goal.invariant-loop-name
invariant-loop-name l = list_all is_utf8 (texts_shown (drop l.name-index l.names)) ≡ list_all is_utf8 (texts_shown l.names)
