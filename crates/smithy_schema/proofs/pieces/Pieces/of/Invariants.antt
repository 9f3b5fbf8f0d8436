use Rattle.std.proofs.Common.{◌≡◌, ◌++◌, length}
use Rattle.smithy_schema.specs.Templates.{pieces}
use Rattle.smithy_schema.specs.views.Pieces.{in_turn}
use Rattle.smithy_schema.proofs.pieces.Pieces.of.Given as goal
use denote.Shadow.{shadow}
use denote.Text.{Utf8}

-- the pieces so far, and those of what is left
abbrev pub invariant-loop-hole : goal.invariant-loop-hole
invariant-loop-hole l = record {
  text : shadow (Utf8 l.rest);
  all : l.pieces.items ++ in_turn (pieces l.rest) ≡ in_turn (pieces l.template);
}

abbrev pub decreases-loop-hole : goal.decreases-loop-hole
decreases-loop-hole l = length l.rest
