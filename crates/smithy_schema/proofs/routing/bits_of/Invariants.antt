use Rattle.std.proofs.Common.{◌≡◌, ◌<◌, ◌≤◌, length, drop}
use Rattle.std.specs.Simd.Lanes.{mask_l}
use Rattle.smithy_schema.specs.Routing.{bound_among}
use Rattle.smithy_schema.specs.views.Places.{places_of}
use Rattle.smithy_schema.specs.views.Stored.{table_stored}
use Rattle.smithy_schema.proofs.routing.bits_of.Given as goal

-- the bits of the members from a position on
abbrev pub invariant-loop-i : goal.invariant-loop-i
invariant-loop-i l = record {
  within : l.i ≤ length l.members;
  bits : l.bits ≡ mask_l (drop l.i (bound_among (table_stored l.nodes) (places_of l.members)));
  few : l.bits < 4611686018427387904;
}

abbrev pub decreases-loop-i : goal.decreases-loop-i
decreases-loop-i l = l.i
