use Rattle.std.proofs.Common.{◌≡◌, drop}
use Rattle.smithy_schema.specs.views.Places.{places_of}
use Rattle.smithy_schema.specs.views.Stored.{table_stored}
use Rattle.smithy_schema.specs.Defining.{members_fault}
use Rattle.smithy_schema.proofs.defining.first_fault.Given as goal

abbrev pub invariant-loop-position : goal.invariant-loop-position
invariant-loop-position l =
    members_fault (table_stored l.nodes) 0 (places_of l.members) ≡ members_fault (table_stored l.nodes) l.position (drop l.position (places_of l.members))
