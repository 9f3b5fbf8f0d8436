use Rattle.std.proofs.Common.{◌≡◌, drop}
use Rattle.std.specs.List.{list_any}
use Rattle.smithy_schema.specs.Routing.{bound_among}
use Rattle.smithy_schema.specs.views.Places.{places_of}
use Rattle.smithy_schema.specs.views.Routed.{is_as}
use Rattle.smithy_schema.specs.views.Stored.{table_stored}
use Rattle.smithy_schema.proofs.routing.has_some.Given as goal

-- the members before a position are not as it is asked for
abbrev pub invariant-loop-member : goal.invariant-loop-member
invariant-loop-member l =
    list_any (is_as l.bound) (bound_among (table_stored l.nodes) (places_of l.members)) ≡ list_any (is_as l.bound) (drop l.member-index (bound_among (table_stored l.nodes) (places_of l.members)))
