use Rattle.std.proofs.Common.{◌≡◌, drop, None}
use Rattle.smithy_schema.specs.views.DescribedTraits.{text_of}
use Rattle.smithy_schema.specs.views.MemberNames.{ascend, names_in}
use Rattle.smithy_schema.specs.views.Places.{places_of}
use Rattle.smithy_schema.specs.views.Stored.{table_stored}
use Rattle.smithy_schema.proofs.member_names.names_ascend.Given as goal

-- the names ascend where those that are left do, behind the one before
abbrev pub invariant-loop-member : goal.invariant-loop-member
invariant-loop-member l =
    ascend None (names_in (table_stored l.nodes) (places_of l.members)) ≡ ascend (text_of l.before) (names_in (table_stored l.nodes) (drop l.member-index (places_of l.members)))
