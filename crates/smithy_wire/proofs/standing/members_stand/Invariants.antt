use Rattle.smithy_wire.proofs.Common.{◌≡◌}
use Rattle.std.specs.List.{list_all}
use Rattle.smithy_schema.specs.Nodes.{members_of}
use Rattle.smithy_schema.specs.References.{schema_of}
use Rattle.smithy_wire.specs.WireNames.{value_stands}
use Rattle.smithy_wire.specs.views.MemberSteps.{members_from}
use Rattle.smithy_wire.proofs.standing.members_stand.Given as goal

abbrev pub invariant-loop-position : goal.invariant-loop-position
invariant-loop-position l = list_all value_stands (members_from (schema_of l.schema) l.position) ≡ list_all value_stands (members_of (schema_of l.schema))
