use Rattle.smithy_wire.proofs.Common.{◌≡◌}
use Rattle.std.specs.List.{list_all}
use Rattle.smithy_schema.specs.References.{schema_of}
use Rattle.smithy_wire.specs.views.FieldNames.{are_own, is_own}
use Rattle.smithy_wire.specs.views.MemberSteps.{members_from}
use Rattle.smithy_wire.proofs.node_names.are_own.Given as goal

abbrev pub invariant-loop-position : goal.invariant-loop-position
invariant-loop-position l = list_all is_own (members_from (schema_of l.schema) l.position) ≡ are_own (schema_of l.schema)
