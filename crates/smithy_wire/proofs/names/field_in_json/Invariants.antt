use Rattle.smithy_wire.proofs.Common.{◌≡◌}
use Rattle.smithy_schema.specs.References.{schema_of}
use Rattle.smithy_wire.specs.WireNames.{field_in_json}
use Rattle.smithy_wire.specs.views.MemberSteps.{json_from}
use Rattle.smithy_wire.proofs.names.field_in_json.Given as goal

abbrev pub invariant-loop-position : goal.invariant-loop-position
invariant-loop-position l = json_from l.side l.name (schema_of l.schema) l.position ≡ field_in_json l.side (schema_of l.schema) l.name
