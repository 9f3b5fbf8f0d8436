use Rattle.smithy_wire.proofs.Common.{◌≡◌, ◌++◌, flat_map}
use Rattle.smithy_schema.specs.References.{schema_of}
use Rattle.smithy_wire.specs.WireNames.{field_names, names_of}
use Rattle.smithy_wire.specs.views.MemberSteps.{fields_from}
use Rattle.smithy_wire.specs.views.ShownNames.{texts_shown}
use Rattle.smithy_wire.proofs.standing.field_names.Given as goal

abbrev pub invariant-loop-position : goal.invariant-loop-position
invariant-loop-position l = texts_shown l.names.items ++ flat_map names_of (fields_from l.side (schema_of l.schema) l.position) ≡ field_names l.side (schema_of l.schema)
