use Rattle.smithy_wire.proofs.Common.{◌≡◌}
use Rattle.std.specs.List.{list_all}
use Rattle.smithy_schema.specs.References.{schema_of}
use Rattle.smithy_wire.specs.WireNames.{fields_of, is_found}
use Rattle.smithy_wire.specs.views.MemberSteps.{fields_from}
use Rattle.smithy_wire.proofs.standing.are_found.Given as goal

abbrev pub invariant-loop-position : goal.invariant-loop-position
invariant-loop-position l =
    list_all (is_found l.side (schema_of l.schema)) (fields_from l.side (schema_of l.schema) l.position) ≡ list_all (is_found l.side (schema_of l.schema)) (fields_of l.side (schema_of l.schema))
