use Rattle.smithy_wire.proofs.Common.{sym, ◌∙◌}
use Rattle.smithy_serde.proofs.ReadValue.{at_place_table}
use Rattle.smithy_schema.specs.References.{schema_of}
use Rattle.smithy_wire.proofs.standing.place_stands.Goals as goal

pub parts_stand-requires : goal.parts_stand-requires
parts_stand-requires c = c.requires ∙ sym (at_place_table c.args.table.now c.args.place (schema_of c.in-Some.node) (sym c.in-Some.ensures.node))
