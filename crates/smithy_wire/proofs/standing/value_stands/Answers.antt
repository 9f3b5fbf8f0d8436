use Rattle.smithy_wire.proofs.Common.{sym, ap, ◌∙◌}
use Rattle.smithy_schema.specs.References.{schema_of}
use Rattle.smithy_wire.proofs.EachLemmas.{shape_table}
use Rattle.smithy_wire.proofs.standing.value_stands.Goals as goal

pub known_of-requires : goal.known_of-requires
known_of-requires c = c.requires ∙ sym (shape_table (schema_of c.args.node)) ∙ sym (ap (λ s. s.table) c.shape-shape.ensures)
