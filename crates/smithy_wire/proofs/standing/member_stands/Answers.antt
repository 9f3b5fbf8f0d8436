use Rattle.smithy_wire.proofs.Common.{sym, ◌∙◌}
use Rattle.smithy_schema.specs.References.{schema_of}
use Rattle.smithy_wire.proofs.EachLemmas.{member_table}
use Rattle.smithy_wire.proofs.standing.member_stands.Goals as goal

pub value_stands-requires : goal.value_stands-requires
value_stands-requires c = c.requires ∙ sym (member_table (schema_of c.args.schema) c.args.position (schema_of c.in-Some.member) c.in-Some.ensures.node)
