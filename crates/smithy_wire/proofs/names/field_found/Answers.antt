use Rattle.smithy_schema.specs.References.{schema_of}
use Rattle.smithy_wire.proofs.FieldLemmas.{found_at}
use Rattle.smithy_wire.proofs.names.field_found.Goals as goal

pub returns-in-Some : goal.returns-in-Some
returns-in-Some c = found_at c.args.side (schema_of c.args.schema) c.args.position c.args.name.now (schema_of c.in-Some.member) c.requires c.in-Some.ensures
