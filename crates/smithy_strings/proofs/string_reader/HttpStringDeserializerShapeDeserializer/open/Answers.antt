use Rattle.smithy_schema.specs.References.{schema_of}
use Rattle.smithy_strings.proofs.ReaderLemmas.{opened}
use Rattle.smithy_strings.proofs.string_reader.HttpStringDeserializerShapeDeserializer.open.Goals as goal

pub returns-clause-opens : goal.returns-clause-opens
returns-clause-opens c =
    let can = c.in_default.ensures in
    opened c.args.group c.args.self.now.input c.args.self.now.is_read c.args.self.now.list (schema_of c.args._schema) can.text can.texts can.is_list can.none_open can.is_text can.spells
