use Rattle.std.proofs.Common.{◌∙◌, ap, not, subst}
use Rattle.smithy_schema.specs.References.{schema_of}
use Rattle.smithy_strings.specs.StringReading.{ReadsLeft}
use Rattle.smithy_strings.proofs.ReaderLemmas.{text_reads, refused_reads}
use Rattle.smithy_strings.proofs.string_reader.HttpStringDeserializerShapeDeserializer.read.Goals as goal

pub returns-then-is_none-clause-reads : goal.returns-then-is_none-clause-reads
returns-then-is_none-clause-reads c =
    refused_reads c.args.self.now.input c.args.self.now.is_read c.args.self.now.list c.args.kind (schema_of c.args.schema) _ (c.is_none.ensures ∙ ap not c.if-is_none.true) c.not_utf8.ensures

pub returns-clause-reads : goal.returns-clause-reads
returns-clause-reads c =
    text_reads c.args.self.now.input c.args.self.now.is_read c.args.self.now.list c.args.kind (schema_of c.args.schema) _ _ (c.is_none.ensures ∙ ap not c.if-is_none.false)
    c.use_text.ensures.opened c.use_text.ensures.levels (subst (λ t. ReadsLeft c.args.kind t c.read_left-read.result) c.left.ensures c.read_left-read.ensures)
