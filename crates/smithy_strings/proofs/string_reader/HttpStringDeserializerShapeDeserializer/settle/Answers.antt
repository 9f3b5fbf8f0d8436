use Rattle.std.proofs.Common.{refl}
use Rattle.smithy_strings.proofs.ReaderLemmas.{open_settles}
use Rattle.smithy_strings.proofs.string_reader.HttpStringDeserializerShapeDeserializer.settle.Goals as goal

pub returns : goal.returns
returns c = record {
  opened = refl;
  settled = λ above below frame form at. open_settles c.args.self.now.input c.args.self.now.is_read c.args.self.now.list c.args.refusal above below frame at;
}
