use Rattle.std.proofs.Common.{arith}
use Rattle.smithy_strings.proofs.ReaderLemmas.{element_after}
use Rattle.smithy_strings.proofs.string_reader.HttpStringDeserializerShapeDeserializer.next_element.Goals as goal

pub returns-then-place-len : goal.returns-then-place-len
returns-then-place-len c =
    element_after c.args.self.now.input c.args.self.now.is_read c.args.self.now.list c.in-Some.list c.in-Some.is (omega (arith, c.if-place-len.true, c.len.ensures))
