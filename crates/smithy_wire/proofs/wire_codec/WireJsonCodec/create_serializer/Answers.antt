use Rattle.smithy_wire.proofs.Common.{refl}
use Rattle.smithy_document.proofs.RefusalLemmas.{document_by_rule}
use Rattle.smithy_wire.proofs.wire_codec.WireJsonCodec.create_serializer.Goals as goal

pub returns-clause-fresh : goal.returns-clause-fresh
returns-clause-fresh c = record {
  told = c.new.ensures.told;
  unrefused = c.new.ensures.unrefused;
  lists = c.new.ensures.lists;
  same_text = refl;
  is_lawful = λ h. document_by_rule;
}
