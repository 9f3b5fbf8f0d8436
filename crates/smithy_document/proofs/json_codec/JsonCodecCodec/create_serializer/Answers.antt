use Rattle.smithy_document.proofs.Common.{refl, sym, ap, length, subst, empty_state}
use Rattle.smithy_document.proofs.RefusalLemmas.{document_by_rule}
use Rattle.smithy_document.proofs.JsonCalls.{new_stands}
use Rattle.smithy_document.specs.views.JsonStanding.{WritesAs, JsonStandsFor}
use Rattle.smithy_document.proofs.json_codec.JsonCodecCodec.create_serializer.Goals as goal

pub returns-clause-fresh : goal.returns-clause-fresh
unfolding JsonStandsFor
returns-clause-fresh c = record {
  told = subst (λ r. WritesAs c.new.result r empty_state) (sym c.new-2.ensures) (new_stands c.new.result c.new.ensures);
  unrefused = c.new-2.ensures;
  lists = ap length c.new.ensures.around;
  same_text = refl;
  is_lawful = λ h. document_by_rule;
}
