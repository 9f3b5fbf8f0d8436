use Rattle.smithy_wire.proofs.Common.{◌∙◌, subst, option_map}
use Rattle.smithy_document.specs.views.Finished.{IsOneDocument}
use Rattle.smithy_types.specs.DocumentView.{view}
use Rattle.smithy_wire.specs.WireText.{wire_text}
use Rattle.smithy_wire.specs.views.WireOf.{form_in, names_in}
use Rattle.smithy_wire.proofs.FinishedTexts.{some_finished, none_finished}
use Rattle.smithy_wire.proofs.wire_serializer.WireSerializerFinishSerializer.finish.Goals as goal

pub returns-in_ok-wire_blob-in-Some : goal.returns-in_ok-wire_blob-in-Some
returns-in_ok-wire_blob-in-Some c = (
  c.in_ok-document.ensures.unrefused,
  λ lawful s h. some_finished (wire_text (names_in c.args.self.wire) (form_in c.args.self.wire)) s.current (view c.in-Some.document) _
      (subst (λ o. IsOneDocument s.current (option_map view o)) c.in-Some.is (c.in_ok-document.ensures.document s h)) c.in_ok-wire_blob-in-Some.ensures,
)

pub returns-in-None : goal.returns-in-None
returns-in-None c = (
  c.in_ok-document.ensures.unrefused,
  λ lawful s h. none_finished (wire_text (names_in c.args.self.wire) (form_in c.args.self.wire)) s.current _
      (subst (λ o. IsOneDocument s.current (option_map view o)) c.in-None.is (c.in_ok-document.ensures.document s h)) (c.from_vec.ensures ∙ c.new.ensures.items),
)
