use Rattle.smithy_document.proofs.Common.{sym, ap, ◌∙◌, subst, is_null_document, TellsNull, hand_of}
use Rattle.smithy_document.proofs.json_deserializer.JsonDeserializerShapeDeserializer.is_null.Goals as goal

pub returns-in-Ok : goal.returns-in-Ok
returns-in-Ok c =
    subst (λ o. TellsNull (hand_of o c.args.self.now.cursor) c.is_null.result) (sym c.in-Ok.is)
    (c.is_null.ensures c.in-Ok.tree.texts ∙ ap is_null_document c.node.ensures)
