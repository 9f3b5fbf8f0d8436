use Rattle.smithy_document.proofs.Common.{◌≡◌, sym, ap, ◌∙◌, subst, size_over}
use Rattle.smithy_document.specs.Sizes.{container_size}
use Rattle.smithy_document.proofs.json_deserializer.JsonDeserializerShapeDeserializer.container_size.Goals as goal

pub returns-in-Ok : goal.returns-in-Ok
returns-in-Ok c =
    subst (λ o. c.container_size.result ≡ size_over o c.args.self.now.cursor) (sym c.in-Ok.is)
    (c.container_size.ensures c.in-Ok.tree.texts ∙ ap container_size c.node.ensures)
