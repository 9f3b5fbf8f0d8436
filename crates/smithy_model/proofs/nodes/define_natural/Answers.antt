use Rattle.std.proofs.Common.{◌∙◌, ap, subst, OnOk, [], ◌∷◌}
use Rattle.smithy_ids.specs.declared.shape_type.ShapeType.TheVariants.{Document}
use Rattle.smithy_schema.specs.Nodes.{bare_node}
use Rattle.smithy_model.specs.views.NodeView.{IsFilledBy}
use Rattle.smithy_model.proofs.nodes.define_natural.Goals as goal

pub returns : goal.returns
returns c =
    let node = c.new.ensures ∙ ap (λ name. bare_node name Document) c.shape_id-id.ensures in
    subst (λ n. OnOk c.define.result (IsFilledBy c.args.index (n ∷ []) c.args.table.now c.define.new.table)) node c.define.ensures
