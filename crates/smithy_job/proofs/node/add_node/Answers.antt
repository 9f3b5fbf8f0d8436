use Rattle.std.proofs.Common.{◌++◌, ◌∷◌, [], Some, ap, ◌∙◌}
use Rattle.smithy_ids.specs.ShapeIds.{Parts}
use Rattle.smithy_ids.specs.declared.shape_type.ShapeType.TheVariants.{Document}
use Rattle.smithy_schema.specs.Nodes.{Node, bare_node}
use Rattle.smithy_job.proofs.node.add_node.Goals as goal

pub returns-in-Ok : goal.returns-in-Ok
returns-in-Ok c =
    let node = c.new_unindexed.ensures ∙ ap (λ (p : Parts). record (bare_node p.full_name Document) { member_name = Some c.args.name.now }) c.from_parts-id.ensures in
    c.in-Ok.ensures.ok ∙ ap (λ (n : Node). c.args.nodes.now ++ Some n ∷ []) node
