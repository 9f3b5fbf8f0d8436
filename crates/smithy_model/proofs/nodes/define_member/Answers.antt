use Rattle.smithy_ids.specs.ShapeIds.{is_hash}
use Rattle.smithy_model.proofs.Lists.{list_any_front}
use Rattle.smithy_model.proofs.nodes.define_member.Goals as goal

pub shape_id-requires : goal.shape_id-requires
shape_id-requires c = rw (c.as_str.ensures.value, c.in_ok-put_member_id.ensures) (list_any_front is_hash c.args.shape.now _ c.requires)
