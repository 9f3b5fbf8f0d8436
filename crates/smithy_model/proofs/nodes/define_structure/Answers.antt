use Rattle.std.proofs.Common.{◌∙◌, sym, subst, OnOk, [], ◌∷◌}
use Rattle.std.proofs.lemmas.List.{length-map}
use Rattle.smithy_model.specs.views.ModelView.{member_view}
use Rattle.smithy_model.specs.views.SpotView.{spot_view}
use Rattle.smithy_model.specs.views.NodeView.{spots_of, IsFilledBy}
use Rattle.smithy_model.proofs.NodeLemmas.{structure-node}
use Rattle.smithy_model.proofs.nodes.define_structure.Goals as goal

pub returns : goal.returns
returns c =
    let count = length-map c.args.spot.shape.now.members.items member_view in
    let node = structure-node (spots_of c.args.spots.now) (spot_view c.args.spot) c.requires.structure in
    let made = rw (c.with_flag-schema.ensures, c.with_payload_hint-schema.ensures, c.new_struct.ensures, c.as_slice.ensures.value, c.in_ok-indexes.ensures, c.shape_id.ensures, c.hint_of.ensures, c.are_outside.ensures, c.copied.ensures, c.as_slice-members.ensures.value, ← count) at c.in_ok-schema.ensures in
    subst (λ n. OnOk c.define.result (IsFilledBy c.args.index (n ∷ []) c.args.table.now c.define.new.table)) (made ∙ sym node) c.define.ensures
