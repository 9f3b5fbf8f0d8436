use Rattle.std.proofs.Common.{◌≡◌, ◌+◌, ◌∙◌, sym, ap, subst, length, map, []}
use Rattle.std.specs.List.{list_all}
use Rattle.std.proofs.lemmas.List.{length-map}
use Rattle.smithy_ids.specs.ShapeIds.{has_hash}
use Rattle.smithy_model.specs.Nodes.{member_count, member_nodes}
use Rattle.smithy_model.specs.views.ModelView.{shape_view}
use Rattle.smithy_model.specs.views.NodeView.{spots_of, filled, IsFilled}
use Rattle.smithy_model.proofs.SpotLemmas.{spots-hashes}
use Rattle.smithy_model.proofs.TableLemmas.{table-filled}
use Rattle.smithy_model.proofs.table.shapes_table.Goals as goal

pub define_shapes-requires : goal.define_shapes-requires
define_shapes-requires c =
    let shapes = map shape_view c.args.reached.now.shapes.items in
    ap (list_all (λ s. has_hash s.shape.name)) c.requires.spots.are ∙ spots-hashes 0 (member_count shapes) shapes ∙ c.requires.whole.named

pub returns : goal.returns
returns c =
    let shapes = map shape_view c.args.reached.now.shapes.items in
    let ss = spots_of c.args.spots.now in
    let first = c.args.spots.now.first in
    let given = c.as_slice-shapes.ensures.value in
    let index : c.in_ok-index.index ≡ first + length shapes =
    c.in_ok-index.ensures ∙ ap (λ xs. first + length xs) given ∙ ap (λ n. first + n) (sym (length-map c.args.reached.now.shapes.items shape_view)) in
    let start = c.in_ok-table.ensures ∙ ap (filled []) c.in_ok-index_behind.ensures in
    let members = subst (λ xs. IsFilled 0 c.in_ok-table.table c.define_all_members.new.table (member_nodes ss (map shape_view xs))) given c.in_ok-define_all_members.ensures in
    table-filled shapes ss first c.in_ok-index.index c.args.further c.in_ok-table.table c.define_all_members.new.table c.define_shapes.new.table c.requires.spots.are c.requires.spots.first
    index start members c.in_ok-define_shapes.ensures
