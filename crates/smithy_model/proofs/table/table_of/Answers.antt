use Rattle.std.proofs.Common.{◌≡◌, ◌+◌, ◌∙◌, refl, sym, ap, length, map}
use Rattle.std.proofs.lemmas.List.{length-map}
use Rattle.smithy_model.specs.Nodes.{member_count}
use Rattle.smithy_model.specs.views.ModelView.{shape_view}
use Rattle.smithy_model.specs.views.SpotView.{spot_view}
use Rattle.smithy_model.specs.views.NodeView.{spots_of}
use Rattle.smithy_model.proofs.TableLemmas.{schema-placed}
use Rattle.smithy_model.proofs.table.table_of.Goals as goal

pub returns : goal.returns
returns c =
    let xs = c.args.reached.now.shapes.items in
    let shapes = map shape_view xs in
    let behind : c.in_ok-natural.natural ≡ member_count shapes + length shapes =
    c.in_ok-natural.ensures ∙ ap (λ ys. c.in_ok-spots.spots.first + length ys) c.as_slice.ensures.value ∙ ap (λ n. n + length xs) c.in_ok-spots.ensures.first ∙ ap (λ n. member_count shapes + n) (sym (length-map xs shape_view)) in
    schema-placed shapes c.args.name.now (spots_of c.in_ok-spots.spots) (spot_view c.in-Some.spot) c.in_ok-natural.natural c.in_ok-table.table _
    c.in_ok-spots.ensures.are (sym c.in-Some.ensures) behind c.in_ok-table.ensures c.in_ok-define_natural.ensures refl refl
