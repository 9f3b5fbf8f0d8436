use Rattle.std.proofs.Common.{◌∙◌, ap, Some, None}
use Rattle.std.specs.List.{slice_get}
use Rattle.smithy_model.specs.views.NodeView.{spots_of}
use Rattle.smithy_model.proofs.Items.{item_at}
use Rattle.smithy_model.proofs.SpotLemmas.{spot_found, spot_none}
use Rattle.smithy_model.proofs.passed.spot_named.Goals as goal

pub returns-in_err-position : goal.returns-in_err-position
returns-in_err-position c =
    rw c.from_residual.ensures (spot_none (spots_of c.args.spots.now) c.args.name.now (c.in_err-position.ensures.value ∙ c.args.spots.now.located c.args.name.now))

pub returns-in-Some : goal.returns-in-Some
returns-in-Some c =
    let position = c.in_ok-position.field-0.now in
    let there = (rw c.in-Some.is at (item_at c.as_slice.result.now position c.get-2.result c.get-2.ensures.lookup)) ∙ ap (λ xs. slice_get xs position) c.as_slice.ensures.value in
    spot_found c.args.spots.now.spots.items c.args.name.now position (Some c.in-Some.spot.now) (c.in_ok-position.ensures.value ∙ c.args.spots.now.located c.args.name.now) there

pub returns-in-None : goal.returns-in-None
returns-in-None c =
    let position = c.in_ok-position.field-0.now in
    let absent = (rw c.in-None.is at (item_at c.as_slice.result.now position c.get-2.result c.get-2.ensures.lookup)) ∙ ap (λ xs. slice_get xs position) c.as_slice.ensures.value in
    spot_found c.args.spots.now.spots.items c.args.name.now position None (c.in_ok-position.ensures.value ∙ c.args.spots.now.located c.args.name.now) absent
