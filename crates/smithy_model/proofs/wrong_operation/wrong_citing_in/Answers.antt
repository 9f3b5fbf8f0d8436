use Rattle.std.proofs.Common.{◌∙◌, ap}
use Rattle.smithy_json.specs.views.JsonView.{view}
use Rattle.smithy_model.specs.Wrong.{in_item}
use Rattle.smithy_model.specs.WrongModels.{wrong_citing}
use Rattle.smithy_model.specs.views.ModelView.{shapes_view}
use Rattle.smithy_model.proofs.FirstPlaces.{item_met, item_passed}
use Rattle.smithy_model.proofs.wrong_operation.wrong_citing_in.Goals as goal

pub returns-in-Some : goal.returns-in-Some
returns-in-Some c =
    item_met view (wrong_citing (shapes_view c.args.shapes.now)) _ _ c.args.items.now c.loop-position.position c.index-items-position.result c.loop-position-test.true c.index-items-position.is
    ((rw c.in-Some.is at c.in_ok-wrong.ensures) ∙ ap (in_item c.loop-position.position) c.in_ok-wrong_citing.ensures) c.loop-position.invariant

pub loop-position-preserved : goal.loop-position-preserved
loop-position-preserved c =
    item_passed view (wrong_citing (shapes_view c.args.shapes.now)) _ c.args.items.now c.loop-position.position c.index-items-position.result c.loop-position-test.true c.index-items-position.is
    ((rw c.in_default.is at c.in_ok-wrong.ensures) ∙ ap (in_item c.loop-position.position) c.in_ok-wrong_citing.ensures) c.loop-position.invariant
