use Rattle.std.proofs.Common.{◌∙◌, ap}
use Rattle.smithy_json.specs.views.JsonView.{view}
use Rattle.smithy_model.specs.Wrong.{in_item}
use Rattle.smithy_job.specs.WrongJobs.{wrong_item}
use Rattle.smithy_model.proofs.FirstPlaces.{item_met, item_passed}
use Rattle.smithy_job.proofs.wrong_responses.wrong_each.Goals as goal

pub returns-in-Some : goal.returns-in-Some
returns-in-Some c =
    item_met view (wrong_item (view c.args.job.now)) _ _ c.args.items.now c.loop-position.position c.index-items-position.result c.loop-position-test.true c.index-items-position.is
    ((rw c.in-Some.is at c.in_ok-wrong.ensures) ∙ ap (in_item c.loop-position.position) c.in_ok-wrong_item.ensures) c.loop-position.invariant

pub loop-position-preserved : goal.loop-position-preserved
loop-position-preserved c =
    item_passed view (wrong_item (view c.args.job.now)) _ c.args.items.now c.loop-position.position c.index-items-position.result c.loop-position-test.true c.index-items-position.is
    ((rw c.in_default.is at c.in_ok-wrong.ensures) ∙ ap (in_item c.loop-position.position) c.in_ok-wrong_item.ensures) c.loop-position.invariant
