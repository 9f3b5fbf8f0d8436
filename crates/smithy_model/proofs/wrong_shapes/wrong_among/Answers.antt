use Rattle.smithy_json.specs.views.JsonView.{entry_of}
use Rattle.smithy_model.specs.WrongModels.{wrong_named}
use Rattle.smithy_model.specs.views.ModelView.{shapes_view}
use Rattle.smithy_model.proofs.FirstPlaces.{first_met, first_passed}
use Rattle.smithy_model.proofs.wrong_shapes.wrong_among.Goals as goal

pub returns-in-Some : goal.returns-in-Some
returns-in-Some c =
    first_met entry_of (wrong_named (shapes_view c.args.shapes.now)) _ _ c.args.members.now c.loop-member.member-index c.member-item.result c.loop-member-test.true c.member-item.is
    (rw c.in-Some.is at c.in_ok-wrong.ensures) c.loop-member.invariant

pub loop-member-preserved : goal.loop-member-preserved
loop-member-preserved c =
    first_passed entry_of (wrong_named (shapes_view c.args.shapes.now)) _ c.args.members.now c.loop-member.member-index c.member-item.result c.loop-member-test.true c.member-item.is
    (rw c.in_default.is at c.in_ok-wrong.ensures) c.loop-member.invariant
