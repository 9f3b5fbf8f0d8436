use Rattle.std.proofs.Common.{◌∙◌, ap}
use Rattle.smithy_model.specs.Wrong.{in_key, in_item}
use Rattle.smithy_job.proofs.WrongLemmas.{item_found, item_fits, items_end, member_found, member_fits, members_end}
use Rattle.smithy_job.proofs.wrong_input.+wrong.Goals as goal

pub wrong_items-returns-in-Some : goal.wrong_items-returns-in-Some
wrong_items-returns-in-Some t c =
    item_found c.args.items.now c.loop-position.position c.index-items-position.result _ _ c.loop-position-test.true c.index-items-position.is
    ((rw c.in-Some.is at c.in_ok-wrong.ensures) ∙ ap (in_item c.loop-position.position) c.in_ok-wrong_value.ensures) c.loop-position.invariant

pub wrong_items-loop-position-preserved : goal.wrong_items-loop-position-preserved
wrong_items-loop-position-preserved t c =
    item_fits c.args.items.now c.loop-position.position c.index-items-position.result _ c.loop-position-test.true c.index-items-position.is
    ((rw c.in_default.is at c.in_ok-wrong.ensures) ∙ ap (in_item c.loop-position.position) c.in_ok-wrong_value.ensures) c.loop-position.invariant

pub wrong_items-returns : goal.wrong_items-returns
wrong_items-returns t c = items_end c.args.items.now c.loop-position.position _ c.loop-position-test.false c.loop-position.invariant

pub wrong_members-returns-in-Some : goal.wrong_members-returns-in-Some
wrong_members-returns-in-Some t c =
    member_found c.args.members.now c.loop-member.member-index c.member-item.result _ _ c.loop-member-test.true c.member-item.is
    ((rw c.in-Some.is at c.in_ok-wrong.ensures) ∙ ap (in_key c.member-item.result.0.now) c.in_ok-wrong_value.ensures) c.loop-member.invariant

pub wrong_members-loop-member-preserved : goal.wrong_members-loop-member-preserved
wrong_members-loop-member-preserved t c =
    member_fits c.args.members.now c.loop-member.member-index c.member-item.result _ c.loop-member-test.true c.member-item.is
    ((rw c.in_default.is at c.in_ok-wrong.ensures) ∙ ap (in_key c.member-item.result.0.now) c.in_ok-wrong_value.ensures) c.loop-member.invariant

pub wrong_members-returns : goal.wrong_members-returns
wrong_members-returns t c = members_end c.args.members.now c.loop-member.member-index _ c.loop-member-test.false c.loop-member.invariant
