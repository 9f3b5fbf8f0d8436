use Rattle.std.proofs.Common.{rules, subst, Err}
use Rattle.smithy_json.specs.JsonView.{view}
use Rattle.smithy_bind.specs.Explaining.{rule_among}
use Rattle.smithy_bind.specs.Told.{output}
use Rattle.smithy_bind.specs.views.AnswerView.{Gives}
use Rattle.smithy_bind.specs.views.ExplainingView.{TellsItem}
use Rattle.smithy_bind.proofs.ExplainLemmas.{item_met, item_passed, item_refused, items_end}
use Rattle.smithy_bind.proofs.explaining.items_told.Goals as goal

pub returns-in_err-told : goal.returns-in_err-told
returns-in_err-told c =
    item_refused (view c.args.job.now) c.args.items.now c.loop-position.position c.index-items-position.result c.loop-position-test.true c.index-items-position.is _ c.loop-position.invariant
    c.in_err-told.field-0.0 c.from_residual.result (search rules)
    (subst (λ k. TellsItem (rule_among c.loop-position.position k) (Err c.in_err-told.field-0.0)) c.among.ensures c.in_err-told.ensures)

pub returns-in-Some : goal.returns-in-Some
returns-in-Some c =
    item_met (view c.args.job.now) c.args.items.now c.loop-position.position c.index-items-position.result c.loop-position-test.true c.index-items-position.is _ c.loop-position.invariant
    c.in-Some.told (rw (c.in-Some.is, c.among.ensures) at c.in_ok-told.ensures)

pub loop-position-preserved : goal.loop-position-preserved
loop-position-preserved c =
    item_passed (view c.args.job.now) c.args.items.now c.loop-position.position c.index-items-position.result c.loop-position-test.true c.index-items-position.is _ c.loop-position.invariant
    (rw (c.in_default.is, c.among.ensures) at c.in_ok-told.ensures)

pub returns : goal.returns
returns c =
    items_end (view c.args.job.now) c.args.items.now c.loop-position.position _ c.said.result c.loop-position-test.false c.loop-position.invariant
    (subst (λ t. Gives (output t) c.said.result) c.as_bytes.ensures.value c.said.ensures)
