use Rattle.smithy_binding.proofs.Common.{rules, refl, tells_none, one_tells, told_next, told_stop, told_end}
use Rattle.smithy_binding.proofs.TellingUnbound.{told_in_order, defined-at}
use Rattle.smithy_binding.proofs.body.tell_writes.Goals as goal

pub loop-write-init : goal.loop-write-init
loop-write-init g c = tells_none _ _

pub tell-requires : goal.tell-requires
tell-requires g c = defined-at c.args.table.now c.args.writes.now c.loop-write.write-index c.write-item.result c.requires c.loop-write-test.true c.write-item.is

pub loop-write-preserved : goal.loop-write-preserved
loop-write-preserved g c =
    told_next _ (told_in_order _) _ c.loop-write.write-index c.write-item.result _ _ _ _ _ c.loop-write-test.true c.write-item.is c.loop-write.invariant
    (one_tells _ _ _ _ _ c.in_ok-tell.ensures)

pub returns-in_err-tell : goal.returns-in_err-tell
returns-in_err-tell g c =
    let whole = told_stop _ (told_in_order c.args.table.now) _ c.args.writes.now c.loop-write.write-index c.write-item.result _ _ _ _ _ refl c.loop-write-test.true c.write-item.is
    c.loop-write.invariant (one_tells _ _ _ _ _ c.in_err-tell.ensures) in
    search rules

pub returns : goal.returns
returns g c = told_end _ (told_in_order _) _ c.args.writes.now c.loop-write.write-index _ _ _ refl c.loop-write-test.false c.loop-write.invariant
