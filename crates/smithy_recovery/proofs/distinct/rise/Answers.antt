use Rattle.std.proofs.Common.{sym, ◌∙◌, ap}
use Rattle.std.proofs.lemmas.List.{take_rest}
use Rattle.smithy_recovery.specs.views.NameOrder.{first_below}
use Rattle.smithy_recovery.proofs.Ordered.{shown, rise_more, rise_stop, rise_end}
use Rattle.smithy_recovery.proofs.distinct.rise.Goals as goal

pub returns-then-not-is_first_below : goal.returns-then-not-is_first_below
returns-then-not-is_first_below c =
    let names = c.args.names.now in
    let i = c.loop-i.i in
    rise_stop names i c.loop-i-test.true (sym (c.is_first_below.ensures ∙ ap (λ ns. first_below (shown ns)) (take_rest names i)) ∙ c.if-not-is_first_below.true) ∙ c.loop-i.invariant

pub loop-i-preserved : goal.loop-i-preserved
loop-i-preserved c =
    let names = c.args.names.now in
    let i = c.loop-i.i in
    rise_more names i c.loop-i-test.true (sym (c.is_first_below.ensures ∙ ap (λ ns. first_below (shown ns)) (take_rest names i)) ∙ c.if-not-is_first_below.false) ∙ c.loop-i.invariant

pub returns : goal.returns
returns c = rise_end c.args.names.now c.loop-i.i c.loop-i-test.false ∙ c.loop-i.invariant
