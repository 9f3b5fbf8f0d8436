use Rattle.std.proofs.Common.{sym, ◌∙◌}
use Rattle.uses.proofs.MemberLemmas.{text_past, text_here, text_nowhere}
use Rattle.uses.proofs.responses.text_among.Goals as goal

pub loop-node-preserved : goal.loop-node-preserved
loop-node-preserved c =
    text_past c.args.name.now c.args.table.now _ _ _ _ c.in-Some.ensures.steps (sym c.is_named.ensures ∙ c.if-is_named.false) c.loop-node.invariant

pub returns-then-is_named : goal.returns-then-is_named
returns-then-is_named c =
    c.text_in.ensures c.args.table.now
    ∙ text_here c.args.name.now c.args.table.now _ _ _ _ c.in-Some.ensures.steps (sym c.is_named.ensures ∙ c.if-is_named.true) c.loop-node.invariant

pub returns : goal.returns
returns c = text_nowhere c.args.name.now c.args.table.now _ _ c.in-None.ensures.steps.0 c.loop-node.invariant
