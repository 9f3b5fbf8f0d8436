use Rattle.std.proofs.Common.{sym, ◌∙◌}
use Rattle.smithy_recovery.proofs.TypedSteps.{format-more, format-stop, format-end}
use Rattle.smithy_recovery.proofs.typed.have_format.Goals as goal

pub loop-node-preserved : goal.loop-node-preserved
loop-node-preserved c = sym (format-more c.args.table.now c.args.format _ _ _ c.in-Some.ensures.steps (sym c.has_format.ensures ∙ c.if-not-has_format.false)) ∙ c.loop-node.invariant

pub returns-then-not-has_format : goal.returns-then-not-has_format
returns-then-not-has_format c = sym (format-stop c.args.table.now c.args.format _ _ _ c.in-Some.ensures.steps (sym c.has_format.ensures ∙ c.if-not-has_format.true)) ∙ c.loop-node.invariant

pub returns : goal.returns
returns c = sym (format-end c.args.table.now c.args.format _ c.in-None.ensures.steps.0) ∙ c.loop-node.invariant
