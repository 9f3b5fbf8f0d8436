use Rattle.std.proofs.Common.{sym, ◌∙◌}
use Rattle.smithy_recovery.proofs.Ordered.{shown, distinct_rise}
use Rattle.smithy_recovery.proofs.distinct.are_distinct.Goals as goal

pub returns-then-rise : goal.returns-then-rise
returns-then-rise c = sym (distinct_rise (shown c.args.names.now) (sym c.rise.ensures ∙ c.if-rise.true))
