use Rattle.std.proofs.Common.{sym, ◌∙◌}
use Rattle.smithy_recovery.proofs.TypedSteps.{no_default_so_long}
use Rattle.smithy_recovery.proofs.typed.is_default_behind.Goals as goal

pub returns-then-not-may_be_default : goal.returns-then-not-may_be_default
returns-then-not-may_be_default c = no_default_so_long c.args.prefix.now c.args.key.now (sym c.may_be_default.ensures ∙ c.if-not-may_be_default.true)
