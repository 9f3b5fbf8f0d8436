use Rattle.std.proofs.Common.{sym, ◌∙◌}
use Rattle.smithy_recovery.proofs.FactsTested.{path_of_same}
use Rattle.smithy_recovery.proofs.same_facts.has_same_path.Goals as goal

pub returns-then-is_same_target : goal.returns-then-is_same_target
returns-then-is_same_target c = path_of_same c.args.target.now c.args.other.now (sym c.is_same_target.ensures ∙ c.if-is_same_target.true)
