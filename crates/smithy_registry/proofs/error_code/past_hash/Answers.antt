use Rattle.std.proofs.Common.{None, refl, arith}
use Rattle.smithy_ids.proofs.NameLemmas.{cuts_at}
use Rattle.smithy_registry.proofs.error_code.past_hash.Goals as goal

pub returns-in-None : goal.returns-in-None
returns-in-None c = rw (cuts_at 35 c.args.text.now None c.in-None.ensures.cases (omega arith)) refl
