use Rattle.smithy_http.proofs.RisingLemmas.{all-risen}
use Rattle.smithy_http.proofs.pairs.kept.Goals as goal

pub returns-then-all_rise : goal.returns-then-all_rise
returns-then-all_rise c = all-risen c.args.pairs.now c.if-all_rise.ensures
