use Rattle.smithy_http.proofs.RisingLemmas.{one-risen, other-risen}
use Rattle.smithy_http.proofs.pairs.claim_rising.Goals as goal

pub returns-then-is_behind : goal.returns-then-is_behind
returns-then-is_behind c = one-risen c.args.name.now c.args.pairs.now c.args.count.now c.if-count-pairs.true c.requires c.if-is_behind.ensures

pub returns : goal.returns
returns c = other-risen c.args.name.now c.args.pairs.now c.args.count.now c.rising_place.result c.requires c.rising_place.ensures
