use Rattle.std.proofs.Common.{refl, rules}
use Rattle.smithy_job.specs.KeysView.{keys_seen}
use Rattle.smithy_bind.proofs.ReplyLemmas.{known_alike, known_first}
use Rattle.smithy_bind.proofs.responded.known_for.Goals as goal

pub returns-then-ask_alike : goal.returns-then-ask_alike
returns-then-ask_alike c =
    let first = known_first (keys_seen c.args.keys.now).model c.args.known.now c.loop-one.one-index c.one-item.result c.loop-one-test.true c.one-item.is c.loop-one.invariant in
    known_alike (keys_seen c.args.keys.now) (keys_seen c.args.keys.now).model c.one-item.result refl first.0 (search rules)

pub loop-one-preserved : goal.loop-one-preserved
loop-one-preserved c =
    let first = known_first (keys_seen c.args.keys.now).model c.args.known.now c.loop-one.one-index c.one-item.result c.loop-one-test.true c.one-item.is c.loop-one.invariant in first.1
