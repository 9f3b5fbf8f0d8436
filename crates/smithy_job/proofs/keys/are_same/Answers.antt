use Rattle.std.proofs.Common.{rules}
use Rattle.smithy_job.proofs.KeysLemmas.{same-next}
use Rattle.smithy_job.proofs.keys.are_same.Goals as goal

pub loop-place-preserved : goal.loop-place-preserved
loop-place-preserved c =
    same-next c.args.ones.now c.args.others.now c.loop-place.place c.index-ones-place.result c.in-Some.other.now c.loop-place-test.true c.index-ones-place.is c.in-Some.ensures.lookup.3.0 c.in-Some.ensures.lookup.1
    (search rules) c.loop-place.invariant
