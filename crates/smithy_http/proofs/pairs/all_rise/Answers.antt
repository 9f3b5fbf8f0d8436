use Rattle.std.proofs.Common.{subst, map, take}
use Rattle.std.specs.List.Sorted.{IsStrictlySortedBy}
use Rattle.smithy_http.specs.views.Pairs.{name_of, IsBehind}
use Rattle.smithy_http.proofs.RisingLemmas.{more-risen}
use Rattle.smithy_http.proofs.pairs.all_rise.Goals as goal

pub loop-place-init : goal.loop-place-init
unfolding IsStrictlySortedBy
loop-place-init c = tt

pub loop-place-preserved : goal.loop-place-preserved
loop-place-preserved c =
    let pairs = c.args.pairs.now in
    let place = c.loop-place.place in
    let pair = c.index-pairs-place.result in
    let behind : IsBehind (name_of pair) (map name_of (take place pairs)) = subst (λ n. IsBehind n (map name_of (take place pairs))) c.as_str.ensures.value c.if-not-is_behind.ensures in
    more-risen pairs place pair c.loop-place-test.true c.index-pairs-place.is c.loop-place.invariant behind
