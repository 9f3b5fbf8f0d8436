use Rattle.std.proofs.Common.{◌≡◌, sym, subst, map, set}
use Rattle.smithy_http.specs.Headers.{put}
use Rattle.smithy_http.specs.views.Pairs.{pair_of}
use Rattle.smithy_http.specs.declared.pairs.Pair.{Pair}
use Rattle.smithy_http.proofs.PlaceLemmas.{put-set, with_value}
use Rattle.smithy_http.proofs.pairs.set_value.Goals as goal

pub returns-clause-value : goal.returns-clause-value
returns-clause-value c =
    let items = c.args.pairs.now.items in
    let is_put : Pair → Type 0 = λ q. map pair_of (set items c.args.place (with_value q c.args.pair.value)) ≡ put (map pair_of items) (pair_of c.args.pair) in
    subst is_put (sym c.index_mut.ensures.value) (put-set items c.args.pair c.index_mut.result.now c.args.place c.requires.apart c.requires.found)
