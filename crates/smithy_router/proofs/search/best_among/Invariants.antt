use Rattle.smithy_router.proofs.Common.{◌≡◌, drop, best_among, best_seen}
use Rattle.smithy_router.proofs.search.best_among.Given as goal

abbrev pub invariant-loop-number : goal.invariant-loop-number
invariant-loop-number l = best_among l.search (best_seen l.best) (drop l.number-index l.numbers) ≡ best_among l.search (best_seen l.initial.best) l.numbers
