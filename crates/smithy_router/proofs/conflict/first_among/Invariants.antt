use Rattle.smithy_router.proofs.Common.{◌≡◌, drop}
use Rattle.smithy_router.specs.Conflicting.{first_among}
use Rattle.smithy_router.proofs.conflict.first_among.Given as goal

abbrev pub invariant-loop-number : goal.invariant-loop-number
invariant-loop-number l = first_among l.new l.first (drop l.number-index l.numbers) ≡ first_among l.new l.initial.first l.numbers
