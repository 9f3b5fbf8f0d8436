use Rattle.smithy_binding.proofs.Common.{◌≡◌, drop, are_distinct, texts_shown}
use Rattle.smithy_binding.proofs.name_check.are_few_distinct.Given as goal

abbrev pub invariant-loop-place : goal.invariant-loop-place
invariant-loop-place l = are_distinct (texts_shown (drop l.place l.names)) ≡ are_distinct (texts_shown l.names)
