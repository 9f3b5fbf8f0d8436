use Rattle.std.proofs.Common.{◌≡◌, drop, map}
use Rattle.smithy_types.specs.Texts.{are_distinct}
use Rattle.smithy_strings.proofs.distinct.are_few_distinct.Given as goal

abbrev pub invariant-loop-place : goal.invariant-loop-place
invariant-loop-place l = are_distinct (map (λ t. t.now) (drop l.place l.texts)) ≡ are_distinct (map (λ t. t.now) l.texts)
