use Rattle.std.proofs.Common.{◌≡◌, drop, map}
use Rattle.smithy_types.specs.Texts.{is_one_of}
use Rattle.smithy_strings.proofs.distinct.is_one_of.Given as goal

abbrev pub invariant-loop-other : goal.invariant-loop-other
invariant-loop-other l = is_one_of l.text (map (λ t. t.now) (drop l.other-index l.texts)) ≡ is_one_of l.text (map (λ t. t.now) l.texts)
