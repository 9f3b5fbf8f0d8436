use Rattle.smithy_response.proofs.Common.{◌≡◌, has_unreadable}
use Rattle.smithy_response.proofs.prefixes.has_unreadable.Given as goal

abbrev pub invariant-loop-value : goal.invariant-loop-value
invariant-loop-value l = record {
  can : (goal.iterator-loop-value).can_next l.value-iterator;
  finite : (goal.iterator-loop-value).is_finite l.value-iterator;
  read : has_unreadable l.fn.values ≡ has_unreadable l.value-iterator;
}
