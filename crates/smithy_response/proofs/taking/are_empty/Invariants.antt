use Rattle.smithy_response.proofs.Common.{◌≡◌, are_empty}
use Rattle.smithy_response.proofs.taking.are_empty.Given as goal

abbrev pub invariant-loop-value : goal.invariant-loop-value
invariant-loop-value l = record {
  can : (goal.iterator-loop-value).can_next l.value-iterator;
  finite : (goal.iterator-loop-value).is_finite l.value-iterator;
  read : are_empty l.fn.values ≡ are_empty l.value-iterator;
}
