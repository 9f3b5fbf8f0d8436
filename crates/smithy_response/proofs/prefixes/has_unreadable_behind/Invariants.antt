use Rattle.smithy_response.proofs.Common.{◌≡◌, unreadable_behind_lower}
use Rattle.smithy_response.proofs.prefixes.has_unreadable_behind.Given as goal

abbrev pub invariant-loop-name : goal.invariant-loop-name
invariant-loop-name l = record {
  can : (goal.iterator-loop-name).can_next l.name-iterator;
  finite : (goal.iterator-loop-name).is_finite l.name-iterator;
  read : unreadable_behind_lower l.prefix l.fn.pairs ≡ unreadable_behind_lower l.prefix l.name-iterator;
}
