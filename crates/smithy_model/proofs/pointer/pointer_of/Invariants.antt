use Rattle.std.proofs.Common.{◌≡◌, ◌≤◌, ◌++◌, length, take, reverse}
use Rattle.smithy_model.specs.Wrong.{pointer}
use Rattle.smithy_model.proofs.pointer.pointer_of.Given as goal

abbrev pub invariant-walk : goal.invariant-walk
invariant-walk l = record {
  within : l.left ≤ length l.steps;
  so_far : l.text.items ++ pointer (reverse (take l.left l.steps)) ≡ pointer (reverse l.steps);
}

abbrev pub decreases-walk : goal.decreases-walk
decreases-walk l = l.left
