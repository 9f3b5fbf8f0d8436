use Rattle.smithy_binding.proofs.Common.{◌≡◌, ◌≤◌, ℕ, List, true, length, drop, is_some, are_distinct, is_one_of, texts_shown, get_by, slice_cmp, nat_cmp}
use Rattle.smithy_binding.proofs.name_check.are_distinct.Given as goal

abbrev pub invariant-loop-i : goal.invariant-loop-i
invariant-loop-i l = record {
  within : l.i ≤ length l.names;
  later : (name : List ℕ) → is_some (get_by (λ k. slice_cmp nat_cmp name k.now) l.later) ≡ is_one_of name (texts_shown (drop l.i l.names));
  distinct : are_distinct (texts_shown (drop l.i l.names)) ≡ true;
}

abbrev pub decreases-loop-i : goal.decreases-loop-i
decreases-loop-i l = l.i
