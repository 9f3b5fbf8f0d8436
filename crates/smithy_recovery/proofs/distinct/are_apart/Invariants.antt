use Rattle.smithy_binding.proofs.Common.{◌≡◌, ◌≤◌, ℕ, List, true, length, drop, map, is_some, are_distinct, is_one_of, get_by, slice_cmp, nat_cmp}
use Rattle.smithy_recovery.proofs.distinct.are_apart.Given as goal

-- the names behind are in the map, and no two of them are the same
abbrev pub invariant-loop-i : goal.invariant-loop-i
invariant-loop-i l = record {
  within : l.i ≤ length l.names;
  later : (name : List ℕ) → is_some (get_by (λ k. slice_cmp nat_cmp name k.now) l.later) ≡ is_one_of name (map (λ n. n.now) (drop l.i l.names));
  distinct : are_distinct (map (λ n. n.now) (drop l.i l.names)) ≡ true;
}

abbrev pub decreases-loop-i : goal.decreases-loop-i
decreases-loop-i l = l.i
