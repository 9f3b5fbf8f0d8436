use Rattle.smithy_binding.proofs.Common.{◌≡◌, ◌≤◌, ℕ, List, length, map, drop, found, text_in_map, label_pair}
use Rattle.smithy_binding.proofs.labels.texts_in_map.Given as goal

abbrev pub invariant-loop-i : goal.invariant-loop-i
invariant-loop-i l = record {
  within : l.i ≤ length l.labels;
  found : (name : List ℕ) → text_in_map l.texts name ≡ found name (map label_pair (drop l.i l.labels));
}

abbrev pub decreases-loop-i : goal.decreases-loop-i
decreases-loop-i l = l.i
