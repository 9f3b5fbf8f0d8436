use Rattle.smithy_binding.proofs.Common.{◌≡◌, ◌≢◌, ◌≤◌, ◌<◌, ◌-◌, ℕ, get_or}
use Rattle.smithy_binding.proofs.clear.behind_last_close.Given as goal

abbrev pub invariant-loop-i : goal.invariant-loop-i
invariant-loop-i l = record {
  within : l.start ≤ l.i;
  others : (k : ℕ) → l.start ≤ k → k < l.i → get_or l.bytes k 0 ≢ 125;
  close : 0 < l.start → get_or l.bytes (l.start - 1) 0 ≡ 125;
}
