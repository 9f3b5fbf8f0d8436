use Rattle.smithy_binding.proofs.Common.{◌≡◌, ℕ, List, take, map, get_by, slice_cmp, nat_cmp, once_mark, times_named, hole_shown}
use Rattle.smithy_binding.proofs.clear.names_once.Given as goal

abbrev pub invariant-loop-hole : goal.invariant-loop-hole
invariant-loop-hole l =
    (name : List ℕ) → get_by (λ k. slice_cmp nat_cmp name k.now) l.once ≡ once_mark (times_named name (map hole_shown (take l.hole-index l.holes)))
