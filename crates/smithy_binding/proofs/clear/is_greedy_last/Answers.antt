use Rattle.smithy_binding.proofs.Common.{◌≡◌, ◌<◌, ◌-◌, ap, sym, ◌∙◌, length, drop, arith, length-drop, literal_alone}
use Rattle.smithy_binding.proofs.ClearLemmas.{greedy-behind}
use Rattle.smithy_binding.proofs.clear.is_greedy_last.Goals as goal

pub returns-then-is_greedy : goal.returns-then-is_greedy
returns-then-is_greedy c =
    let holes = c.args.template.now.holes.items in
    let same : length c.deref-hole-items.result.now ≡ length holes = ap length c.deref-hole-items.ensures.value in
    let left : length (drop c.loop-hole.hole-index holes) ≡ length holes - c.loop-hole.hole-index = length-drop _ _ in
    let some : 0 < length (drop c.loop-hole.hole-index holes) = omega (arith, same, left, c.loop-hole-test.true) in
    sym (greedy-behind (drop c.loop-hole.hole-index holes) (literal_alone c.args.template.now.last.now) some) ∙ (rw c.if-is_greedy.true at c.loop-hole.invariant)
