use Rattle.smithy_binding.proofs.Common.{◌≡◌, ◌≤◌, ◌-◌, ◌∙◌, length, drop, arith, length-drop, take_all}
use Rattle.smithy_binding.proofs.ClearLemmas.{after_last-at}
use Rattle.smithy_binding.proofs.clear.behind_last_close.Goals as goal

pub returns : goal.returns
returns c =
    let n : length (drop c.loop-i.start c.args.bytes.now) ≡ length c.args.bytes.now - c.loop-i.start = length-drop _ _ in
    let all : length (drop c.loop-i.start c.args.bytes.now) ≤ length c.args.bytes.now - c.loop-i.start = omega (arith, n) in
    take_all _ _ all
    ∙ after_last-at c.args.bytes.now c.loop-i.start (omega arith) (λ k low high. c.loop-i.invariant.others k low (omega arith)) c.loop-i.invariant.close
