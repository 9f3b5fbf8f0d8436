use Rattle.smithy_binding.proofs.Common.{arith, ◌∙◌}
use Rattle.smithy_binding.proofs.KeptSlashes.{keep_slashes-percent_encode}
use Rattle.smithy_binding.proofs.target.push_path.Goals as goal

pub returns : goal.returns
returns c =
    let same = c.utf8_percent_encode.ensures.text ∙ keep_slashes-percent_encode c.args.text.now (λ i. omega (arith, c.type_inv.text i)) in
    rw (← same) c.in_ok-append_to.ensures.ok
