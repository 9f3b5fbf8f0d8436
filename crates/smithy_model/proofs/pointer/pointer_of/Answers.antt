use Rattle.std.proofs.Common.{◌≡◌, ◌+◌, ◌-◌, ◌<◌, ◌∙◌, ap, sym, length, reverse, arith}
use Rattle.std.proofs.lemmas.List.{take_all}
use Rattle.smithy_model.specs.Wrong.{pointer}
use Rattle.smithy_model.proofs.PointerLemmas.{pointer_start, pointer_more, pointer_end}
use Rattle.smithy_model.proofs.pointer.pointer_of.Goals as goal

pub walk-init : goal.walk-init
walk-init c = record {
  within = omega arith;
  so_far = pointer_start c.as_slice-steps.result.now _ _ (omega arith) c.new-text.ensures.items;
}

pub walk-preserved : goal.walk-preserved
walk-preserved c =
    let e : (c.walk.left - 1) + 1 ≡ c.walk.left = omega arith in
    let l : c.walk.left - 1 < length c.as_slice-steps.result.now = omega arith in
    record {
      within = omega arith;
      so_far = pointer_more c.as_slice-steps.result.now (c.walk.left - 1) c.walk.left c.index-steps-left.result _ _ _ _ e l c.index-steps-left.is c.in_ok-push.ensures.items c.in_ok-push_token.ensures c.walk.invariant.so_far;
    }

pub returns : goal.returns
returns c = pointer_end c.as_slice-steps.result.now c.walk.left _ _ (omega arith) c.walk.invariant.so_far ∙ ap (λ steps. pointer (reverse steps)) c.as_slice-steps.ensures.value
