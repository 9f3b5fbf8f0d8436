use Rattle.smithy_binding.proofs.Common.{rules, ◌≡◌, true, false, nat_eq, cases_from_any, YieldsList-from_slice, starts_with, tests}
use Rattle.smithy_binding.proofs.Walks.{any_item}
use Rattle.smithy_binding.proofs.name_check.begins_any.Goals as goal

pub returns : goal.returns
returns c =
    any_item (λ name. starts_with nat_eq name c.args.prefix.now) (λ n. n.now) c.args.names.now _
    (cases_from_any _ _ _ (λ x. starts_with nat_eq x.now c.args.prefix.now ≡ true) (λ x. starts_with nat_eq x.now c.args.prefix.now ≡ false) c.any.ensures.ran (YieldsList-from_slice c.args.names.now cc) (λ x q k. search (rules, tests)) (λ x q k. search (rules, tests)))
