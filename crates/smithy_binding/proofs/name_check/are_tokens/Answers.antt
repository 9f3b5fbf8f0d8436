use Rattle.smithy_binding.proofs.Common.{rules, ◌≡◌, true, false, cases_from_all, YieldsList-from_slice, is_token, tests}
use Rattle.smithy_binding.proofs.Walks.{all_items}
use Rattle.smithy_binding.proofs.name_check.are_tokens.Goals as goal

pub returns : goal.returns
returns c =
    all_items is_token (λ n. n.now) c.args.names.now _
    (cases_from_all _ _ _ (λ x. is_token x.now ≡ true) (λ x. is_token x.now ≡ false) c.all.ensures.ran (YieldsList-from_slice c.args.names.now cc) (λ x q k. search (rules, tests)) (λ x q k. search (rules, tests)))
