use Rattle.smithy_binding.proofs.Common.{rules, ◌≡◌, true, false, cases_from_any, YieldsList-from_slice, same_text, tests}
use Rattle.smithy_binding.proofs.Walks.{any_item}
use Rattle.smithy_binding.proofs.name_check.is_one_of.Goals as goal

pub returns : goal.returns
returns c =
    let name = c.args.name.now in
    any_item (same_text name) (λ n. n.now) c.args.names.now _
    (cases_from_any _ _ _ (λ x. same_text name x.now ≡ true) (λ x. same_text name x.now ≡ false) c.any.ensures.ran (YieldsList-from_slice c.args.names.now cc) (λ x q k. search (rules, tests)) (λ x q k. search (rules, tests)))
