use Rattle.smithy_binding.proofs.Common.{rules, ◌≡◌, true, false, not, cases_from_any, YieldsList-from_slice, schema_of, is_bound_in, tests}
use Rattle.smithy_binding.proofs.Walks.{any_item}
use Rattle.smithy_binding.proofs.members.has_unbound_member.Goals as goal

pub returns : goal.returns
returns c =
    any_item (λ m. not (is_bound_in c.args.way m)) schema_of c.args.members.now _
    (cases_from_any _ _ _ (λ x. not (is_bound_in c.args.way (schema_of x)) ≡ true) (λ x. not (is_bound_in c.args.way (schema_of x)) ≡ false) c.any.ensures.ran (YieldsList-from_slice c.args.members.now cc) (λ x q k. search (rules, tests)) (λ x q k. search (rules, tests)))
