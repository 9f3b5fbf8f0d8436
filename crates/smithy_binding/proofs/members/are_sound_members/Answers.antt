use Rattle.smithy_binding.proofs.Common.{rules, ◌≡◌, true, false, cases_from_all, YieldsList-from_slice, schema_of, is_sound_in, tests}
use Rattle.smithy_binding.proofs.Walks.{all_items}
use Rattle.smithy_binding.proofs.members.are_sound_members.Goals as goal

pub returns : goal.returns
returns c =
    all_items (is_sound_in c.args.way) schema_of c.args.members.now _
    (cases_from_all _ _ _ (λ x. is_sound_in c.args.way (schema_of x) ≡ true) (λ x. is_sound_in c.args.way (schema_of x) ≡ false) c.all.ensures.ran (YieldsList-from_slice c.args.members.now cc) (λ x q k. search (rules, tests)) (λ x q k. search (rules, tests)))
