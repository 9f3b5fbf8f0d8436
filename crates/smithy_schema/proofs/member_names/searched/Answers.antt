use Rattle.std.proofs.Common.{rules, Ok, Err, nat_cmp}
use Rattle.std.specs.Cmp.Lexicographic.{slice_cmp}
use Rattle.std.proofs.lemmas.Fn.{always_returns_same}
use Rattle.smithy_schema.specs.views.Stored.{table_stored}
use Rattle.smithy_schema.proofs.AscendLemmas.{key, searched}
use Rattle.smithy_schema.proofs.member_names.searched.Goals as goal

pub returns-in-Ok : goal.returns-in-Ok
returns-in-Ok c =
    let name = c.args.name.now in
    let table = table_stored c.args.nodes.now in
    let by_name = c.in-Ok.ensures.position (λ s. slice_cmp nat_cmp (key table s) name) (always_returns_same _ _ _ (λ a r f called. (search rules, search rules))) in
    searched table c.args.members.now name (Ok c.in-Ok.position) c.requires c.in-Ok.ensures.bound by_name

pub returns-in-Err : goal.returns-in-Err
returns-in-Err c =
    let name = c.args.name.now in
    let table = table_stored c.args.nodes.now in
    let by_name = c.in-Err.ensures.position (λ s. slice_cmp nat_cmp (key table s) name) (always_returns_same _ _ _ (λ a r f called. (search rules, search rules))) in
    searched table c.args.members.now name (Err c.in-Err.field-0) c.requires c.in-Err.ensures.bound by_name
