use Rattle.std.proofs.Common.{rules, Ok, Err, nat_cmp}
use Rattle.std.specs.Cmp.Lexicographic.{slice_cmp}
use Rattle.std.proofs.lemmas.Fn.{always_returns_same}
use Rattle.smithy_http.specs.views.Pairs.{name_of}
use Rattle.smithy_http.proofs.RisingLemmas.{found-halved}
use Rattle.smithy_http.proofs.pairs.halved_place.Goals as goal

pub returns-in-Ok : goal.returns-in-Ok
returns-in-Ok c =
    let name = c.args.name.now in
    let by_name = c.in-Ok.ensures.position (λ p. slice_cmp nat_cmp (name_of p) name) (always_returns_same _ _ _ (λ a r f called. (search rules, search rules))) in
    found-halved name c.args.pairs.now (Ok c.in-Ok.place) c.requires c.in-Ok.ensures.bound by_name

pub returns-in-Err : goal.returns-in-Err
returns-in-Err c =
    let name = c.args.name.now in
    let by_name = c.in-Err.ensures.position (λ p. slice_cmp nat_cmp (name_of p) name) (always_returns_same _ _ _ (λ a r f called. (search rules, search rules))) in
    found-halved name c.args.pairs.now (Err c.in-Err.field-0) c.requires c.in-Err.ensures.bound by_name
