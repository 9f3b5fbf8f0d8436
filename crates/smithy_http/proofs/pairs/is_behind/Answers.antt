use Rattle.std.proofs.Common.{ap, sym, ◌∙◌, nat_cmp}
use Rattle.std.specs.Cmp.Lexicographic.{slice_cmp}
use Rattle.std.proofs.lemmas.Bool.{OnTrue_from}
use Rattle.smithy_http.proofs.RisingLemmas.{less-is, behind-end}
use Rattle.smithy_http.proofs.pairs.is_behind.Goals as goal

pub returns-in-Some : goal.returns-in-Some
returns-in-Some c =
    let name = c.args.name.now in
    let last = c.in-Some.last.now in
    let order = c.cmp.ensures ∙ ap (λ n. slice_cmp nat_cmp n name) c.as_str.ensures.value in
    OnTrue_from _ _ (λ truth. behind-end name c.args.pairs.now last c.requires c.in-Some.ensures.item.1 (sym order ∙ less-is c.cmp.result (sym c.is_lt.ensures ∙ truth)))
