use Rattle.smithy_document.proofs.Common.{ℕ, List, Some, Ok, FitsSigned, subst, rules, signed_decimal, w128, to_z-of_z, Gives, IsRefusal, big_integer, too_large}
use Rattle.smithy_document.proofs.BigLemmas.{part_of, part_too_large}
use Rattle.smithy_document.proofs.truncation.truncated.Goals as goal

pub returns-in-Some : goal.returns-in-Some
returns-in-Some c =
    let fits : FitsSigned w128 c.in-Some.value = search rules in
    let given = subst (λ z. Gives {A = List ℕ} big_integer (Some (Ok (big_integer (signed_decimal z)))) c.integer_of_whole.result) (to_z-of_z w128 c.in-Some.value fits) c.integer_of_whole.ensures in
    part_of c.args.number.now (signed_decimal c.in-Some.value) c.integer_of_whole.result c.as_str-text.ensures.in_range c.in-Some.ensures given

pub returns-in-None : goal.returns-in-None
returns-in-None c =
    part_too_large c.args.number.now c.too_large.result c.as_str-text.ensures.in_range c.in-None.ensures
    (subst (λ t. IsRefusal (too_large t) c.too_large.result) c.as_str-text.ensures.text c.too_large.ensures)
