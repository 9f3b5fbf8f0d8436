use Rattle.smithy_document.proofs.Common.{◌≡◌, ◌∙◌, ap, sym, rules, arith, to_z, of_z, FitsSigned, w128, to_z-of_z, whole_text, is_negative, scaled, whole_part}
use Rattle.smithy_document.proofs.Truncations.{valued, wide, none_over}
use Rattle.smithy_document.proofs.truncation.whole_value.Goals as goal

pub returns-in-Some : goal.returns-in-Some
returns-in-Some c =
    let text = c.args.number.now in
    let moved = to_z w128 (of_z w128 c.places.result) in
    let fits : FitsSigned w128 c.places.result = search rules in
    let back : to_z w128 (of_z w128 c.places.result) ≡ c.places.result = to_z-of_z w128 c.places.result fits in
    let sign : c.starts_with.result ≡ is_negative text = first_of (search rules, cc, grind arith) in
    c.signed.ensures
    ∙ ap (λ n. whole_text c.starts_with.result n) c.in-Some.ensures.1
    ∙ valued text c.coefficient.result moved c.starts_with.result c.coefficient.ensures.value c.coefficient.ensures.narrow (back ∙ c.places.ensures.value) c.places.ensures.short
    ∙ ap (λ b. whole_text b (whole_part text)) sign

pub returns-in-None : goal.returns-in-None
returns-in-None c =
    let text = c.args.number.now in
    let moved = to_z w128 (of_z w128 c.places.result) in
    let fits : FitsSigned w128 c.places.result = search rules in
    let back : to_z w128 (of_z w128 c.places.result) ≡ c.places.result = to_z-of_z w128 c.places.result fits in
    sym (
    sym (valued text c.coefficient.result moved (is_negative text) c.coefficient.ensures.value c.coefficient.ensures.narrow (back ∙ c.places.ensures.value) c.places.ensures.short)
    ∙ none_over (is_negative text) (scaled c.coefficient.result moved) (wide (scaled c.coefficient.result moved) c.in-None.ensures)
    )
