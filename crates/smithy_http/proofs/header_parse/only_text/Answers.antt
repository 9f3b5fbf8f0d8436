use Rattle.std.proofs.Common.{◌≡◌, ◌∷◌, Err, sym, ◌∙◌, ap, IfErr, rules}
use Rattle.smithy_http.specs.HeaderValues.{one_text_of, value_text}
use Rattle.smithy_http.proofs.Gathering.{IfErr-then}
use Rattle.smithy_http.proofs.HeaderValueLaws.{one_text_of-fault, one_text_of-second, one_text_of-one, one_text_of-none}
use Rattle.smithy_http.proofs.header_parse.only_text.Goals as goal

pub returns-in_default-clause-ok : goal.returns-in_default-clause-ok
returns-in_default-clause-ok c =
    let none = rw c.in_default.is at c.next.ensures.steps in
    ap one_text_of none.0 ∙ one_text_of-none

pub returns-in_err-text-clause-err : goal.returns-in_err-text-clause-err
returns-in_err-text-clause-err c =
    let told : IfErr c.from_residual.result (λ e. value_text c.in-Some.first.now ≡ Err e) = search rules in
    IfErr-then c.from_residual.result
    (λ e at. ap one_text_of c.in-Some.ensures.steps ∙ one_text_of-fault c.in-Some.first.now c.next.new.self e at)
    told

pub returns-in-Some-next-clause-err : goal.returns-in-Some-next-clause-err
returns-in-Some-next-clause-err c =
    ap one_text_of (c.in-Some.ensures.steps ∙ ap (λ vs. c.in-Some.first.now ∷ vs) c.in-Some-next.ensures.steps)
    ∙ one_text_of-second c.in-Some.first.now c.in_ok-text.text.now c.in-Some-next.second.now c.next-2.new.self c.in_ok-text.ensures
    ∙ ap (λ e. Err e) (sym c.refusal_of_second.ensures)

pub returns-in-None-clause-ok : goal.returns-in-None-clause-ok
returns-in-None-clause-ok c =
    ap one_text_of (c.in-Some.ensures.steps ∙ ap (λ vs. c.in-Some.first.now ∷ vs) c.in-None.ensures.steps.0)
    ∙ one_text_of-one c.in-Some.first.now c.in_ok-text.text.now c.in_ok-text.ensures
