use Rattle.std.proofs.Common.{◌∙◌, ap, IfErr, rules}
use Rattle.smithy_http.specs.HeaderValues.{IsRefusal, gathered, value_texts, tokens_of}
use Rattle.smithy_http.proofs.Gathering.{behind-end, behind-fault, gathered-fault, refused_later, IfErr-then}
use Rattle.smithy_http.proofs.header_parse.push_texts.Goals as goal

pub returns-in_err-push_value-clause-err : goal.returns-in_err-push_value-clause-err
unfolding tokens_of
returns-in_err-push_value-clause-err c =
    let l = c.loop-value in
    let told : IfErr c.from_residual.result (λ e. IsRefusal e (value_texts c.in-Some.value.now)) = search rules in
    IfErr-then c.from_residual.result
    (λ e. refused_later e (value_texts c.in-Some.value.now) (gathered value_texts c.args.values)
    (λ f at. behind-fault c.args.words.now l.words (gathered value_texts l.value-iterator) (gathered value_texts c.args.values) f
    (ap (gathered value_texts) c.in-Some.ensures.steps ∙ gathered-fault value_texts c.in-Some.value.now c.next.new.self f at) l.invariant.read))
    told

pub returns-clause-ok : goal.returns-clause-ok
unfolding tokens_of
returns-clause-ok c =
    let l = c.loop-value in
    behind-end c.args.words.now l.words (gathered value_texts l.value-iterator) (gathered value_texts c.args.values) (ap (gathered value_texts) c.in-None.ensures.steps.0) l.invariant.read
