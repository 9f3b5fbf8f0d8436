use Rattle.std.proofs.Common.{◌∙◌, ap, IfErr, rules}
use Rattle.smithy_http.specs.DateLists.{value_dates, dates_of}
use Rattle.smithy_http.specs.HeaderValues.{IsRefusal, gathered}
use Rattle.smithy_http.proofs.Gathering.{behind-end, behind-fault, gathered-fault, refused_later, IfErr-then}
use Rattle.smithy_http.proofs.header_parse.push_dates.Goals as goal

pub returns-in_err-push_value_dates-clause-err : goal.returns-in_err-push_value_dates-clause-err
unfolding dates_of
returns-in_err-push_value_dates-clause-err c =
    let l = c.loop-value in
    let read = value_dates c.args.format in
    let told : IfErr c.from_residual.result (λ e. IsRefusal e (read c.in-Some.value.now)) = search rules in
    IfErr-then c.from_residual.result
    (λ e. refused_later e (read c.in-Some.value.now) (gathered read c.args.values)
    (λ f at. behind-fault c.args.seconds.now l.seconds (gathered read l.value-iterator) (gathered read c.args.values) f
    (ap (gathered read) c.in-Some.ensures.steps ∙ gathered-fault read c.in-Some.value.now c.next.new.self f at) l.invariant.read))
    told

pub returns-clause-ok : goal.returns-clause-ok
unfolding dates_of
returns-clause-ok c =
    let l = c.loop-value in
    let read = value_dates c.args.format in
    behind-end c.args.seconds.now l.seconds (gathered read l.value-iterator) (gathered read c.args.values) (ap (gathered read) c.in-None.ensures.steps.0) l.invariant.read
