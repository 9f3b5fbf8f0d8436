use Rattle.std.proofs.Common.{◌∙◌, ap, sym, length, IfErr, rules}
use Rattle.std.proofs.lemmas.List.{nil_from_length}
use Rattle.std.proofs.lemmas.Bool.{eqb-true}
use Rattle.smithy_http.specs.ListTexts.{list_texts, first_item}
use Rattle.smithy_http.proofs.Gathering.{not_empty, behind, behind-item, behind-end, behind-fault, list_refused_later, IfErr-then}
use Rattle.smithy_http.specs.HeaderValues.{IsListRefusal}
use Rattle.smithy_http.proofs.SpellingLaws.{first_item-shorter, list_texts-item, list_texts-fault, list_texts-nil}
use Rattle.smithy_http.proofs.list_items.push_items.Goals as goal

pub returns-in_err-rest-clause-err : goal.returns-in_err-rest-clause-err
returns-in_err-rest-clause-err c =
    let l = c.loop-rest in
    let some = not_empty l.rest.now c.loop-rest-test.ensures in
    let told : IfErr c.from_residual.result (λ e. IsListRefusal e (first_item l.rest.now)) = search rules in
    IfErr-then c.from_residual.result
    (λ e. list_refused_later e (first_item l.rest.now) (list_texts c.args.text.now)
    (λ f at. behind-fault c.args.words.now l.words (list_texts l.rest.now) (list_texts c.args.text.now) f (list_texts-fault l.rest.now f some at) l.invariant.1))
    told

pub loop-rest-smaller : goal.loop-rest-smaller
loop-rest-smaller c =
    let l = c.loop-rest in
    let read = c.in_ok-rest.ensures.ok in
    first_item-shorter l.rest.now read.text c.in_ok-rest.rest.now (not_empty l.rest.now c.loop-rest-test.ensures) read.is_read

pub loop-rest-preserved : goal.loop-rest-preserved
loop-rest-preserved c =
    let l = c.loop-rest in
    let read = c.in_ok-rest.ensures.ok in
    let some = not_empty l.rest.now c.loop-rest-test.ensures in
    let step = behind-item l.words c.push_item.new.words read.text (list_texts c.in_ok-rest.rest.now) read.added in
    (search rules, step ∙ sym (ap (behind l.words) (list_texts-item l.rest.now read.text c.in_ok-rest.rest.now some read.is_read)) ∙ l.invariant.1)

pub returns-clause-ok : goal.returns-clause-ok
returns-clause-ok c =
    let l = c.loop-rest in
    let empty = nil_from_length l.rest.now (eqb-true (length l.rest.now) 0 (sym c.loop-rest-test.ensures)) in
    behind-end c.args.words.now l.words (list_texts l.rest.now) (list_texts c.args.text.now) (ap list_texts empty ∙ list_texts-nil) l.invariant.1
