use Rattle.std.proofs.Common.{Some, None, lit<}
use Rattle.std.proofs.lemmas.Str.Pattern.{strip_prefix_char}
use Rattle.smithy_http.proofs.SpellingLaws.{first_item-of_quoted, first_item-of_bare}
use Rattle.smithy_http.proofs.list_items.push_item.Goals as goal

pub returns-in-Some-clause-ok : goal.returns-in-Some-clause-ok
returns-in-Some-clause-ok c =
    let item = c.behind_blanks-item.result.now in
    let begins = strip_prefix_char 34 item (Some c.in-Some.inner) c.in-Some.ensures.cases (lit< tt) in
    rw (first_item-of_quoted c.args.text.now item c.in-Some.inner.now c.behind_blanks-item.ensures begins) c.push_quoted.ensures.ok

pub returns-in-Some-clause-err : goal.returns-in-Some-clause-err
returns-in-Some-clause-err c =
    let item = c.behind_blanks-item.result.now in
    let begins = strip_prefix_char 34 item (Some c.in-Some.inner) c.in-Some.ensures.cases (lit< tt) in
    rw (first_item-of_quoted c.args.text.now item c.in-Some.inner.now c.behind_blanks-item.ensures begins) c.push_quoted.ensures.err

pub returns-in_ok-push_bare-in-None-clause-ok : goal.returns-in_ok-push_bare-in-None-clause-ok
returns-in_ok-push_bare-in-None-clause-ok c =
    let item = c.behind_blanks-item.result.now in
    let other = strip_prefix_char 34 item None c.in-None.ensures.cases (lit< tt) in
    rw (first_item-of_bare c.args.text.now item c.behind_blanks-item.ensures other) c.in_ok-push_bare-in-None.ensures
