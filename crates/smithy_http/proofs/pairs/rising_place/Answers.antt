use Rattle.std.proofs.Common.{◌≡◌, ap, ◌∙◌, drop, position, None, Some}
use Rattle.std.proofs.lemmas.List.{take_rest}
use Rattle.smithy_http.specs.views.Pairs.{is_named}
use Rattle.smithy_http.proofs.RisingLemmas.{front-rises, in-front, behind-front}
use Rattle.smithy_http.proofs.pairs.rising_place.Goals as goal

pub halved_place-requires : goal.halved_place-requires
halved_place-requires c = front-rises c.args.pairs.now c.args.count c.requires

pub returns-in-Some : goal.returns-in-Some
returns-in-Some c = in-front c.args.name.now c.args.pairs.now c.args.count c.in-Some.place c.in-Some.ensures

pub returns-in_err-first_place-in-None : goal.returns-in_err-first_place-in-None
returns-in_err-first_place-in-None c =
    let name = c.args.name.now in
    let pairs = c.args.pairs.now in
    let none : None ≡ position (is_named name) (drop c.args.count pairs) = c.in_err-first_place-in-None.ensures ∙ ap (position (is_named name)) (take_rest pairs c.args.count) in
    c.from_residual.ensures ∙ behind-front name pairs c.args.count None c.requires c.in-None.ensures none

pub returns-in_ok-first_place-in-None : goal.returns-in_ok-first_place-in-None
returns-in_ok-first_place-in-None c =
    let name = c.args.name.now in
    let pairs = c.args.pairs.now in
    let place = c.in_ok-first_place-in-None.field-0 in
    let found : Some place ≡ position (is_named name) (drop c.args.count pairs) = c.in_ok-first_place-in-None.ensures ∙ ap (position (is_named name)) (take_rest pairs c.args.count) in
    behind-front name pairs c.args.count (Some place) c.requires c.in-None.ensures found
