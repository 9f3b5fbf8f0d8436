use Rattle.std.proofs.Common.{◌≡◌, ◌+◌, ◌∷◌, map, get_or, sym, ap, ◌∙◌}
use Rattle.std.specs.Str.{str_to_ascii_lowercase}
use Rattle.std.proofs.lemmas.List.{take_rest}
use Rattle.smithy_http.specs.Facts.{values_at}
use Rattle.smithy_http.specs.views.Pairs.{pair_of}
use Rattle.smithy_http.proofs.ValueLemmas.{values_none, values_found}
use Rattle.smithy_http.proofs.pairs.next_value.Goals as goal

pub returns-in_err-place : goal.returns-in_err-place
returns-in_err-place c = rw c.from_residual.ensures (values_none (str_to_ascii_lowercase c.args.name.now) c.args.pairs.now (sym c.in_err-place.ensures))

pub returns : goal.returns
returns c =
    let lower = str_to_ascii_lowercase c.args.name.now in
    let pairs = c.args.pairs.now in
    let place = c.in_ok-place.place in
    let pair = c.index-pairs-place.result in
    let value : (get_or pairs place pair).value ≡ c.as_slice.result.now = sym c.as_slice.ensures in
    let rest = ap (λ xs. values_at lower (map pair_of xs)) (sym (take_rest pairs (place + 1))) in
    values_found lower pairs place pair (sym c.in_ok-place.ensures) ∙ (λ i. value i ∷ rest i)
