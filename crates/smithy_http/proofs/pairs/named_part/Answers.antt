use Rattle.std.proofs.Common.{◌≡◌, ◌+◌, ◌-◌, ℕ, List, Some, map, position, take, drop, sym, ap, ◌∙◌, arith}
use Rattle.std.specs.Str.{str_to_ascii_lowercase}
use Rattle.std.proofs.lemmas.List.{take_rest}
use Rattle.smithy_http.specs.Facts.{values_at}
use Rattle.smithy_http.specs.declared.pairs.Pair.{Pair}
use Rattle.smithy_http.specs.views.Pairs.{pair_of, name_of, is_named, AreApart}
use Rattle.smithy_http.proofs.ValueLemmas.{values_none, values_from, values_alone}
use Rattle.smithy_http.proofs.pairs.named_part.Goals as goal

pub returns-in_default : goal.returns-in_default
returns-in_default c = sym (values_none (str_to_ascii_lowercase c.args.name.now) c.args.pairs.now (sym c.find.ensures ∙ c.in_default.is))

-- the one pair at a place, where each name stands once
alone : (name : List ℕ) (pairs : List Pair) (place : ℕ) → AreApart (map name_of pairs) → position (is_named name) pairs ≡ Some place
    → values_at name (map pair_of (take (place + 1 - place) (drop place pairs))) ≡ values_at name (map pair_of pairs)
alone name pairs place apart found =
    let one : place + 1 - place ≡ 1 = omega arith in
    ap (λ k. values_at name (map pair_of (take k (drop place pairs)))) one ∙ values_alone name pairs place apart found

pub returns-in-Rising : goal.returns-in-Rising
returns-in-Rising c =
    let rising = rw c.in-Rising.is at c.requires in
    alone (str_to_ascii_lowercase c.args.name.now) c.args.pairs.now c.in-Some.place rising.apart (sym c.in-Some.ensures)

pub returns-in-Mapped : goal.returns-in-Mapped
returns-in-Mapped c =
    let index = rw c.in-Mapped.is at c.requires in
    alone (str_to_ascii_lowercase c.args.name.now) c.args.pairs.now c.in-Some.place index.apart (sym c.in-Some.ensures)

pub returns-in-Searched : goal.returns-in-Searched
returns-in-Searched c =
    let lower = str_to_ascii_lowercase c.args.name.now in
    let pairs = c.args.pairs.now in
    ap (λ xs. values_at lower (map pair_of xs)) (take_rest pairs c.in-Some.place) ∙ values_from lower pairs c.in-Some.place (sym c.in-Some.ensures)
