use Rattle.smithy_wire.proofs.Common.{sym, ap, ◌∙◌, ◌+◌, ◌&&◌, arith}
use Rattle.smithy_wire.specs.views.ShownNames.{table_stands_from}
use Rattle.smithy_wire.proofs.MemberLemmas.{table_from-more, table_end}
use Rattle.smithy_wire.proofs.standing.table_stands.Goals as goal

pub returns-then-not-branch : goal.returns-then-not-branch
returns-then-not-branch c =
    let t = c.args.table.now in
    let i = c.loop-place.place in
    let step = table_from-more t i (omega (arith, c.len-place-end.ensures, c.loop-place-test.true)) in
    let false_here = ap (λ b. b && table_stands_from t (i + 1)) (sym c.if-not-branch.true ∙ c.in_ok-place_stands.ensures) in
    false_here ∙ sym step ∙ c.loop-place.invariant

pub loop-place-preserved : goal.loop-place-preserved
loop-place-preserved c =
    let t = c.args.table.now in
    let i = c.loop-place.place in
    let step = table_from-more t i (omega (arith, c.len-place-end.ensures, c.loop-place-test.true)) in
    let true_here = ap (λ b. b && table_stands_from t (i + 1)) (sym c.if-not-branch.false ∙ c.in_ok-place_stands.ensures) in
    true_here ∙ sym step ∙ c.loop-place.invariant

pub returns : goal.returns
returns c =
    let t = c.args.table.now in
    sym (table_end t c.loop-place.place (omega (arith, c.len-place-end.ensures, c.loop-place-test.false))) ∙ c.loop-place.invariant
