use Rattle.smithy_wire.proofs.Common.{◌-◌, ◌^◌, ap, ◌∙◌, arith}
use Rattle.std.proofs.Common.{min}
use Rattle.std.proofs.lemmas.List.{take_all}
use Rattle.std.specs.Str.Parse.{digits_value_after}
use Rattle.smithy_types.proofs.Coefficients.{digit_at}
use Rattle.smithy_document.proofs.DigitLemmas.{read_more}
use Rattle.smithy_wire.proofs.whole_parts.read_on.Goals as goal

pub loop-b-preserved : goal.loop-b-preserved
loop-b-preserved c =
    let l = c.loop-b in
    let ds = c.args.digits.now in
    let digit = digit_at ds l.b-index c.requires c.loop-b-test.true in
    let more = read_more c.args.start ds l.b-index c.loop-b-test.true in
    omega (arith, l.invariant, c.from.ensures, c.saturating_mul.ensures, c.saturating_add-value.ensures)

pub returns : goal.returns
returns c =
    let l = c.loop-b in
    let all = take_all l.b-index c.args.digits.now c.loop-b-test.false in
    l.invariant ∙ ap (λ t. min (digits_value_after 10 c.args.start t) (2 ^ 128 - 1)) all
