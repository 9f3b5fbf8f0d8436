use Rattle.smithy_document.proofs.Common.{◌≡◌, ◌∙◌, ap, sym, false, false≢true, is_big_decimal_in_range, big_decimal}
use Rattle.smithy_document.proofs.BigLemmas.{none_passes, passed}
use Rattle.smithy_document.proofs.WholeTexts.{decimal_in_range, written}
use Rattle.smithy_document.proofs.whole_numbers.decimal_of_whole.Goals as goal

pub unreachable-requires : goal.unreachable-requires
unreachable-requires c =
    let is = written c.as_str.result.now c.args.whole c.ranges.whole (c.as_str.ensures.value ∙ c.in_ok-text.ensures.ok) in
    let out : is_big_decimal_in_range c.as_str.result.now ≡ false = none_passes _ c.as_str.result.now (sym c.in-None.is ∙ c.in-Ok.ensures.parsed) in
    false≢true (sym out ∙ ap is_big_decimal_in_range is ∙ decimal_in_range c.args.whole c.ranges.whole)

pub returns-in-Some : goal.returns-in-Some
returns-in-Some c =
    let is = written c.as_str.result.now c.args.whole c.ranges.whole (c.as_str.ensures.value ∙ c.in_ok-text.ensures.ok) in
    ap big_decimal ((passed (is_big_decimal_in_range c.as_str.result.now) c.as_str.result.now _ (sym c.in-Some.is ∙ c.in-Ok.ensures.parsed)).1 ∙ is)
