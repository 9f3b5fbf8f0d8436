use Rattle.std.proofs.Common.{arith, ◌≡◌, ◌∙◌, ap, sym, true}
use Rattle.std.specs.List.{list_all}
use Rattle.smithy_types.specs.BigNumbers.{is_digit}
use Rattle.smithy_bind.proofs.CountLemmas.{too_long, no_digits, unread, too_large, counts}
use Rattle.smithy_bind.proofs.command.count_of.Goals as goal

pub returns-then-word-gt-MAX_DIGITS : goal.returns-then-word-gt-MAX_DIGITS
returns-then-word-gt-MAX_DIGITS c = too_long c.args.word.now c.if-word-gt-MAX_DIGITS.true

pub returns-then-not-are_digits : goal.returns-then-not-are_digits
returns-then-not-are_digits c =
    no_digits c.args.word.now (ap (list_all is_digit) (sym c.as_bytes.ensures.value) ∙ sym c.are_digits.ensures ∙ c.if-not-are_digits.true)

pub returns-in_err-count : goal.returns-in_err-count
returns-in_err-count c =
    let digits : list_all is_digit c.args.word.now ≡ true = ap (list_all is_digit) (sym c.as_bytes.ensures.value) ∙ sym c.are_digits.ensures ∙ c.if-not-are_digits.false in
    rw c.from_residual.ensures (unread c.args.word.now c.parse.result digits c.parse.ensures.value.0 (sym c.ok.ensures.value ∙ c.in_err-count.was))

pub returns-then-count-gt-MAX_NUMBERS : goal.returns-then-count-gt-MAX_NUMBERS
returns-then-count-gt-MAX_NUMBERS c =
    let digits : list_all is_digit c.args.word.now ≡ true = ap (list_all is_digit) (sym c.as_bytes.ensures.value) ∙ sym c.are_digits.ensures ∙ c.if-not-are_digits.false in
    too_large c.args.word.now c.parse.result c.in_ok-count.count digits c.parse.ensures.value.0 (sym c.ok.ensures.value ∙ c.in_ok-count.was) c.if-count-gt-MAX_NUMBERS.true

pub returns : goal.returns
returns c =
    let digits : list_all is_digit c.args.word.now ≡ true = ap (list_all is_digit) (sym c.as_bytes.ensures.value) ∙ sym c.are_digits.ensures ∙ c.if-not-are_digits.false in
    counts c.args.word.now c.parse.result c.in_ok-count.count digits (omega arith) c.parse.ensures.value.0 (sym c.ok.ensures.value ∙ c.in_ok-count.was) (omega arith)
