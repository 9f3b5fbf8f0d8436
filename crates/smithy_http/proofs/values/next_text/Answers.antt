use Rattle.std.proofs.Common.{sym, ap, ◌∙◌}
use Rattle.std.specs.Option.{option_copied}
use Rattle.smithy_http.specs.HeaderValues.{texts_in}
use Rattle.smithy_http.proofs.ValueLemmas.{texts_first, texts_behind}
use Rattle.smithy_http.proofs.values.next_text.Goals as goal

pub returns-in-Some-text_in : goal.returns-in-Some-text_in
returns-in-Some-text_in c =
    sym c.loop-value.invariant.same ∙ ap texts_in c.in-Some.ensures.steps ∙ texts_first c.in-Some.value.now c.in-Some-text_in.text.now c.next.new.self (sym c.in-Some-text_in.ensures)

pub loop-value-preserved : goal.loop-value-preserved
loop-value-preserved c = record {
  can = tt;
  finite = tt;
  same = sym (ap texts_in c.in-Some.ensures.steps ∙ texts_behind c.in-Some.value.now c.next.new.self (sym c.text_in.ensures ∙ ap option_copied c.in_default-text_in.is)) ∙ c.loop-value.invariant.same;
}
