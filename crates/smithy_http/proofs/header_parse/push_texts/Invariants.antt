use Rattle.std.proofs.Common.{◌≡◌}
use Rattle.smithy_http.specs.HeaderValues.{gathered, value_texts}
use Rattle.smithy_http.proofs.Gathering.{behind}
use Rattle.smithy_http.proofs.header_parse.push_texts.Given as goal

abbrev pub invariant-loop-value : goal.invariant-loop-value
invariant-loop-value l = record {
  can : (goal.iterator-loop-value).can_next l.value-iterator;
  finite : (goal.iterator-loop-value).is_finite l.value-iterator;
  read : behind l.words (gathered value_texts l.value-iterator) ≡ behind l.fn.words (gathered value_texts l.fn.values);
}
