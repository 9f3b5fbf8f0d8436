use Rattle.std.proofs.Common.{◌≡◌}
use Rattle.smithy_http.specs.HeaderValues.{texts_in}
use Rattle.smithy_http.proofs.values.next_text.Given as goal

abbrev pub invariant-loop-value : goal.invariant-loop-value
invariant-loop-value l = record {
  can : (goal.iterator-loop-value).can_next l.values;
  finite : (goal.iterator-loop-value).is_finite l.values;
  same : texts_in l.values ≡ texts_in l.fn.values;
}
