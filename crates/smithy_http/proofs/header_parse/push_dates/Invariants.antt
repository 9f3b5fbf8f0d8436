use Rattle.std.proofs.Common.{◌≡◌}
use Rattle.smithy_http.specs.DateLists.{value_dates}
use Rattle.smithy_http.specs.HeaderValues.{gathered}
use Rattle.smithy_http.proofs.Gathering.{behind}
use Rattle.smithy_http.proofs.header_parse.push_dates.Given as goal

abbrev pub invariant-loop-value : goal.invariant-loop-value
invariant-loop-value l = record {
  can : (goal.iterator-loop-value).can_next l.value-iterator;
  finite : (goal.iterator-loop-value).is_finite l.value-iterator;
  read : behind l.seconds (gathered (value_dates l.format) l.value-iterator) ≡ behind l.fn.seconds (gathered (value_dates l.format) l.fn.values);
}
