use Rattle.smithy_document.proofs.PrintLemmas.{Leaves}
use Rattle.smithy_bind.specs.views.LineView.{headers_tokens}
use Rattle.smithy_bind.proofs.line.write_headers.Given as goal

abbrev pub invariant-loop-name : goal.invariant-loop-name
invariant-loop-name l = record {
  can : (goal.iterator-loop-name).can_next l.name-iterator;
  finite : (goal.iterator-loop-name).is_finite l.name-iterator;
  left : Leaves (headers_tokens l.name-iterator) (headers_tokens l.headers) l.fn.writer l.writer;
}
