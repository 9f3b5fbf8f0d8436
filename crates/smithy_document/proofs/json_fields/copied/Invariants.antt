use Rattle.smithy_document.proofs.Common.{List}
use Rattle.smithy_document.specs.views.JsonShown.{Pair}
use Rattle.smithy_document.specs.views.JsonFields.{spans_in, AreSpans}
use Rattle.smithy_document.proofs.JsonOrder.{Leaves}
use Rattle.smithy_document.proofs.json_fields.copied.Given as goal

abbrev pub invariant-spans : goal.invariant-spans
invariant-spans l = (ps : List Pair) → AreSpans l.text (spans_in l.fn.spans.entries) ps → Leaves l.text l.entry-iterator l.copy.items l.later ps
