use Rattle.smithy_document.proofs.Common.{ap₂, ◌∙◌, ◌++◌}
use Rattle.smithy_document.proofs.JsonSpans.{spans_here}
use Rattle.smithy_document.proofs.JsonEnds.{stands_ordered, puts_ordered}
use Rattle.smithy_document.proofs.json_writing.JsonWriting.order.Goals as goal

pub returns-then-self-clause-ordered : goal.returns-then-self-clause-ordered
returns-then-self-clause-ordered c = stands_ordered c.args.self.now c.if-self.true

pub returns-clause-ordered : goal.returns-clause-ordered
returns-clause-ordered c =
    let w = c.args.self.now in
    let here = rw c.deref.ensures.value at c.in_ok-ordered.ensures in
    puts_ordered w (record w { text = c.extend_from_slice.new.self }) c.in_ok-ordered.ordered.items (λ ps outer inner j h. here ps (spans_here w ps outer inner j h)) (c.in_ok-extend_from_slice.ensures.items ∙ ap₂ (λ a b. a ++ b) c.truncate.ensures.items c.deref-2.ensures.value)
