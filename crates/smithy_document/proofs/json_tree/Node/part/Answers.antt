use Rattle.smithy_document.proofs.Common.{◌∙◌, seen_at, node_view}
use Rattle.smithy_document.proofs.NodeLemmas.{part_seen, array_parts, object_parts}
use Rattle.smithy_document.proofs.json_tree.Node.part.Goals as goal

pub returns-in_err-get-in-Object : goal.returns-in_err-get-in-Object
returns-in_err-get-in-Object c = λ texts.
    let found = rw (c.in_err-get-in-Object.was, c.deref-in-Object.ensures.value) at (seen_at (λ f. node_view texts f.1) c.deref-in-Object.result.now c.args.position c.get-in-Object.result c.get-in-Object.ensures.lookup) in
    rw c.from_residual.ensures (found ∙ part_seen _ _ _ c.args.position (object_parts texts _ _ c.in-Object.is))

pub returns-in-Array : goal.returns-in-Array
returns-in-Array c = λ texts. rw c.deref.ensures.value at (seen_at (node_view texts) c.deref.result.now c.args.position c.get.result c.get.ensures.lookup) ∙ part_seen _ _ _ c.args.position (array_parts texts _ _ c.in-Array.is)

pub returns-in_ok-get-in-Object : goal.returns-in_ok-get-in-Object
returns-in_ok-get-in-Object c = λ texts.
    let found = rw (c.in_ok-get-in-Object.was, c.deref-in-Object.ensures.value) at (seen_at (λ f. node_view texts f.1) c.deref-in-Object.result.now c.args.position c.get-in-Object.result c.get-in-Object.ensures.lookup) in
    found ∙ part_seen _ _ _ c.args.position (object_parts texts _ _ c.in-Object.is)
