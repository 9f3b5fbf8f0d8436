use Rattle.smithy_document.proofs.Common.{◌≡◌, take, view, at_path}
use Rattle.smithy_document.proofs.spot.document_at.Given as goal

abbrev pub invariant-loop-spot : goal.invariant-loop-spot
invariant-loop-spot l = view l.document ≡ at_path (view l.root) (take l.spot-index l.path)
