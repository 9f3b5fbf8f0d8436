use Rattle.std.proofs.Common.{◌≡◌, []}
use Rattle.smithy_model.specs.views.NodeView.{filled}
use Rattle.smithy_model.proofs.table.declared.Given as goal

abbrev pub invariant-loop-index : goal.invariant-loop-index
invariant-loop-index l = l.table ≡ filled [] l.index
