use Rattle.std.proofs.Common.{◌≡◌, ◌++◌, map, take, drop}
use Rattle.smithy_model.specs.Floats.{decimal_shape}
use Rattle.smithy_model.specs.views.ModelView.{shape_view}
use Rattle.smithy_model.proofs.reached.set_decimals.Given as goal

-- those that were gone over are decimals, the others as they were
abbrev pub invariant-loop-shape : goal.invariant-loop-shape
invariant-loop-shape l = map shape_view l.shapes ≡ map decimal_shape (take l.shape-index (map shape_view l.fn.shapes)) ++ drop l.shape-index (map shape_view l.fn.shapes)
