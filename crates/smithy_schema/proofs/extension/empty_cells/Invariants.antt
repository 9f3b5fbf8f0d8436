use Rattle.std.proofs.Common.{◌≡◌, map, take, None}
use Rattle.smithy_schema.proofs.extension.empty_cells.Given as goal

abbrev pub invariant-loop-place : goal.invariant-loop-place
invariant-loop-place g l = l.cells.items ≡ map (λ _. None) (take l._place-index l.beside)
