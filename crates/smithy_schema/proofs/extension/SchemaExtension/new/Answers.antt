use Rattle.smithy_schema.proofs.ColumnLemmas.{empty_cells_are, empty_is_column}
use Rattle.smithy_schema.proofs.extension.SchemaExtension.new.Goals as goal

pub invariant_of-result : goal.invariant_of-result
invariant_of-result g c =
    let cells = empty_cells_are c.in_ok-cells.cells.items _ _ c.args.table.now c.in_ok-cells.ensures c.as_slice.ensures.value c.table.view_is in
    empty_is_column g.F.Provider.takes g.F.Provider.gives _ cells c.requires

pub returns : goal.returns
returns g c =
    let cells = empty_cells_are c.in_ok-cells.cells.items _ _ c.args.table.now c.in_ok-cells.ensures c.as_slice.ensures.value c.table.view_is in
    λ i. record { table = c.args.table.now; provider = c.args.provider; cells = cells i }
