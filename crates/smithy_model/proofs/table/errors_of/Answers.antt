use Rattle.std.proofs.Common.{rules, map}
use Rattle.smithy_types.specs.Results.{each}
use Rattle.smithy_schema.specs.Places.{places_of}
use Rattle.smithy_model.specs.Nodes.{index_named, errors_of}
use Rattle.smithy_model.specs.views.ModelView.{shape_view}
use Rattle.smithy_model.specs.views.NodeView.{spots_of}
use Rattle.smithy_model.specs.views.NameView.{texts}
use Rattle.smithy_model.proofs.TableLemmas.{made-so, first-absent, second-absent, errors-refused, are-there, errors-are, stand-there}
use Rattle.smithy_model.proofs.table.errors_of.Goals as goal

pub returns-in_err-operation : goal.returns-in_err-operation
returns-in_err-operation c =
    let xs = map shape_view c.args.reached.now.shapes.items in
    let operation = texts c.args.operation.now in
    let service = texts c.args.service.now in
    let made = made-so xs 0 c.in_ok-table.table c.in_ok-table.ensures in
    errors-refused (each (index_named (spots_of c.in_ok-spots.spots)) operation) (errors_of xs operation service) c.in_err-operation.field-0.0 c.from_residual-in_err-operation.result (search rules)
    (λ none. first-absent xs made.nodes operation service made.of (rw c.in_ok-spots.ensures.are at none)) c.in_err-operation.ensures

pub returns-in_err-service : goal.returns-in_err-service
returns-in_err-service c =
    let xs = map shape_view c.args.reached.now.shapes.items in
    let operation = texts c.args.operation.now in
    let service = texts c.args.service.now in
    let made = made-so xs 0 c.in_ok-table.table c.in_ok-table.ensures in
    errors-refused (each (index_named (spots_of c.in_ok-spots.spots)) service) (errors_of xs operation service) c.in_err-service.field-0.0 c.from_residual-in_err-service.result (search rules)
    (λ none. second-absent xs made.nodes operation service made.of (rw c.in_ok-spots.ensures.are at none)) c.in_err-service.ensures

pub returns : goal.returns
returns c =
    let xs = map shape_view c.args.reached.now.shapes.items in
    let operation = texts c.args.operation.now in
    let service = texts c.args.service.now in
    let made = made-so xs 0 c.in_ok-table.table c.in_ok-table.ensures in
    let first = are-there xs made.nodes operation (places_of c.in_ok-operation.operation.items) made.of (rw c.in_ok-spots.ensures.are at c.in_ok-operation.ensures) in
    let second = are-there xs made.nodes service (places_of c.in_ok-service.service.items) made.of (rw c.in_ok-spots.ensures.are at c.in_ok-service.ensures) in
    rw (errors-are xs made.nodes operation service first.schemas second.schemas made.of first.named second.named)
    (record { operation = stand-there c.in_ok-table.table made.nodes _ first.schemas made.filled_so first.there; service = stand-there c.in_ok-table.table made.nodes _ second.schemas made.filled_so second.there })
