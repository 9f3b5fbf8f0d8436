use Rattle.smithy_response.proofs.Common.{err_from_is_err_and, schema_of}
use Rattle.smithy_response.proofs.Containers.{list_opened, list_refused, header_no_map, header_no_structure}
use Rattle.smithy_response.proofs.opening.open_list.Goals as goal

pub returns-in_err-items-in-List : goal.returns-in_err-items-in-List
returns-in_err-items-in-List c =
    let p = err_from_is_err_and c.from_residual.result c.from_residual.ensures.1 in
    rw (p.1, p.2, c.in-List.is) (list_refused c.args.response.now c.args.name.now (schema_of c.args.schema) _ (rw c.headers.ensures at c.in_err-items-in-List.ensures))

pub returns-in_ok-items-in-List : goal.returns-in_ok-items-in-List
returns-in_ok-items-in-List c =
    rw c.in-List.is (list_opened c.args.response.now c.args.name.now (schema_of c.args.schema) c.in_ok-items-in-List.items (rw c.headers.ensures at c.in_ok-items-in-List.ensures))

pub returns-in-Map : goal.returns-in-Map
returns-in-Map c = rw c.in-Map.is (header_no_map c.args.response.now c.args.name.now (schema_of c.args.schema) c.header_refusal.result c.header_refusal.ensures)

pub returns-in-Structure : goal.returns-in-Structure
returns-in-Structure c =
    rw c.in-Structure.is (header_no_structure c.args.response.now c.args.name.now (schema_of c.args.schema) c.header_refusal-in-Structure.result c.header_refusal-in-Structure.ensures)
