use Rattle.smithy_response.proofs.Common.{ap, ◌∙◌, schema_of, keys_behind}
use Rattle.smithy_response.proofs.Containers.{map_opened, prefix_no_list, prefix_no_structure}
use Rattle.smithy_response.proofs.opening.open_entries.Goals as goal

pub returns-in_ok-entries_of-in-Map : goal.returns-in_ok-entries_of-in-Map
returns-in_ok-entries_of-in-Map c =
    let given = c.in_ok-entries_of-in-Map.ensures in
    rw c.in-Map.is (map_opened c.args.response.now c.args.prefix.now (schema_of c.args.schema) c.in_ok-entries_of-in-Map.field-0
    (given.keys ∙ ap (keys_behind c.args.prefix.now) c.headers.ensures) given.lower given.place given.entry)

pub returns-in-List : goal.returns-in-List
returns-in-List c = rw c.in-List.is (prefix_no_list c.args.response.now c.args.prefix.now (schema_of c.args.schema) c.prefix_refusal.result c.prefix_refusal.ensures)

pub returns-in-Structure : goal.returns-in-Structure
returns-in-Structure c =
    rw c.in-Structure.is (prefix_no_structure c.args.response.now c.args.prefix.now (schema_of c.args.schema) c.prefix_refusal-in-Structure.result c.prefix_refusal-in-Structure.ensures)
