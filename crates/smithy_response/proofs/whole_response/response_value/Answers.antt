use Rattle.smithy_response.proofs.Common.{rules, refl, sym, schema_of}
use Rattle.smithy_serde.proofs.ReadValue.{at_place_table}
use Rattle.smithy_response.proofs.WholeRead.{response_read, response_refused}
use Rattle.smithy_response.proofs.whole_response.response_value.Goals as goal

pub read_whole-requires : goal.read_whole-requires
read_whole-requires g c = at_place_table c.args.table.now c.args.output.0 _ (sym c.in-Some.ensures.node)

pub returns-in_err-writes : goal.returns-in_err-writes
returns-in_err-writes g c =
    let whole = response_refused c.args.table.now c.args.output.0 (schema_of c.in-Some.schema) c.args.response.now c.args.policy g.D.ShapeDeserializer.at_hand c.args.is_error c.args.body _ c.in-Some.ensures.node c.in_ok-reader.ensures _ c.in_err-writes.ensures.listed in search rules

pub returns : goal.returns
returns g c =
    response_read c.args.table.now c.args.output.0 (schema_of c.in-Some.schema) c.args.response.now c.args.policy g.D.ShapeDeserializer.at_hand c.args.is_error c.args.body _ c.in-Some.ensures.node c.in_ok-reader.ensures _ _ c.in_ok-writes.ensures.listed c.with_writes.ensures.members
