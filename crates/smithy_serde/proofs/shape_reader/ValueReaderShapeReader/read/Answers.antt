use Rattle.std.proofs.Common.{rules, ap, ◌∙◌}
use Rattle.smithy_schema.specs.Nodes.{Schema}
use Rattle.smithy_serde.proofs.ReadValue.{reader_ok, reader_err, shape_here}
use Rattle.smithy_serde.proofs.shape_reader.ValueReaderShapeReader.read.Goals as goal

pub read_struct_value-requires : goal.read_struct_value-requires
read_struct_value-requires g c =
    let table = shape_here c.args.self.now.table.now c.args.self.now.schema.0 _ c.in-Some.ensures.node in
    let here = ap (λ (s : Schema). s.table) c.shape_of.ensures ∙ table in search rules

pub returns-in_err-writes : goal.returns-in_err-writes
returns-in_err-writes g c =
    let all = rw c.shape_of.ensures at c.in_err-writes.ensures in
    let whole = reader_err c.args.self.now _ _ _ _ c.in-Some.ensures.node all in search rules

pub returns : goal.returns
returns g c =
    let all = rw c.shape_of.ensures at c.in_ok-writes.ensures in
    reader_ok c.args.self.now _ _ _ _ _ c.in-Some.ensures.node all c.with_writes.ensures.members
