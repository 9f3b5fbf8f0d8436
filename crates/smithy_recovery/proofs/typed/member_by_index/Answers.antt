use Rattle.std.specs.Prelude.{slice_get}
use Rattle.smithy_schema.specs.References.{schema_of}
use Rattle.smithy_recovery.proofs.TypedSteps.{cited_table}
use Rattle.smithy_recovery.proofs.typed.member_by_index.Goals as goal

pub returns-clause-table : goal.returns-clause-table
returns-clause-table c =
    let schema = schema_of c.args.schema in
    cited_table schema (slice_get schema.node.members c.in_ok-index.index) c.member_schema_by_index.result c.member_schema_by_index.ensures.node
