use Rattle.std.proofs.Common.{rules, subst}
use Rattle.smithy_schema.specs.References.{schema_of}
use Rattle.smithy_binding.specs.Bindings.{query_names}
use Rattle.smithy_recovery.specs.views.KeptQueries.{KeepsQueryBeside}
use Rattle.smithy_recovery.proofs.Refused.{part_without_memory}
use Rattle.smithy_recovery.proofs.member_values.query_map_member.Goals as goal

pub returns-in_err-names : goal.returns-in_err-names
returns-in_err-names c = λ t left. part_without_memory (schema_of c.args.member).table _ c.from_residual.result (search rules)

pub returns : goal.returns
returns c = λ t left.
    let m = schema_of c.args.member in
    let cut = c.args.cut.now in
    subst (λ target. KeepsQueryBeside m cut.own.now cut.pieces.now c.in_ok-names.names target c.query_map_part.result) c.uri.ensures.value c.query_map_part.ensures t (query_names (schema_of cut.schema)) left c.in_ok-names.ensures
