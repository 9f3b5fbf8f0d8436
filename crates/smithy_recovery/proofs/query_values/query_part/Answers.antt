use Rattle.std.proofs.Common.{sym, ◌∙◌, subst}
use Rattle.smithy_schema.specs.References.{schema_of}
use Rattle.smithy_recovery.specs.views.Keeping.{KeepsPart}
use Rattle.smithy_recovery.specs.QueryParts.{query_value}
use Rattle.smithy_recovery.proofs.HeaderSteps.{query_of_some}
use Rattle.smithy_recovery.proofs.query_values.query_part.Goals as goal

pub returns : goal.returns
returns c =
    let told = c.written.ensures (schema_of c.args.member).table (query_value (schema_of c.args.member) c.args.texts.now) c.query_value.ensures in
    subst (λ part. KeepsPart (schema_of c.args.member).table part c.written.result) (query_of_some (schema_of c.args.member) c.args.texts.now (sym c.is_empty.ensures ∙ c.if-is_empty.false)) told
