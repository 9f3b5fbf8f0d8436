use Rattle.std.proofs.Common.{sym, ap, ◌∙◌, subst}
use Rattle.smithy_ids.specs.declared.shape_type.ShapeType.TheVariants as kind
use Rattle.smithy_ids.specs.Kinds.{same_kind}
use Rattle.smithy_schema.specs.References.{schema_of}
use Rattle.smithy_recovery.specs.views.Keeping.{Keeps}
use Rattle.smithy_recovery.proofs.HeaderSteps.{query_of_other}
use Rattle.smithy_recovery.proofs.query_values.query_value.Goals as goal

pub returns-else-is_list : goal.returns-else-is_list
returns-else-is_list c =
    let other = ap (λ k. same_kind k kind.List) (sym c.shape_type.ensures) ∙ sym c.is_list.ensures ∙ c.if-is_list.false in
    subst (λ read. Keeps (schema_of c.args.member).table read c.query_scalar.result) (query_of_other (schema_of c.args.member) c.args.texts.now other)
    (c.query_scalar.ensures (schema_of c.args.member).table)
