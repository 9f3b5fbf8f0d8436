use Rattle.std.proofs.Common.{sym, ap, ◌∙◌, subst, cond, Some}
use Rattle.smithy_ids.specs.declared.shape_type.ShapeType.TheVariants as kind
use Rattle.smithy_ids.specs.Kinds.{same_kind}
use Rattle.smithy_schema.specs.References.{schema_of}
use Rattle.smithy_recovery.specs.views.Keeping.{Keeps}
use Rattle.smithy_recovery.specs.MapParts.{one_text, text_list}
use Rattle.smithy_recovery.proofs.entry_values.entry_value.Goals as goal

pub returns-then-is_string : goal.returns-then-is_string
returns-then-is_string c =
    let m = schema_of c.args.node in
    let is = ap (λ k. same_kind k kind.String) (sym c.shape_type.ensures) ∙ sym c.is_string.ensures ∙ c.if-is_string.true in
    subst (λ b. Keeps m.table (cond b (one_text c.args.texts.now) (text_list (Some m) c.args.texts.now)) c.one_text.result) (sym is) (c.one_text.ensures m.table)

pub returns-else-is_string : goal.returns-else-is_string
returns-else-is_string c =
    let m = schema_of c.args.node in
    let is = ap (λ k. same_kind k kind.String) (sym c.shape_type.ensures) ∙ sym c.is_string.ensures ∙ c.if-is_string.false in
    subst (λ b. Keeps m.table (cond b (one_text c.args.texts.now) (text_list (Some m) c.args.texts.now)) c.text_list.result) (sym is) c.text_list.ensures
