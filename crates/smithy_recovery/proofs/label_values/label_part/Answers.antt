use Rattle.std.proofs.Common.{◌≡◌, ap, ◌∙◌, subst, Some, option_map, option_and_then}
use Rattle.smithy_types.specs.Texts.{found}
use Rattle.smithy_schema.specs.Nodes.{name_of}
use Rattle.smithy_schema.specs.References.{schema_of}
use Rattle.smithy_strings.specs.declared.wire.Place.TheVariants.{Label}
use Rattle.smithy_recovery.specs.HeaderParts.{text_value}
use Rattle.smithy_recovery.specs.views.Keeping.{KeepsPart}
use Rattle.smithy_recovery.proofs.label_values.label_part.Goals as goal

pub returns-in-Some : goal.returns-in-Some
returns-in-Some c = λ t labels same.
    let told = c.written.ensures t (text_value (schema_of c.args.member) Label c.in-Some.text.now) (c.scalar_value.ensures t) in
    let here : Some c.in-Some.text.now ≡ found (name_of (schema_of c.args.member)) labels = c.in-Some.ensures ∙ same c.name_of.result.now ∙ ap (λ n. found n labels) c.name_of.ensures in
    subst (λ o. KeepsPart t (option_map (λ v. Some v) (option_and_then (text_value (schema_of c.args.member) Label) o)) c.written.result) here told
