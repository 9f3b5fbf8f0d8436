use Rattle.std.proofs.Common.{ap, ◌∙◌, subst, Some, option_and_then}
use Rattle.smithy_schema.specs.References.{schema_of}
use Rattle.smithy_strings.specs.declared.wire.Place.TheVariants.{Query}
use Rattle.smithy_recovery.specs.HeaderParts.{text_value}
use Rattle.smithy_recovery.specs.views.Keeping.{Keeps}
use Rattle.smithy_recovery.proofs.query_values.query_scalar.Goals as goal

pub returns-in-Some : goal.returns-in-Some
returns-in-Some c = λ t.
    subst (λ o. Keeps t (option_and_then (text_value (schema_of c.args.member) Query) o) c.scalar_value.result) (ap (λ x. Some x) c.as_str.ensures ∙ c.in-Some.ensures) (c.scalar_value.ensures t)
