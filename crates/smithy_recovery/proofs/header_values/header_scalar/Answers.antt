use Rattle.std.proofs.Common.{subst}
use Rattle.smithy_schema.specs.References.{schema_of}
use Rattle.smithy_recovery.specs.views.Keeping.{Keeps}
use Rattle.smithy_recovery.proofs.HeaderSteps.{scalar_some, scalar_none}
use Rattle.smithy_recovery.proofs.header_values.header_scalar.Goals as goal

pub returns-in-Some : goal.returns-in-Some
returns-in-Some c = λ t.
    subst (λ read. Keeps t read c.scalar_value.result) (scalar_some (schema_of c.args.member) c.args.value.now c.in-Some.text.now c.in-Some.ensures) (c.scalar_value.ensures t)

pub returns-in-None : goal.returns-in-None
returns-in-None c = λ t. scalar_none (schema_of c.args.member) c.args.value.now c.in-None.ensures
