use Rattle.std.proofs.Common.{Some, None, subst}
use Rattle.smithy_schema.specs.References.{schema_of}
use Rattle.smithy_strings.specs.Unwired.{StoresScalar, member_scalar}
use Rattle.smithy_recovery.proofs.ScalarsKept.{scalar_kept, scalar_none}
use Rattle.smithy_recovery.proofs.values.scalar_value.Goals as goal

pub returns-in-Some : goal.returns-in-Some
returns-in-Some c =
    let kept : StoresScalar (member_scalar (schema_of c.args.node) c.args.place c.args.text.now) (Some c.in-Some.value)
    = subst (StoresScalar (member_scalar (schema_of c.args.node) c.args.place c.args.text.now)) c.in-Some.is c.in_ok-value.ensures in
    scalar_kept (schema_of c.args.node) c.args.place c.args.text.now c.in-Some.value kept

pub returns-in-None : goal.returns-in-None
returns-in-None c =
    let none : StoresScalar (member_scalar (schema_of c.args.node) c.args.place c.args.text.now) None
    = subst (StoresScalar (member_scalar (schema_of c.args.node) c.args.place c.args.text.now)) c.in-None.is c.in_ok-value.ensures in
    λ t. scalar_none (schema_of c.args.node) c.args.place c.args.text.now none
