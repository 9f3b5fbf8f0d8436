use Rattle.smithy_wire.proofs.Common.{subst}
use Rattle.smithy_schema.specs.References.{schema_of}
use Rattle.smithy_wire.specs.views.FieldNames.{Tells}
use Rattle.smithy_wire.proofs.FieldLemmas.{missing}
use Rattle.smithy_wire.proofs.names.told_field.Goals as goal

pub returns-in-None : goal.returns-in-None
returns-in-None c =
    let s = schema_of c.args.schema in
    missing c.in-Mapped.positions c.args.side s c.args.name.now (subst (Tells s) c.in-Mapped.is c.requires.told) c.in-None.ensures.value
