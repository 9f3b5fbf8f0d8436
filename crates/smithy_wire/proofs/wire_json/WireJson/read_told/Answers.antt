use Rattle.smithy_wire.proofs.Common.{subst}
use Rattle.smithy_schema.specs.References.{schema_of}
use Rattle.smithy_wire.specs.views.FieldNames.{Tells}
use Rattle.smithy_wire.proofs.PartLemmas.{own_part}
use Rattle.smithy_wire.proofs.wire_json.WireJson.read_told.Goals as goal

pub returns-in-Own : goal.returns-in-Own
returns-in-Own c =
    own_part c.args.self c.args.side (schema_of c.args.schema) c.args.name.now c.named.result
    (subst (Tells (schema_of c.args.schema)) c.in-Own.is c.requires.told) c.named.ensures
