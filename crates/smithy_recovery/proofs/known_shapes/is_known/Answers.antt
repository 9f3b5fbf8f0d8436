use Rattle.smithy_schema.specs.References.{schema_of}
use Rattle.smithy_recovery.proofs.Knowing.{known_says}
use Rattle.smithy_recovery.proofs.known_shapes.is_known.Goals as goal

pub returns-in-Some : goal.returns-in-Some
returns-in-Some c = known_says (schema_of c.args.shape).table c.args.known.now c.in-Some.place.0 (schema_of c.args.shape) c.contains.result c.requires c.in-Some.ensures.node c.contains.ensures
