use Rattle.smithy_schema.specs.References.{schema_of}
use Rattle.smithy_recovery.proofs.Knowing.{known_same, known_more}
use Rattle.smithy_recovery.proofs.known_shapes.keep.Goals as goal

pub returns-in_ok-insert-in-Some : goal.returns-in_ok-insert-in-Some
returns-in_ok-insert-in-Some c =
    known_more (schema_of c.args.shape).table c.args.known.now c.insert.new.self c.in-Some.place.0 (schema_of c.args.shape) c.requires.known c.in-Some.ensures.node c.requires.distinct c.in_ok-insert-in-Some.ensures.updates

pub returns-in_err-insert-in-Some : goal.returns-in_err-insert-in-Some
returns-in_err-insert-in-Some c = known_same (schema_of c.args.shape).table c.args.known.now c.insert.new.self c.in_err-insert-in-Some.ensures.err c.requires.known
