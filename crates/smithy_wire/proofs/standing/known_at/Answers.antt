use Rattle.smithy_schema.specs.References.{schema_of}
use Rattle.smithy_wire.proofs.StandLemmas.{known_as}
use Rattle.smithy_wire.proofs.standing.known_at.Goals as goal

pub returns-in-Some : goal.returns-in-Some
returns-in-Some c =
    known_as c.args.known.now c.args.place.0 (schema_of c.args.node) c.in-Some.stand.now c.peek.ensures.given c.in-Some.ensures.cell c.requires.table c.requires.node
