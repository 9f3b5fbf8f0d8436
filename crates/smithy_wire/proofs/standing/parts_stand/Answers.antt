use Rattle.smithy_schema.specs.References.{schema_of}
use Rattle.smithy_wire.proofs.StandLemmas.{element_known, value_known}
use Rattle.smithy_wire.proofs.standing.parts_stand.Goals as goal

pub may_stand-requires : goal.may_stand-requires
may_stand-requires c = element_known c.args.known.now.table (schema_of c.args.schema) c.element-element.result c.requires c.element-element.ensures

pub may_stand-requires-then-branch-2 : goal.may_stand-requires-then-branch-2
may_stand-requires-then-branch-2 c = value_known c.args.known.now.table (schema_of c.args.schema) c.value-value.result c.requires c.value-value.ensures
