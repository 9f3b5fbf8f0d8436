use Rattle.std.proofs.Common.{sym, ◌∙◌}
use Rattle.smithy_schema.specs.References.{schema_of}
use Rattle.smithy_serde.specs.StoredValues.{value_in}
use Rattle.smithy_recovery.proofs.Shaping.{out_of_range}
use Rattle.smithy_recovery.proofs.shaped.is_shaped.Goals as goal

pub returns-then-not-is_in_range-clause-test : goal.returns-then-not-is_in_range-clause-test
returns-then-not-is_in_range-clause-test c = out_of_range (schema_of c.args.node) (value_in c.args.table.now c.args.value.now) (sym (c.is_in_range.ensures c.args.table.now) ∙ c.if-not-is_in_range.true)

pub is_followed-requires : goal.is_followed-requires
is_followed-requires c =
    record { table = c.requires.table; defined = c.requires.defined; in_range = sym (c.is_in_range.ensures c.args.table.now) ∙ c.if-not-is_in_range.false; known = c.requires.known }
