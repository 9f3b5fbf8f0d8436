-- What is read of a structure by a node; the null is no structure.
use Rattle.std.specs.Prelude.{◌≡◌, Option, Some, Result}
use Rattle.smithy_schema.specs.Nodes.{Table, Schema, at_place, shape}
use Rattle.smithy_serde.specs.Values as value
use Rattle.smithy_serde.specs.Values.{Value}
use Rattle.smithy_serde.specs.StructValues.{members_of}
use Rattle.smithy_serde.specs.declared.struct_value.StructValue.{StructValue}
use Rattle.smithy_serde.specs.declared.error.SerdeError.{SerdeError}
use Rattle.smithy_serde.specs.declared.builders.ValueReader.{ValueReader}
use Rattle.smithy_serde.specs.Held.{Held}
use Rattle.smithy_serde.specs.ReadCalls.{Gives}
use Rattle.smithy_serde.specs.ValueRead.{value_read, value_of_structure}

-- a structure, as a value
abbrev pub structure_of : StructValue → Value
structure_of v = value.structure (members_of v)

-- the table that a reader was made with, and the node of it that it reads by
abbrev pub reader_table : ValueReader → Table
reader_table r = r.table.now

abbrev pub reader_node : ValueReader → Option Schema
reader_node r = at_place r.table.now r.schema.0

abbrev pub gives_structure : ValueReader → Held → Result StructValue SerdeError → Type 0
gives_structure r h answer =
    (n : Schema) → reader_node r ≡ Some n → Gives structure_of (Some (value_of_structure value_read (shape n) h)) answer
