-- The error that was found for a code.
use Rattle.std.proofs.Common.{refl, Option, Some, None}
use Rattle.smithy_schema.specs.Nodes.{Table, Schema}
use Rattle.smithy_schema.specs.declared.parts.SchemaIndex.{SchemaIndex}
use Rattle.smithy_serde.specs.StoredValues.{HasNode}
use Rattle.smithy_bind.specs.views.CodedView.{IsFound}

-- it stands in the table
pub found_stands : (table : Table) (o : Option Schema) (place : SchemaIndex) → IsFound table o (Some place) → HasNode table place.0
found_stands table (Some s) place is = rw is refl
found_stands table None place is = absurd is
