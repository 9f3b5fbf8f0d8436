-- Shapes put into a registry by their schemas.
use Rattle.std.specs.Prelude.{ℕ, List, Option, unwrap_or}
use Rattle.smithy_types.specs.Maps.{with_value}
use Rattle.smithy_schema.specs.declared.schema_ref.SchemaRef.{SchemaRef}
use Rattle.smithy_schema.specs.References.{schema_of, index_of}
use Rattle.smithy_registry.specs.Registries.{Registered}

-- the entries with one for the shape of a schema, which is a node of a table
abbrev pub with_shape : {R : Type 0} → SchemaRef → R → Option R → List (List ℕ × Registered R) → List (List ℕ × Registered R)
with_shape schema reader error_reader entries =
    with_value (schema_of schema).node.full_name (record { schema = unwrap_or (index_of schema) 0; reader = reader; error_reader = error_reader }) entries
