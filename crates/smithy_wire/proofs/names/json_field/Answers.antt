use Rattle.smithy_wire.proofs.Common.{option_map, subst}
use Rattle.smithy_schema.specs.References.{schema_of}
use Rattle.smithy_wire.specs.views.FieldNames.{MayTell}
use Rattle.smithy_wire.proofs.names.json_field.Goals as goal

pub told_field-requires-clause-told : goal.told_field-requires-clause-told
told_field-requires-clause-told c = subst (λ o. MayTell (schema_of c.args.schema) (option_map (λ t. t.now) o)) c.in-Some.is c.requires.told
