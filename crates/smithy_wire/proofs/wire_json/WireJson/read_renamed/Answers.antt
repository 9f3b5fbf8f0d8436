use Rattle.smithy_wire.proofs.Common.{ap, ◌∙◌}
use Rattle.smithy_schema.specs.References.{schema_of}
use Rattle.smithy_wire.specs.Forms.{part_form}
use Rattle.smithy_wire.specs.views.WireOf.{form_in}
use Rattle.smithy_wire.proofs.PartLemmas.{renamed_part}
use Rattle.smithy_wire.proofs.wire_json.WireJson.read_renamed.Goals as goal

pub returns-in-Some : goal.returns-in-Some
returns-in-Some c =
    renamed_part c.args.self c.args.side (schema_of c.args.schema) c.args.name.now (schema_of c.in-Some.member) c.field.result c.requires.stand c.in-Some.ensures
    (c.field.ensures.name ∙ c.name_of-own.ensures) (c.field.ensures.form ∙ ap (part_form (form_in c.args.self)) c.name_of-own.ensures) c.field.ensures.style
