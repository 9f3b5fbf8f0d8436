use Rattle.std.proofs.Common.{◌≡◌, Some, option_map, subst, ◌∙◌}
use Rattle.smithy_types.specs.DocumentView.{view}
use Rattle.smithy_schema.specs.References.{schema_of}
use Rattle.smithy_serde.specs.ReadCalls.{Gives}
use Rattle.smithy_serde.specs.StoredValues.{value_in}
use Rattle.smithy_serde.specs.ValueRead.{value_read}
use Rattle.smithy_document.specs.ReadsBack.{Stands}
use Rattle.codec_rows.proofs.read_back.read_back.Goals as goal

pub returns : goal.returns
returns c = λ n v at follows told.
    let found : Some (schema_of c.in-Some.schema) ≡ Some n = c.in-Some.ensures.node ∙ at in
    let same : schema_of c.in-Some.schema ≡ n = cc found in
    let stands : Stands n = subst Stands same c.schemas_stand.ensures in
    subst (λ r. Gives (value_in c.args.table.now) (Some r) c.read_value.result) (c.documents_are_read_back.ensures.value n v (view c.args.document.now) stands follows told)
    (subst (λ o. Gives (value_in c.args.table.now) (option_map (value_read n) o) c.read_value.result) c.new-reader.ensures.has (c.read_value.ensures.gives n at))
