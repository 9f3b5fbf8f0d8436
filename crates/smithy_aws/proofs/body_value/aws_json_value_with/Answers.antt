use Rattle.std.proofs.Common.{rules, refl, sym, false, Some, Ok, ◌∙◌}
use Rattle.smithy_schema.specs.References.{schema_of}
use Rattle.smithy_serde.specs.ValueReading.{structure_of}
use Rattle.smithy_serde.proofs.ReadValue.{at_the_place, gives_memory}
use Rattle.smithy_aws.specs.BodyValues.{aws_json_value, style_of, GivesValue}
use Rattle.smithy_aws.proofs.BodyLemmas.{at_hand, given_on, whole_read, whole_refused}
use Rattle.smithy_aws.proofs.body_value.aws_json_value_with.Goals as goal

pub returns-in_err-body : goal.returns-in_err-body
returns-in_err-body c = λ n there.
    given_on _ c.in_err-body.field-0.0 c.from_residual.result (search rules)
    (gives_memory structure_of (Some (aws_json_value c.args.floors_times n c.args.response.now)) _ c.in_err-body.ensures.memory)

pub returns-in_err-value : goal.returns-in_err-value
returns-in_err-value c =
    let n = schema_of c.in-Some.schema in
    let held = at_hand _ c.of_node-wire.result (style_of false c.args.floors_times) _ c.args.response.now _ c.in_ok-body.ensures.begins.has c.of_node-wire.ensures.style c.of_node-wire.ensures.form c.body_bytes.ensures in
    at_the_place (λ m. GivesValue (aws_json_value c.args.floors_times m c.args.response.now) c.from_residual-in_err-value.result) c.args.table.now c.args.shape.0 n c.in-Some.ensures.node
    (given_on _ c.in_err-value.field-0.0 c.from_residual-in_err-value.result (search rules)
    (whole_refused c.args.floors_times n c.args.response.now c.new.result _ (c.new.ensures.node ∙ sym c.in-Some.ensures.node) held _ c.in_err-value.ensures.gives))

pub returns-in_err-present : goal.returns-in_err-present
returns-in_err-present c = λ n there.
    given_on _ _ c.from_residual-in_err-present.result (search rules)
    (gives_memory structure_of (Some (aws_json_value c.args.floors_times n c.args.response.now)) _ refl)

pub returns : goal.returns
returns c =
    let n = schema_of c.in-Some.schema in
    let held = at_hand _ c.of_node-wire.result (style_of false c.args.floors_times) _ c.args.response.now _ c.in_ok-body.ensures.begins.has c.of_node-wire.ensures.style c.of_node-wire.ensures.form c.body_bytes.ensures in
    at_the_place (λ m. GivesValue (aws_json_value c.args.floors_times m c.args.response.now) (Ok c.in_ok-present.field-0)) c.args.table.now c.args.shape.0 n c.in-Some.ensures.node
    (whole_read c.args.floors_times n c.args.response.now c.new.result _ (c.new.ensures.node ∙ sym c.in-Some.ensures.node) held _ _ c.in_ok-value.ensures.gives c.in_ok-present.ensures.members)
