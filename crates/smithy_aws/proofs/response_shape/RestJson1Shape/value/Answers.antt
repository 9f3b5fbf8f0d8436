use Rattle.std.proofs.Common.{rules, refl, true, Some}
use Rattle.smithy_serde.specs.ValueReading.{structure_of}
use Rattle.smithy_serde.proofs.ReadValue.{gives_memory}
use Rattle.smithy_aws.specs.BodyValues.{style_of}
use Rattle.smithy_aws.specs.ResponseShapes.{shape_of}
use Rattle.smithy_aws.specs.ResponseValues.{rest_json1_value}
use Rattle.smithy_aws.proofs.BodyLemmas.{at_hand, given_on}
use Rattle.smithy_aws.proofs.ShapeLemmas.{rest_read, rest_refused}
use Rattle.smithy_aws.proofs.response_shape.RestJson1Shape.value.Goals as goal

pub returns-in_err-body : goal.returns-in_err-body
returns-in_err-body c =
    given_on _ c.in_err-body.field-0.0 c.from_residual.result (search rules)
    (gives_memory structure_of (Some (rest_json1_value (shape_of c.args.self.now) c.args.response.now c.args.policy)) _ c.in_err-body.ensures.memory)

pub returns-in_err-value : goal.returns-in_err-value
returns-in_err-value c =
    let s = c.args.self.now in
    let held = at_hand _ c.wire.result (style_of true s.floors_times) _ c.args.response.now _ c.in_ok-body.ensures.begins.has c.wire.ensures.style c.wire.ensures.form c.body_bytes.ensures in
    given_on _ c.in_err-value.field-0.0 c.from_residual-in_err-value.result (search rules)
    (rest_refused s.table.now s.shape.0 s.is_error s.floors_times c.args.response.now c.args.policy _ s.has_node held _ c.in_err-value.ensures)

pub returns-in_err-present : goal.returns-in_err-present
returns-in_err-present c =
    given_on _ _ c.from_residual-in_err-present.result (search rules)
    (gives_memory structure_of (Some (rest_json1_value (shape_of c.args.self.now) c.args.response.now c.args.policy)) _ refl)

pub returns : goal.returns
returns c =
    let s = c.args.self.now in
    let held = at_hand _ c.wire.result (style_of true s.floors_times) _ c.args.response.now _ c.in_ok-body.ensures.begins.has c.wire.ensures.style c.wire.ensures.form c.body_bytes.ensures in
    rest_read s.table.now s.shape.0 s.is_error s.floors_times c.args.response.now c.args.policy _ s.has_node held _ _ c.in_ok-value.ensures c.in_ok-present.ensures.members
