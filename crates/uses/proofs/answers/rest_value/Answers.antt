use Rattle.std.proofs.Common.{rules, refl, ap, subst, Some}
use Rattle.std.specs.Prelude.{option_and_then}
use Rattle.smithy_http.specs.declared.non_utf8.NonUtf8HeaderHandling.TheVariants.{Reject}
use Rattle.smithy_schema.specs.Nodes.{at_place}
use Rattle.smithy_serde.specs.ValueReading.{structure_of}
use Rattle.smithy_serde.proofs.ReadValue.{gives_memory}
use Rattle.smithy_aws.specs.BodyValues.{GivesValue}
use Rattle.smithy_aws.specs.ResponseShapes.{shape_of}
use Rattle.smithy_aws.specs.ResponseValues.{floored, rest_json1_value, taken}
use Rattle.uses.specs.AwsAnswers.{rest_value}
use Rattle.uses.proofs.AwsAnswering.{not_read, passed_on, read_by}
use Rattle.uses.proofs.answers.rest_value.Goals as goal

pub returns-in_default : goal.returns-in_default
returns-in_default c =
    not_read structure_of (option_and_then (taken c.args.is_error) (at_place c.args.table.now c.args.place.0)) (λ s. rest_json1_value (floored s) c.args.response.now Reject)
    c.unread.result (ap (option_and_then (taken c.args.is_error)) c.in_default.ensures.node) c.unread.ensures

pub returns-in_err-shape : goal.returns-in_err-shape
returns-in_err-shape c =
    let answer = rest_value c.args.table.now c.args.place.0 c.args.is_error c.args.response.now in
    passed_on structure_of answer _ c.from_residual.result (search rules) (gives_memory structure_of (Some answer) _ refl)

pub returns-in-Some-2 : goal.returns-in-Some-2
returns-in-Some-2 c =
    read_by structure_of (option_and_then (taken c.args.is_error) (at_place c.args.table.now c.args.place.0)) (λ s. rest_json1_value (floored s) c.args.response.now Reject)
    (shape_of c.in-Some-2.shape) c.value.result (rw c.in-Some-2.is at c.in_ok-shape.ensures) (subst (λ s. GivesValue (rest_json1_value s c.args.response.now Reject) c.value.result) c.with_floored_times-shape.ensures c.value.ensures)

pub returns-in-None : goal.returns-in-None
returns-in-None c =
    not_read structure_of (option_and_then (taken c.args.is_error) (at_place c.args.table.now c.args.place.0)) (λ s. rest_json1_value (floored s) c.args.response.now Reject)
    c.unread-in-None.result (rw c.in-None.is at c.in_ok-shape.ensures) c.unread-in-None.ensures
