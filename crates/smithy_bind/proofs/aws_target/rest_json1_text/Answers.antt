use Rattle.std.proofs.Common.{ap, sym, ◌∙◌, option_and_then}
use Rattle.smithy_aws.specs.ResponseShapes.{shape_of}
use Rattle.smithy_aws.specs.ResponseValues.{taken}
use Rattle.smithy_bind.proofs.AwsLemmas.{no_shape_read, shape_read}
use Rattle.smithy_bind.proofs.aws_target.rest_json1_text.Goals as goal

pub returns-in_default : goal.returns-in_default
returns-in_default c = λ s at. no_shape_read c.args.floors_times c.args.is_error s c.args.message.now ((rw c.in_default.is at c.in_ok-shape.ensures) ∙ ap (option_and_then (taken c.args.is_error)) at)

pub returns : goal.returns
returns c = λ s at.
    shape_read c.args.floors_times c.args.is_error s c.args.message.now (shape_of c.in-Some.shape) c.value-value.result c.value_text.result
    ((rw c.in-Some.is at c.in_ok-shape.ensures) ∙ ap (option_and_then (taken c.args.is_error)) at) (shape_of c.floored_if-shape.result) c.floored_if-shape.ensures c.value-value.ensures c.value_text.ensures
