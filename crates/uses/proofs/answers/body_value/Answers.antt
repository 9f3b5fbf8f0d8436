use Rattle.std.proofs.Common.{true, sym}
use Rattle.smithy_schema.specs.Nodes.{at_place}
use Rattle.smithy_schema.specs.References.{schema_of}
use Rattle.smithy_serde.specs.ValueReading.{structure_of}
use Rattle.smithy_aws.specs.BodyValues.{aws_json_value}
use Rattle.uses.proofs.AwsAnswering.{not_read, read_by}
use Rattle.uses.proofs.answers.body_value.Goals as goal

pub returns-in_default : goal.returns-in_default
returns-in_default c =
    not_read structure_of (at_place c.args.table.now c.args.place.0) (λ n. aws_json_value true n c.args.response.now) c.unread.result c.in_default.ensures.node c.unread.ensures

pub returns : goal.returns
returns c =
    read_by structure_of (at_place c.args.table.now c.args.place.0) (λ n. aws_json_value true n c.args.response.now) (schema_of c.in-Some._node)
    c.aws_json_value_with.result c.in-Some.ensures.node (c.aws_json_value_with.ensures (schema_of c.in-Some._node) (sym c.in-Some.ensures.node))
