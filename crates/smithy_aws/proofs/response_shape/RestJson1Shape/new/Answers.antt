use Rattle.std.proofs.Common.{◌≡◌, true, false, rules}
use Rattle.smithy_schema.specs.References.{schema_of}
use Rattle.smithy_aws.specs.ResponseValues.{takes_responses}
use Rattle.smithy_aws.proofs.ShapeLemmas.{is_taken}
use Rattle.smithy_aws.proofs.response_shape.RestJson1Shape.new.Goals as goal

pub returns-then-not-branch : goal.returns-then-not-branch
returns-then-not-branch c =
    let not_taken : takes_responses (schema_of c.in-Some.schema) ≡ false = search rules in
    is_taken c.args.table.now c.args.shape.0 c.args.is_error (schema_of c.in-Some.schema) false c.requires c.in-Some.ensures.node not_taken

pub returns : goal.returns
returns c =
    let taken : takes_responses (schema_of c.in-Some.schema) ≡ true = search rules in
    is_taken c.args.table.now c.args.shape.0 c.args.is_error (schema_of c.in-Some.schema) true c.requires c.in-Some.ensures.node taken
