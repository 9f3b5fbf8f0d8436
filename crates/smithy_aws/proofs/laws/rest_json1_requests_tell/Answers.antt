use Rattle.smithy_aws.specs.views.Inputs.{input_of}
use Rattle.smithy_aws.proofs.RestTelling.{by_names, rest_json1_tells}
use Rattle.smithy_aws.proofs.laws.rest_json1_requests_tell.Goals as goal

pub returns : goal.returns
returns c =
    let s = input_of c.args.by.now in
    rest_json1_tells s c.args.by.now.taken c.schema_is_well_made.ensures
    (by_names s _ _ c.of_input-wire.ensures.names c.of_input-wire.ensures.form c.bodies_tell.ensures)
