use Rattle.smithy_bind.proofs.recovered.input_of.Goals as goal

pub returns : goal.returns
returns c = λ s at. rw c.rest_json-protocol.ensures.content_type at (c.recover_request.ensures.value s at)
