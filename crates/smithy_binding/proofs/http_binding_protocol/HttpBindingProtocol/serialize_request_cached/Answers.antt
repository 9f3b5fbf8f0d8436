use Rattle.smithy_binding.proofs.http_binding_protocol.HttpBindingProtocol.serialize_request_cached.Goals as goal

pub returns-clause-kept : goal.returns-clause-kept
returns-clause-kept g c = c.place_input-placed.ensures.kept

pub returns-clause-filled : goal.returns-clause-filled
returns-clause-filled g c = c.place_input-placed.ensures.named
