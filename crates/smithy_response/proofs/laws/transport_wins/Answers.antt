use Rattle.smithy_response.proofs.TransportLaw.{transport_is_heard}
use Rattle.smithy_response.proofs.laws.transport_wins.Goals as goal

pub returns : goal.returns
returns c = transport_is_heard
