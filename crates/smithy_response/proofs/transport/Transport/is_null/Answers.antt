use Rattle.smithy_response.proofs.Containers.{not_null}
use Rattle.smithy_response.proofs.transport.Transport.is_null.Goals as goal

pub returns-clause-told : goal.returns-clause-told
returns-clause-told c = not_null c.args.self.now.response c.args.self.now.member
