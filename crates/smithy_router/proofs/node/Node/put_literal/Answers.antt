use Rattle.smithy_router.proofs.Growing.{has_literal}
use Rattle.smithy_router.proofs.node.Node.put_literal.Goals as goal

pub returns-clause-ok : goal.returns-clause-ok
returns-clause-ok c = has_literal c.args.self.now c.insert.new.self c.in_ok-text.text c.args.text.now c.args.child c.in_ok-text.ensures.ok c.in_ok-insert.ensures.updates
