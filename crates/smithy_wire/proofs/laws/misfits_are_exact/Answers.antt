use Rattle.smithy_wire.proofs.FollowLemmas.{value_is_exact, whole_is_exact, body_is_exact}
use Rattle.smithy_wire.proofs.laws.misfits_are_exact.Goals as goal

pub returns-clause-value : goal.returns-clause-value
returns-clause-value c = value_is_exact

pub returns-clause-whole : goal.returns-clause-whole
returns-clause-whole c = whole_is_exact

pub returns-clause-body : goal.returns-clause-body
returns-clause-body c = body_is_exact
