use Rattle.std.proofs.Common.{◌∙◌}
use Rattle.smithy_recovery.proofs.body_writes.unbound_writes.Goals as goal

pub returns-in-Ok : goal.returns-in-Ok
returns-in-Ok g c = record { writes = λ h told. c.members_at_hand.ensures.writes h (c.in-Ok.ensures.begins.has ∙ told); defined = c.members_at_hand.ensures.defined }
