use Rattle.std.proofs.Common.{◌∙◌}
use Rattle.smithy_recovery.proofs.body_writes.codec_payload.Goals as goal

pub returns-in-Ok : goal.returns-in-Ok
returns-in-Ok g c = record { value = λ h told. c.value_at_hand.ensures.value h (c.in-Ok.ensures.begins.has ∙ told); defined = c.value_at_hand.ensures.defined }
