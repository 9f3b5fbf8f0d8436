-- What is recovered is exact.
use Rattle.smithy_serde.specs.Lawful.{IsLawfulText}
use Rattle.smithy_recovery.specs.Recovered.{Reading, RecoveredIsExact}
use Rattle.smithy_recovery.proofs.Exact.{exact_by}
use Rattle.smithy_recovery.proofs.ReadingBack.{reads_by}

pub recovered_is_exact : (r : Reading) → IsLawfulText r.protocol.text_of r.holds → RecoveredIsExact r
recovered_is_exact r lawful = exact_by r (reads_by r lawful)
