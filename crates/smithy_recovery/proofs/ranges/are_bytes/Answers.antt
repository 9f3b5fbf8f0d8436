use Rattle.std.proofs.Common.{arith}
use Rattle.smithy_recovery.proofs.InRange.{bytes_within}
use Rattle.smithy_recovery.proofs.ranges.are_bytes.Goals as goal

pub returns : goal.returns
returns c = bytes_within c.args.bytes.now (λ k. omega (arith, c.type_inv.bytes k))
