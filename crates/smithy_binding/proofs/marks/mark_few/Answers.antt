use Rattle.std.proofs.Common.{true}
use Rattle.std.proofs.Math.Seq.{take-set-lt}
use Rattle.smithy_binding.proofs.marks.mark_few.Goals as goal

pub returns-then-position-few : goal.returns-then-position-few
returns-then-position-few c = take-set-lt c.args.few.now.count c.args.few.now.marks c.args.position true c.if-position-few.true
