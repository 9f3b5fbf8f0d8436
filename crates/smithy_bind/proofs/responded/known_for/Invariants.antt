use Rattle.std.proofs.Common.{drop}
use Rattle.smithy_job.specs.KeysView.{keys_seen}
use Rattle.smithy_bind.specs.views.ReplyView.{AreKnown}
use Rattle.smithy_bind.proofs.responded.known_for.Given as goal

abbrev pub invariant-loop-one : goal.invariant-loop-one
invariant-loop-one l = AreKnown (keys_seen l.keys).model (drop l.one-index l.known)
