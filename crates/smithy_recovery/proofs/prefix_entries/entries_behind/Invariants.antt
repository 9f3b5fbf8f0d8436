use Rattle.std.proofs.Common.{◌≡◌, []}
use Rattle.smithy_recovery.specs.views.KeptEntries.{headers_put}
use Rattle.smithy_recovery.specs.views.NameOrder.{texts_seen}
use Rattle.smithy_recovery.proofs.prefix_entries.entries_behind.Given as goal

abbrev pub invariant-loop-name : goal.invariant-loop-name
invariant-loop-name l = headers_put l.prefix l.name-iterator (texts_seen l.entries) ≡ headers_put l.prefix l.fn.headers []
