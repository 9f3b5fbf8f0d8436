use Rattle.std.proofs.Common.{refl}
use Rattle.std.proofs.lemmas.List.{map-append}
use Rattle.smithy_model.proofs.NodeLemmas.{range-more}
use Rattle.smithy_model.proofs.nodes.indexes_from.Goals as goal

pub loop-position-preserved : goal.loop-position-preserved
loop-position-preserved c = rw (c.in_ok-push.ensures.items, map-append, range-more, ← c.in_ok-index_behind.ensures, c.loop-position.invariant) refl
