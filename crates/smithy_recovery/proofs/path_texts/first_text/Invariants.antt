use Rattle.std.proofs.Common.{◌≡◌, drop, map}
use Rattle.smithy_types.specs.Texts.{found}
use Rattle.smithy_recovery.specs.views.Kept.{label_seen}
use Rattle.smithy_recovery.proofs.path_texts.first_text.Given as goal

abbrev pub invariant-loop-label : goal.invariant-loop-label
invariant-loop-label l = found l.name (map label_seen (drop l.label-index l.labels)) ≡ found l.name (map label_seen l.labels)
