use Rattle.smithy_binding.proofs.Common.{◌≡◌, map, drop, found, label_pair}
use Rattle.smithy_binding.proofs.labels.first_text.Given as goal

abbrev pub invariant-loop-label : goal.invariant-loop-label
invariant-loop-label l = found l.name (map label_pair (drop l.label-index l.labels)) ≡ found l.name (map label_pair l.labels)
