use Rattle.std.proofs.Common.{◌≡◌, ℕ, List, drop, map}
use Rattle.std.specs.Option.{option_or}
use Rattle.smithy_types.specs.Texts.{found}
use Rattle.smithy_recovery.specs.views.Kept.{label_seen, text_in_map}
use Rattle.smithy_recovery.proofs.path_texts.texts_in_map.Given as goal

abbrev pub invariant-loop-label : goal.invariant-loop-label
invariant-loop-label l =
    (name : List ℕ) → option_or (text_in_map l.texts name) (found name (map label_seen (drop l.label-index l.labels))) ≡ found name (map label_seen l.labels)
