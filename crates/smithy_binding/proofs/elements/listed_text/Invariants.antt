use Rattle.smithy_binding.proofs.Common.{◌≡◌, ◌==◌, length, string_bytes, writes_in, list_of, element_text}
use Rattle.smithy_strings.specs.declared.wire.Place.TheVariants as at
use Rattle.smithy_strings.specs.Lists.{listed}
use Rattle.smithy_binding.proofs.ElementSteps.{HasWritten, left}
use Rattle.smithy_binding.proofs.elements.listed_text.Given as goal

-- the list has the texts so far, and the first is still to come where there are none
abbrev pub invariant-loop-node : goal.invariant-loop-node
invariant-loop-node l =
    (so_far : HasWritten (element_text at.Header) (list_of (writes_in l.table l.elements)) (left l.table l.node-iterator) (listed l.kind) (string_bytes l.list))
    × (l.is_first ≡ (length so_far.texts == 0))
