use Rattle.smithy_binding.proofs.Common.{◌++◌, string_bytes, writes_in, list_of, pairs_with, element_text, queries}
use Rattle.smithy_strings.specs.declared.wire.Place.TheVariants as at
use Rattle.smithy_binding.proofs.ElementSteps.{HasWritten, left}
use Rattle.smithy_binding.proofs.elements.push_elements.Given as goal

abbrev pub invariant-loop-node : goal.invariant-loop-node
invariant-loop-node l =
    HasWritten (element_text at.Query) (list_of (writes_in l.table l.elements)) (left l.table l.node-iterator)
    (λ texts. string_bytes l.initial.query ++ queries (pairs_with l.name texts)) (string_bytes l.query)
