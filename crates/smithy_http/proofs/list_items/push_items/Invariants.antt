use Rattle.std.proofs.Common.{◌≡◌, ◌++◌, length}
use denote.Shadow.{shadow}
use denote.Text.{Utf8}
use Rattle.smithy_types.specs.Results.{then_give}
use Rattle.smithy_http.specs.ListTexts.{list_texts}
use Rattle.smithy_http.proofs.list_items.push_items.Given as goal

abbrev pub invariant-loop-rest : goal.invariant-loop-rest
invariant-loop-rest l =
    shadow (Utf8 l.rest)
    × (then_give (list_texts l.rest) (λ texts. l.words ++ texts) ≡ then_give (list_texts l.fn.text) (λ texts. l.fn.words ++ texts))

abbrev pub decreases-loop-rest : goal.decreases-loop-rest
decreases-loop-rest l = length l.rest
