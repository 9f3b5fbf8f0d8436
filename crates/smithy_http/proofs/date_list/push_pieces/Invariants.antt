use Rattle.std.proofs.Common.{◌≡◌, length}
use denote.Shadow.{shadow}
use denote.Text.{Utf8}
use Rattle.smithy_http.specs.DateLists.{cut_at_commas, dates_in}
use Rattle.smithy_http.proofs.Gathering.{behind}
use Rattle.smithy_http.proofs.date_list.push_pieces.Given as goal

abbrev pub invariant-loop-rest : goal.invariant-loop-rest
invariant-loop-rest l =
    shadow (Utf8 l.text)
    × (behind l.seconds (dates_in l.format (cut_at_commas l.own_comma l.own_comma l.text)) ≡ behind l.fn.seconds (dates_in l.format (cut_at_commas l.own_comma l.own_comma l.fn.text)))

abbrev pub decreases-loop-rest : goal.decreases-loop-rest
decreases-loop-rest l = length l.text
