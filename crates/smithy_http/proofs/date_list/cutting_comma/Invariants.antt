use Rattle.std.proofs.Common.{◌≡◌, take, drop}
use Rattle.smithy_http.specs.DateLists.{cut_at_commas}
use Rattle.smithy_http.proofs.DateLemmas.{onto_all}
use Rattle.smithy_http.proofs.date_list.cutting_comma.Given as goal

abbrev pub invariant-loop-place : goal.invariant-loop-place
invariant-loop-place l =
    onto_all (take l.place l.bytes) (cut_at_commas l.own_comma l.stays (drop l.place l.bytes)) ≡ cut_at_commas l.own_comma l.own_comma l.bytes
