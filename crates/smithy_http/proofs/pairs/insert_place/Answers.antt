use Rattle.std.proofs.Common.{map}
use Rattle.std.proofs.lemmas.List.{length-map}
use Rattle.smithy_http.specs.views.Pairs.{name_of}
use Rattle.smithy_http.proofs.PlaceLemmas.{IsIndex-push}
use Rattle.smithy_http.proofs.pairs.insert_place.Goals as goal

pub returns-clause-ok : goal.returns-clause-ok
returns-clause-ok c =
    IsIndex-push c.args.places.now c.insert.new.self c.args.name (map name_of c.args.pairs.now) c.requires.index c.requires.new
    (rw (length-map c.args.pairs.now name_of) c.in_ok-insert.ensures.updates)
