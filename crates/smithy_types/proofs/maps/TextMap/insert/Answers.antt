use Rattle.std.proofs.Common.{◌∙◌, ap, map}
use Rattle.smithy_types.specs.views.MapViews.{pair_of}
use Rattle.smithy_types.proofs.MapLemmas.{pairs-insert_entry}
use Rattle.smithy_types.proofs.maps.TextMap.insert.Goals as goal

pub returns-clause-ok : goal.returns-clause-ok
returns-clause-ok c =
    ap (map pair_of) c.in_ok-insert.ensures.entries
    ∙ pairs-insert_entry c.self.inside.entries.entries c.into_string.result c.args.value
    ∙ rw (c.into_string.ensures, c.self.view_is)
