use Rattle.std.proofs.Common.{map, sym, ap, ◌∙◌}
use Rattle.std.specs.List.{slice_get}
use Rattle.smithy_types.specs.views.DocumentView.{view}
use Rattle.smithy_types.proofs.Lookups.{seen_at, list_of_items_view}
use Rattle.smithy_types.proofs.document.Documents.get.Goals as goal

pub returns : goal.returns
returns c =
    seen_at view c.deref.result.now c.args.place c.get.result c.get.ensures.lookup
    ∙ ap (λ ds. slice_get (map view ds) c.args.place) c.deref.ensures.value
    ∙ ap (λ ds. slice_get ds c.args.place) (sym (list_of_items_view c.args.self.now))
