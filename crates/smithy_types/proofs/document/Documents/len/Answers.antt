use Rattle.std.proofs.Common.{length, sym, ap, ◌∙◌}
use Rattle.std.proofs.lemmas.List.{length-map}
use Rattle.smithy_types.specs.declared.document.Documents.{out-Documents}
use Rattle.smithy_types.specs.views.DocumentView.{view}
use Rattle.smithy_types.proofs.Lookups.{list_of_items_view}
use Rattle.smithy_types.proofs.document.Documents.len.Goals as goal

pub returns : goal.returns
returns c =
    ap length c.as_slice.ensures.value
    ∙ sym (length-map (out-Documents c.args.self.now).items.items view)
    ∙ ap length (sym (list_of_items_view c.args.self.now))
