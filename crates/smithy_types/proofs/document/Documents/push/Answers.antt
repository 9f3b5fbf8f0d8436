use Rattle.std.proofs.Common.{map, sym, ap, ◌∙◌}
use Rattle.smithy_types.specs.Documents.{items_of}
use Rattle.smithy_types.specs.Documents.{items_snoc}
use Rattle.smithy_types.specs.views.DocumentView.{view}
use Rattle.smithy_types.proofs.Views.{items_rolled, items_out, items_pushed}
use Rattle.smithy_types.proofs.document.Documents.push.Goals as goal

pub returns-clause-ok : goal.returns-clause-ok
returns-clause-ok c =
    items_rolled c.push.new.self
    ∙ ap (λ ds. items_of (map view ds)) c.in_ok-push.ensures.items
    ∙ items_pushed _ c.args.item
    ∙ ap (λ ds. items_snoc ds (view c.args.item)) (sym (items_out c.args.self.now))
