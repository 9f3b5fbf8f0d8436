use Rattle.std.proofs.Common.{map, sym, ap, ◌∙◌}
use Rattle.smithy_types.specs.Documents.{items_of}
use Rattle.smithy_types.specs.views.DocumentView.{view}
use Rattle.smithy_types.proofs.Views.{items_out}
use Rattle.smithy_types.proofs.document.Documents.as_slice.Goals as goal

pub returns : goal.returns
returns c = ap (λ ds. items_of (map view ds)) c.as_slice.ensures.value ∙ sym (items_out c.args.self.now)
