use Rattle.smithy_document.proofs.Common.{◌≡◌, [], drop}
use Rattle.smithy_types.specs.Maps.{all_put}
use Rattle.smithy_document.specs.views.JsonFields.{spans_of, spans_in}
use Rattle.smithy_document.proofs.json_fields.JsonFields.spans.Given as goal

abbrev pub invariant-fields : goal.invariant-fields
invariant-fields l = all_put (spans_of l.whole (drop l.position l.self.list.items)) (spans_in l.spans.entries) ≡ all_put (spans_of l.whole (drop l.first l.self.list.items)) []
