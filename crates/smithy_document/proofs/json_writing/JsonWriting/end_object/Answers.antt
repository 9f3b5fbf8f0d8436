use Rattle.smithy_document.proofs.JsonEnds.{object_ends}
use Rattle.smithy_document.proofs.json_writing.JsonWriting.end_object.Goals as goal

pub returns-clause-ends : goal.returns-clause-ends
returns-clause-ends c = object_ends c.args.self.now c.order.new.self _ c.in_ok-order.ensures.ordered c.in_ok-order.ensures.fields c.in_ok-order.ensures.level c.truncate.ensures c.in_ok-push.ensures.items
