use Rattle.smithy_document.proofs.Common.{drop}
use Rattle.smithy_document.proofs.JsonOrder.{in_order_copied}
use Rattle.smithy_document.proofs.json_fields.JsonFields.in_order.Goals as goal

pub returns : goal.returns
returns c = in_order_copied _ c.args.text.now (drop c.args.first c.args.self.now.list.items) _ c.copied.result c.in_ok-spans.ensures c.copied.ensures
