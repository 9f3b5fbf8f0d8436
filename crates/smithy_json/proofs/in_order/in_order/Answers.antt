use Rattle.std.proofs.Common.{sym}
use Rattle.smithy_json.proofs.OrderLemmas.{put_as_they_stand}
use Rattle.smithy_json.proofs.in_order.in_order.Goals as goal

pub returns-then-are_ordered : goal.returns-then-are_ordered
returns-then-are_ordered c = sym (put_as_they_stand c.args.members.items (c.requires c.if-are_ordered.true))
