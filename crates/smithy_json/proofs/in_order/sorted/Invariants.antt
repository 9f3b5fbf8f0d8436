use Rattle.std.proofs.Common.{◌≡◌}
use Rattle.serde_json.specs.Data.{no_members}
use Rattle.smithy_json.specs.views.JsonView.{members_view, entries}
use Rattle.smithy_json.specs.PutMembers.{put_all}
use Rattle.smithy_json.proofs.in_order.sorted.Given as goal

abbrev pub invariant-members : goal.invariant-members
invariant-members l = put_all (entries l.name-iterator.rest.items) (members_view l.found.entries) ≡ put_all (entries l.fn.members.items) no_members
