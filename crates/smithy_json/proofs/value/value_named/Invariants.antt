use Rattle.std.proofs.Common.{◌≡◌, drop}
use Rattle.serde_json.specs.Find.{get_member}
use Rattle.smithy_json.specs.views.JsonView.{members_view}
use Rattle.smithy_json.proofs.value.value_named.Given as goal

abbrev pub invariant-loop-member : goal.invariant-loop-member
invariant-loop-member l = get_member l.name (members_view (drop l.member-index l.members)) ≡ get_member l.name (members_view l.members)
