use Rattle.std.proofs.Common.{◌≡◌, drop}
use Rattle.smithy_json.specs.views.JsonView.{items_view, members_view}
use Rattle.smithy_job.specs.WrongInputs.{wrong_items, wrong_members}
use Rattle.smithy_job.proofs.wrong_input.+wrong.Given as goal

abbrev pub invariant-wrong_items-loop-position : goal.invariant-wrong_items-loop-position
invariant-wrong_items-loop-position l = wrong_items l.position (items_view (drop l.position l.items)) ≡ wrong_items 0 (items_view l.items)

abbrev pub invariant-wrong_members-loop-member : goal.invariant-wrong_members-loop-member
invariant-wrong_members-loop-member l = wrong_members (members_view (drop l.member-index l.members)) ≡ wrong_members (members_view l.members)
