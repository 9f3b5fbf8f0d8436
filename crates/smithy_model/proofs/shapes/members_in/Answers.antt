use Rattle.std.proofs.Common.{◌∙◌, sym, map}
use Rattle.std.proofs.lemmas.List.{map-append}
use Rattle.smithy_json.specs.views.JsonView.{entry_of}
use Rattle.smithy_model.specs.Shapes.{member_in}
use Rattle.smithy_model.specs.views.ModelView.{member_view}
use Rattle.smithy_model.proofs.Each.{each_item}
use Rattle.smithy_model.proofs.shapes.members_in.Goals as goal

pub loop-member-preserved : goal.loop-member-preserved
loop-member-preserved c =
    rw (c.in_ok-push.ensures.items, map-append)
    (sym (each_item entry_of member_in (map member_view c.loop-member.found.items) (member_view c.in-Some.member) c.args.members.now c.loop-member.member-index c.member-item.result c.loop-member-test.true c.member-item.is (sym c.in-Some.ensures)) ∙ c.loop-member.invariant)
