use Rattle.std.proofs.Common.{◌≡◌, Err, [], ◌∷◌, ◌++◌, length, sym, ap, subst, ◌∙◌}
use Rattle.serde_json.specs.Data.{no_members, put}
use Rattle.smithy_types.specs.Maps.{IsOrdered}
use Rattle.smithy_json.specs.views.JsonView.{Member, view, members_view, entries}
use Rattle.smithy_json.specs.PutMembers.{put_all, place_of}
use Rattle.smithy_json.proofs.OrderLemmas.{put_as_they_stand, pushed_in_order}
use Rattle.smithy_json.proofs.ReadingLemmas.{one_put}
use Rattle.smithy_json.proofs.in_order.add_member.Goals as goal

pub returns-then-belongs_last-clause-put : goal.returns-then-belongs_last-clause-put
returns-then-belongs_last-clause-put c =
    let member : Member = (c.args.name, c.args.value) in
    ap (λ ms. put_all (entries ms) no_members) (c.in_ok-push.ensures.items ∙ ap (λ ms. ms ++ member ∷ []) c.in_ok-make_room.ensures) ∙ one_put c.args.members.now.items member

pub returns-then-belongs_last-clause-ordered : goal.returns-then-belongs_last-clause-ordered
returns-then-belongs_last-clause-ordered c _ =
    let member : Member = (c.args.name, c.args.value) in
    let same = c.as_slice.ensures.value ∙ c.in_ok-make_room.ensures in
    let ordered = c.requires c.if-are_ordered.true in
    let last : place_of c.args.name.now (entries c.args.members.now.items) ≡ Err (length c.args.members.now.items) =
    subst (λ ms. IsOrdered (entries ms) → place_of c.args.name.now (entries ms) ≡ Err (length ms)) same (c.belongs_last.ensures c.if-belongs_last.true) ordered in
    subst (λ ms. IsOrdered (entries ms)) (sym (c.in_ok-push.ensures.items ∙ ap (λ ms. ms ++ member ∷ []) c.in_ok-make_room.ensures)) (pushed_in_order c.args.members.now.items member ordered last)

pub returns-then-len-lt-FEW_MEMBERS-clause-put : goal.returns-then-len-lt-FEW_MEMBERS-clause-put
returns-then-len-lt-FEW_MEMBERS-clause-put c =
    let now = c.in_ok-put_member.ensures in
    let were = put_as_they_stand c.args.members.now.items (c.requires c.if-are_ordered-2.true) in
    put_as_they_stand c.put_member.new.members.items now.ordered ∙ now.put
    ∙ ap (put c.args.name.now (view c.args.value)) (ap members_view c.in_ok-make_room.ensures ∙ sym were)

pub returns-clause-put : goal.returns-clause-put
returns-clause-put c =
    let member : Member = (c.args.name, c.args.value) in
    ap (λ ms. put_all (entries ms) no_members) (c.in_ok-push-2.ensures.items ∙ ap (λ ms. ms ++ member ∷ []) c.in_ok-make_room.ensures) ∙ one_put c.args.members.now.items member
