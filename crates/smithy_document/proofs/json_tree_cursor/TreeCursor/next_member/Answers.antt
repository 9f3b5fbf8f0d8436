use Rattle.smithy_document.proofs.Common.{◌≡◌, true, List, ◌∷◌, ◌++◌, [], None, Some, refl, sym, ap, ◌∙◌, subst, schema_of, TreeSpot, ClosesBehind, StepsToMember, node_view, tree_view, parts_of, path_end, opened_along}
use Rattle.smithy_document.specs.views.KnownParts.{FindsKnown}
use Rattle.smithy_document.proofs.CursorLemmas.{member_next, members_closed}
use Rattle.smithy_document.proofs.TreeLemmas.{closes_behind, steps_to_member}
use Rattle.smithy_document.proofs.json_tree_cursor.TreeCursor.next_member.Goals as goal

pub returns-in_default-known_part : goal.returns-in_default-known_part
returns-in_default-known_part c =
    let root = tree_view c.args.tree.now in
    let node = schema_of c.args.schema in
    let outer : List TreeSpot = c.pop.new.self.items in
    let spot : TreeSpot = c.in-Some.spot in
    let container : node_view c.args.tree.now.texts c.node_at-container.result.now ≡ path_end root outer = c.node_at-container.ensures ∙ ap (path_end root) c.as_slice.ensures.value in
    let none = subst (λ d. FindsKnown node (parts_of d) spot.next None) container c.in_default-known_part.ensures in
    members_closed true node _ _ _ _ c.requires
    (subst (λ ps. ClosesBehind node (opened_along root ps) (path_end root outer) (opened_along root outer)) (sym c.in-Some.ensures.items) (closes_behind root outer spot node none))

pub returns : goal.returns
returns c =
    let root = tree_view c.args.tree.now in
    let node = schema_of c.args.schema in
    let m = schema_of c.in-Some-known_part.member in
    let outer : List TreeSpot = c.pop.new.self.items in
    let spot : TreeSpot = c.in-Some.spot in
    let next : TreeSpot = record { form = spot.form; next = c.in-Some-known_part.next; member = c.member_index.result } in
    let container : node_view c.args.tree.now.texts c.node_at-container.result.now ≡ path_end root outer = c.node_at-container.ensures ∙ ap (path_end root) c.as_slice.ensures.value in
    let found = subst (λ d. FindsKnown node (parts_of d) spot.next (Some (next.next, m))) container c.in-Some-known_part.ensures in
    let whole = steps_to_member root outer spot next node m refl found in
    member_next true node m _ _ _ _ c.requires
    (subst (λ ps. StepsToMember node m (opened_along root ps) (path_end root c.push_reserved.new.self.items) (opened_along root c.push_reserved.new.self.items)) (sym c.in-Some.ensures.items)
    (subst (λ ps. StepsToMember node m (opened_along root (outer ++ spot ∷ [])) (path_end root ps) (opened_along root ps)) (sym c.push_reserved.ensures.items) whole))
