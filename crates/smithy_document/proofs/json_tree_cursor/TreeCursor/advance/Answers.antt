use Rattle.smithy_document.proofs.Common.{◌≡◌, ◌<◌, ◌≤◌, ◌+◌, List, ◌∷◌, ◌++◌, [], None, length, refl, sym, ap, ◌∙◌, subst, TreeSpot, ClosesAt, StepsTo, node_view, tree_view, part_name, parts_of, path_end, opened_along}
use Rattle.smithy_document.proofs.TreeLemmas.{closes, steps, is_there}
use Rattle.smithy_document.proofs.json_tree_cursor.TreeCursor.advance.Goals as goal

pub returns-then-spot-part_count : goal.returns-then-spot-part_count
returns-then-spot-part_count c =
    let root = tree_view c.args.tree.now in
    let outer : List TreeSpot = c.pop.new.self.items in
    let spot : TreeSpot = c.in-Some.spot in
    let container : node_view c.args.tree.now.texts c.node_at-container.result.now ≡ path_end root outer = c.node_at-container.ensures ∙ ap (path_end root) c.as_slice.ensures.value in
    let past : length (parts_of (path_end root outer)) ≤ spot.next = subst (λ n. n ≤ spot.next) (c.part_count.ensures c.args.tree.now.texts ∙ ap (λ d. length (parts_of d)) container) c.if-spot-part_count.true in
    subst (λ ps. ClosesAt (opened_along root ps) (path_end root outer) (opened_along root outer)) (sym c.in-Some.ensures.items) (closes root outer spot past)

pub returns : goal.returns
returns c =
    let root = tree_view c.args.tree.now in
    let outer : List TreeSpot = c.pop.new.self.items in
    let spot : TreeSpot = c.in-Some.spot in
    let next : TreeSpot = record { form = spot.form; next = spot.next + 1; member = None } in
    let container : node_view c.args.tree.now.texts c.node_at-container.result.now ≡ path_end root outer = c.node_at-container.ensures ∙ ap (path_end root) c.as_slice.ensures.value in
    let within : spot.next < length (parts_of (path_end root outer)) = subst (λ n. spot.next < n) (c.part_count.ensures c.args.tree.now.texts ∙ ap (λ d. length (parts_of d)) container) c.if-spot-part_count.false in
    let h = is_there (path_end root outer) spot.next within in
    let name : c.part_name.result.now ≡ h.part.0 = c.part_name.ensures ∙ ap (λ d. part_name d spot.next) container ∙ h.named in
    let whole = steps root outer spot next h.part refl refl h.there in
    subst (λ n. StepsTo n (opened_along root c.args.self.now.spots.items) (path_end root c.push_reserved.new.self.items) (opened_along root c.push_reserved.new.self.items)) (sym name)
    (subst (λ ps. StepsTo h.part.0 (opened_along root ps) (path_end root c.push_reserved.new.self.items) (opened_along root c.push_reserved.new.self.items)) (sym c.in-Some.ensures.items)
    (subst (λ ps. StepsTo h.part.0 (opened_along root (outer ++ spot ∷ [])) (path_end root ps) (opened_along root ps)) (sym c.push_reserved.ensures.items) whole))
