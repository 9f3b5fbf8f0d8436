use Rattle.smithy_document.proofs.Common.{List, ℕ, ◌<◌, option_map, sym, ap, ◌∙◌, arith, node_view}
use Rattle.smithy_document.proofs.TreeLemmas.{handed, none_handed}
use Rattle.smithy_document.proofs.json_tree_cursor.last_part.Goals as goal

pub returns-in-Some : goal.returns-in-Some
returns-in-Some c =
    let texts : List (List ℕ) = c.args.tree.now.texts in
    let some : 0 < c.args.spot.now.next = omega (arith, c.if-spot-eq0.false) in
    handed (node_view texts c.args.container.now) c.args.spot.now (node_view texts c.in-Some.part.now) some (sym (c.part.ensures texts) ∙ ap (option_map (λ n. node_view texts n.now)) c.in-Some.is)

pub returns-in-None : goal.returns-in-None
returns-in-None c =
    let texts : List (List ℕ) = c.args.tree.now.texts in
    let some : 0 < c.args.spot.now.next = omega (arith, c.if-spot-eq0.false) in
    none_handed (node_view texts c.args.container.now) c.args.spot.now some (sym (c.part.ensures texts) ∙ ap (option_map (λ n. node_view texts n.now)) c.in-None.is)
