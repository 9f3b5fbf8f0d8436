use Rattle.smithy_router.proofs.Common.{List, ℕ, ◌∷◌, ◌∙◌, ap, sym, best_seen, entries_of}
use Rattle.smithy_router.proofs.Cuts.{not_path}
use Rattle.smithy_router.proofs.Found.{found, none_matches}
use Rattle.smithy_router.proofs.search.best.Goals as goal

pub returns : goal.returns
returns c =
    let cut = c.in-Some.ensures.cases in
    found c.args.tree.now.nodes.items (entries_of c.args.tree.now) c.args.method.now c.args.target.now c.cut_target.result.0.now c.in-Some.rest.now c.method_node.result (best_seen c.best_below.result)
    c.requires.apart c.requires.indexed c.cut_target.ensures.path (cut.1.1 ∙ ap (λ (t : List ℕ). 47 ∷ t) (sym cut.2)) (rw c.deref.ensures.value at c.method_node.ensures) c.best_below.ensures

pub returns-in_default : goal.returns-in_default
returns-in_default c =
    none_matches c.args.method.now c.args.target.now (entries_of c.args.tree.now)
    (not_path c.args.target.now c.cut_target.result.0.now c.cut_target.ensures.path (λ rest e. c.in_default.ensures.cases rest e))
