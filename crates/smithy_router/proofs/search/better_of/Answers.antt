use Rattle.smithy_router.proofs.Common.{◌∙◌, sym, Some, None, best_seen}
use Rattle.smithy_router.proofs.Found.{at_entry}
use Rattle.smithy_router.proofs.search.better_of.Goals as goal

pub returns-in-Some : goal.returns-in-Some
returns-in-Some c =
    let s = c.args.search.now in
    c.better.ensures ∙ sym (at_entry s.method.now s.target.now s.tree.now.entries.items (best_seen c.args.best) c.args.number (Some c.in-Some.entry.now) (rw c.deref.ensures.value at c.in-Some.ensures))

pub returns-in-None : goal.returns-in-None
returns-in-None c =
    let s = c.args.search.now in
    sym (at_entry s.method.now s.target.now s.tree.now.entries.items (best_seen c.args.best) c.args.number None (rw c.deref.ensures.value at c.in-None.ensures))
