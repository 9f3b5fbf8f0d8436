use Rattle.smithy_router.proofs.Common.{◌≡◌, refl, length, arith}
use Rattle.smithy_router.proofs.Conflicting.{first_found}
use Rattle.smithy_router.proofs.conflict.first_conflict.Goals as goal

pub returns : goal.returns
returns c =
    let number : c.len.result ≡ length c.args.tree.now.entries.items = omega (arith, c.args.tree.now.entries.ok.0, c.len.ensures) in
    first_found (record { tree = c.args.tree; route = c.args.route }) c.levels_of.result c.first_below-first.result c.method_node-start.result _ c.entry_at.result c.requires.indexed c.levels_of.ensures
    (rw (c.deref.ensures.value, c.as_str.ensures.value) at c.method_node-start.ensures) refl
    (rw (number, c.deref-2.ensures.value) at c.first_below-first.ensures) (rw c.deref-3.ensures.value at c.entry_at.ensures)
