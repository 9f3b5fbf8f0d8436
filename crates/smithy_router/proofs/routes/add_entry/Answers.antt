use Rattle.smithy_router.proofs.Common.{◌≡◌, refl, length, arith, route_seen}
use Rattle.smithy_router.proofs.Growing.{sound_still, sound_more}
use Rattle.smithy_router.proofs.routes.add_entry.Goals as goal

pub returns-in_err-put_end-clause-sound : goal.returns-in_err-put_end-clause-sound
returns-in_err-put_end-clause-sound c =
    sound_still c.args.tree.now (record { entries = c.args.tree.now.entries; nodes = c.put_end.new.nodes }) c.requires.sound c.put_end.ensures.grown refl

pub returns-clause-sound : goal.returns-clause-sound
returns-clause-sound c =
    let number : c.len.result ≡ length c.args.tree.now.entries.items = omega (arith, c.args.tree.now.entries.ok.0, c.len.ensures) in
    sound_more c.args.tree.now (record { entries = c.push_entry.new.entries; nodes = c.put_end.new.nodes }) (route_seen c.args.route) c.args.operation.now c.len.result c.push_entry.result
    c.requires.sound c.requires.route c.requires.apart c.put_end.ensures.grown number c.in_ok-put_end.ensures.ends c.push_entry.ensures.ok c.push_entry.ensures.err
