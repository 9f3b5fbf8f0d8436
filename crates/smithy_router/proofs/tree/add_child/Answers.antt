use Rattle.smithy_router.proofs.Common.{◌≡◌, length, arith, refl, segment_seen}
use Rattle.smithy_router.proofs.Growing.{child_added, child_not_put, read_before}
use Rattle.smithy_router.proofs.tree.add_child.Goals as goal

pub returns-in_err-put_child-clause-grown : goal.returns-in_err-put_child-clause-grown
returns-in_err-put_child-clause-grown c =
    let old = c.args.nodes.now.items in
    let mid = c.push.new.self.items in
    child_not_put old mid _ c.args.place c.new.result c.index_mut.result.now c.put_child.new.self c.in_ok-push.ensures.items c.new.ensures
    (read_before old mid c.new.result c.args.place c.index_mut.result.now c.in_ok-push.ensures.items c.requires.place c.index_mut.ensures.value) refl c.in_err-put_child.ensures.err

pub returns-clause-grown : goal.returns-clause-grown
returns-clause-grown c =
    let old = c.args.nodes.now.items in
    let mid = c.push.new.self.items in
    let is : c.len-child.result ≡ length old = omega (arith, c.args.nodes.now.ok.0, c.len-child.ensures) in
    let at = read_before old mid c.new.result c.args.place c.index_mut.result.now c.in_ok-push.ensures.items c.requires.place c.index_mut.ensures.value in
    let both = child_added old mid _ c.args.place c.len-child.result (segment_seen c.args.segment.now) c.new.result c.index_mut.result.now c.put_child.new.self
    c.in_ok-push.ensures.items c.new.ensures c.requires.place is c.requires.absent at refl c.in_ok-put_child.ensures.ok in
    both.0

pub returns-clause-child : goal.returns-clause-child
returns-clause-child c =
    let old = c.args.nodes.now.items in
    let mid = c.push.new.self.items in
    let is : c.len-child.result ≡ length old = omega (arith, c.args.nodes.now.ok.0, c.len-child.ensures) in
    let at = read_before old mid c.new.result c.args.place c.index_mut.result.now c.in_ok-push.ensures.items c.requires.place c.index_mut.ensures.value in
    let both = child_added old mid _ c.args.place c.len-child.result (segment_seen c.args.segment.now) c.new.result c.index_mut.result.now c.put_child.new.self
    c.in_ok-push.ensures.items c.new.ensures c.requires.place is c.requires.absent at refl c.in_ok-put_child.ensures.ok in
    both.1
