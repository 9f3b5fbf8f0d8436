use Rattle.std.proofs.Common.{rules}
use Rattle.smithy_serde.specs.views.Handing.{at_members}
use Rattle.smithy_serde.proofs.ReadWalk.{not_opened, begins, halted, taken, hidden, answered}
use Rattle.smithy_serde.proofs.consumers.read_struct.Goals as goal

pub returns-in_err-open_struct : goal.returns-in_err-open_struct
returns-in_err-open_struct g c = let whole = not_opened {takes = at_members g.M.MemberConsumer.takes} g.met.M.MemberConsumer.laws c.args.consumer.now _ _ _ c.in_err-open_struct.ensures in search rules

pub loop-member-init : goal.loop-member-init
loop-member-init g c = begins g.met.M.MemberConsumer.laws _ _ _ c.in_ok-open_struct.ensures

pub returns-in_err-member : goal.returns-in_err-member
returns-in_err-member g c = let whole = halted g.met.M.MemberConsumer.laws _ _ _ _ _ _ c.loop-member.invariant c.in_err-member.ensures in search rules

pub returns-in_err-settle : goal.returns-in_err-settle
returns-in_err-settle g c =
    let item = rw c.in-Some.is at c.in_ok-member.ensures in
    let whole = answered g.met.M.MemberConsumer.laws _ _ _ _ _ _ _ _ _ _ _ c.loop-member.invariant item.advanced c.in-Err.ensures c.in_err-settle.ensures in search rules

pub loop-member-preserved : goal.loop-member-preserved
loop-member-preserved g c =
    let item = rw c.in-Some.is at c.in_ok-member.ensures in
    taken g.met.M.MemberConsumer.laws _ _ _ _ _ _ _ _ c.loop-member.invariant item.advanced c.in_default-member.ensures

pub loop-member-preserved-in-Continue-branch-4 : goal.loop-member-preserved-in-Continue-branch-4
loop-member-preserved-in-Continue-branch-4 g c =
    let item = rw c.in-Some.is at c.in_ok-member.ensures in
    hidden g.met.M.MemberConsumer.laws _ _ _ _ _ _ _ _ _ _ c.loop-member.invariant item.advanced c.in-Err.ensures c.in_ok-settle.ensures
