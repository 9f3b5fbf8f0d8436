use Rattle.std.proofs.Common.{rules, ◌+◌, ap, drop}
use Rattle.std.proofs.Math.ListN.{drop_of_length-le}
use Rattle.smithy_schema.specs.Places.{places_of}
use Rattle.smithy_recovery.specs.views.KeptMembers.{is_sound_at}
use Rattle.smithy_recovery.proofs.MembersAdded.{going_begins, going_on, going_stops, going_ends, sound_place, places_further}
use Rattle.smithy_recovery.proofs.member_values.push_members.Goals as goal

pub loop-place-init : goal.loop-place-init
loop-place-init g c = going_begins (g.C.Codec.holds c.args.codec.now) c.args.cut.now (places_of c.args.places.now) c.args.writes.now

pub push_member-requires : goal.push_member-requires
push_member-requires g c = sound_place (is_sound_at c.args.cut.now.table.now) c.args.places.now c.loop-place.place-index _ c.loop-place-test.true c.requires

pub returns-in_err-push_member : goal.returns-in_err-push_member
returns-in_err-push_member g c =
    let ps = c.args.places.now in
    let i = c.loop-place.place-index in
    going_stops _ _ (g.C.Codec.holds c.args.codec.now) c.args.cut.now (places_of ps) (places_of (drop i ps)) (places_of (drop (i + 1) ps)) _ c.args.writes.now c.loop-place.writes c.push_member.new.writes c.push_member.new.writes c.in_err-push_member.field-0.0 c.from_residual.result
    c.in_err-push_member.ensures (places_further ps i _ c.loop-place-test.true) (search rules) c.loop-place.invariant

pub loop-place-preserved : goal.loop-place-preserved
loop-place-preserved g c =
    let ps = c.args.places.now in
    let i = c.loop-place.place-index in
    going_on (g.C.Codec.holds c.args.codec.now) c.args.cut.now (places_of ps) (places_of (drop i ps)) (places_of (drop (i + 1) ps)) _ c.args.writes.now c.loop-place.writes c.push_member.new.writes _
    c.in_ok-push_member.ensures (places_further ps i _ c.loop-place-test.true) c.loop-place.invariant

pub returns : goal.returns
returns g c =
    let ps = c.args.places.now in
    going_ends (g.C.Codec.holds c.args.codec.now) c.args.cut.now (places_of ps) (places_of (drop c.loop-place.place-index ps)) c.args.writes.now c.loop-place.writes _ (ap places_of (drop_of_length-le ps c.loop-place-test.false)) c.loop-place.invariant
