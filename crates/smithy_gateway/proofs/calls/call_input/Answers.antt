use Rattle.std.proofs.Common.{rules, true, false, sym, subst, ◌∙◌, ap, option_and_then}
use Rattle.smithy_gateway.specs.Words.{members_of, list_of, held_writes, Reading, Finds}
use Rattle.smithy_gateway.specs.Calls.{Calling, calling_by}
use Rattle.smithy_gateway.specs.Gateway.{posted_form}
use Rattle.smithy_gateway.specs.views.Sending.{reading_at}
use Rattle.smithy_gateway.proofs.CallExact.{called_as, called_by, refused_read, read_some}
use Rattle.smithy_gateway.proofs.calls.call_input.Goals as goal
use Rattle.smithy_recovery.proofs.Decided.{IsSoundReading}

pub returns-then-not-is_post : goal.returns-then-not-is_post
returns-then-not-is_post g c = called_as _ _ _ _ false (sym c.is_post.ensures ∙ c.if-not-is_post.true)

pub returns-in_err-writes : goal.returns-in_err-writes
returns-in_err-writes g c =
    let r : Reading = reading_at g.C.Codec.text g.C.Codec.holds c.args.rest.now c.args.at in
    let calling : Calling = calling_by g.D.Codec.text g.D.Codec.holds c.args.rpc.now in
    let q = c.args.request.now in
    refused_read (λ v. list_of (members_of v)) c.args.at.table.now (calling.holds q.body) (held_writes r.schema) c.in_err-writes.field-0.0 _ c.from_residual.result (search rules) c.in_err-writes.ensures
    (λ none. called_as r c.args.at.omit calling q true (sym c.is_post.ensures ∙ c.if-not-is_post.false) ∙ ap (option_and_then (posted_form r c.args.at.omit calling.protocol q)) none)

pub returns : goal.returns
returns g c =
    let r : Reading = reading_at g.C.Codec.text g.C.Codec.holds c.args.rest.now c.args.at in
    let sound : IsSoundReading r = record { checked = c.requires.set.checked; well_made = c.requires.set.well_made; lawful = g.met.C.Codec.tells c.args.rest.now.codec c.requires.lawful } in
    let calling : Calling = calling_by g.D.Codec.text g.D.Codec.holds c.args.rpc.now in
    let q = c.args.request.now in
    let us = members_of c.with_writes-read.result in
    subst (Finds (λ v. list_of (members_of v)) c.posted_form.result)
    (called_by r c.args.at.omit calling q (list_of us) (sym c.is_post.ensures ∙ c.if-not-is_post.false) sound (g.met.D.Codec.tells c.args.rpc.now.codec c.requires.lawful_rpc)
    (read_some c.args.at.table.now (calling.holds q.body) (held_writes r.schema) c.in_ok-writes.writes us c.with_writes-read.ensures.members c.in_ok-writes.ensures)) c.posted_form.ensures
