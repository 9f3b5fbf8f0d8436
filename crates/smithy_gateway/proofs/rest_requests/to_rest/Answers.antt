use Rattle.std.proofs.Common.{rules, sym, subst, ap, option_and_then}
use Rattle.smithy_gateway.specs.Words.{schema_of, members_of, list_of, place, Reading, reading_by, Finds}
use Rattle.smithy_gateway.specs.Calls.{Calling, calling_by}
use Rattle.smithy_gateway.specs.Gateway.{called, rest_of}
use Rattle.smithy_gateway.proofs.Sent.{rest_answered}
use Rattle.smithy_gateway.proofs.rest_requests.to_rest.Goals as goal
use Rattle.smithy_recovery.proofs.Decided.{IsSoundReading}
use Rattle.smithy_recovery.proofs.Refused.{refused}

pub returns-in_err-input-clause-none : goal.returns-in_err-input-clause-none
unfolding rest_of
returns-in_err-input-clause-none g c =
    let s = schema_of c.in-Some.node in
    let at = sym c.in-Some.ensures.node in
    let r : Reading = reading_by g.C.Codec.text g.C.Codec.holds c.args.rest.now s c.args.endpoint.now in
    let sound : IsSoundReading r = record { checked = c.requires.checked s at; well_made = c.in-Some.ensures.well_made; lawful = g.met.C.Codec.tells c.args.rest.now.codec c.requires.lawful } in
    let calling : Calling = calling_by g.D.Codec.text g.D.Codec.holds c.args.rpc.now in
    let told : Finds (λ x. x) c.from_residual.result (rest_of r c.args.omit calling c.args.request.now) = refused (λ v. list_of (members_of v)) (λ x. x) (called r c.args.omit calling c.args.request.now) _ c.in_err-input.field-0.0 c.from_residual.result (search rules) (λ none. ap (option_and_then (λ ws. place r.protocol s ws r.endpoint c.args.omit)) none) c.in_err-input.ensures in
    (rest_answered g.C.Codec.text g.C.Codec.holds g.D.Codec.text g.D.Codec.holds c.args.rest.now c.args.rpc.now c.args.table.now c.args.schema s c.args.endpoint.now c.args.omit c.args.request.now at sound (g.met.D.Codec.tells c.args.rpc.now.codec c.requires.lawful_rpc) c.from_residual.result told).1

pub returns : goal.returns
unfolding rest_of
returns g c =
    let s = schema_of c.in-Some.node in
    let at = sym c.in-Some.ensures.node in
    let r : Reading = reading_by g.C.Codec.text g.C.Codec.holds c.args.rest.now s c.args.endpoint.now in
    let sound : IsSoundReading r = record { checked = c.requires.checked s at; well_made = c.in-Some.ensures.well_made; lawful = g.met.C.Codec.tells c.args.rest.now.codec c.requires.lawful } in
    let told = subst (Finds (λ x. x) c.placed.result) (sym (ap (option_and_then (λ ws. place r.protocol s ws r.endpoint c.args.omit)) c.in_ok-input.ensures)) c.placed.ensures in
    let is = rest_answered g.C.Codec.text g.C.Codec.holds g.D.Codec.text g.D.Codec.holds c.args.rest.now c.args.rpc.now c.args.table.now c.args.schema s c.args.endpoint.now c.args.omit c.args.request.now at sound (g.met.D.Codec.tells c.args.rpc.now.codec c.requires.lawful_rpc) c.placed.result told in
    record { ok = is.0; none = is.1 }
