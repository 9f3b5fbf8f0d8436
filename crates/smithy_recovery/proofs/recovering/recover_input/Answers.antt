use Rattle.std.proofs.Common.{rules, refl, sym, ap, ◌∙◌}
use Rattle.smithy_schema.specs.References.{schema_of}
use Rattle.smithy_serde.specs.StoredValues.{writes_in}
use Rattle.smithy_serde.specs.StructValues.{members_of}
use Rattle.smithy_serde.specs.Values.{list_of}
use Rattle.smithy_recovery.specs.Recovered.{Reading, reading_by, is_placed_so, recovered}
use Rattle.smithy_recovery.specs.views.Stages.{are_typed}
use Rattle.smithy_recovery.proofs.Decided.{IsSoundReading, input_recovered, none_typed, none_placed}
use Rattle.smithy_recovery.proofs.Outcomes.{not_read, read_over}
use Rattle.smithy_recovery.proofs.Refused.{test_refused}
use Rattle.smithy_recovery.proofs.recovering.recover_input.Goals as goal

pub returns-in_err-writes-clause-value : goal.returns-in_err-writes-clause-value
returns-in_err-writes-clause-value g c =
    let r : Reading = reading_by g.C.Codec.text g.C.Codec.holds c.args.protocol.now (schema_of c.args.setting.schema) c.args.setting.endpoint.now in
    not_read r c.args.setting.omit c.args.request.now c.in_err-writes.field-0.0 c.from_residual.result (search rules) c.in_err-writes.ensures.told

pub returns-then-not-branch-clause-value : goal.returns-then-not-branch-clause-value
returns-then-not-branch-clause-value g c =
    let r : Reading = reading_by g.C.Codec.text g.C.Codec.holds c.args.protocol.now (schema_of c.args.setting.schema) c.args.setting.endpoint.now in
    let us = writes_in c.args.setting.table.now c.in_ok-writes.writes in
    none_typed r c.args.setting.omit c.args.request.now (list_of us)
    (read_over r c.args.request.now c.args.setting.table.now c.args.setting.place.0 c.in_ok-writes.writes us c.requires.node refl c.in_ok-writes.ensures.told)
    (sym c.in_ok-are_typed.ensures ∙ c.if-not-branch.true)

pub returns-in_err-is_placed_so-clause-value : goal.returns-in_err-is_placed_so-clause-value
returns-in_err-is_placed_so-clause-value g c =
    let r : Reading = reading_by g.C.Codec.text g.C.Codec.holds c.args.protocol.now (schema_of c.args.setting.schema) c.args.setting.endpoint.now in
    let us = members_of c.with_writes-input.result in
    let read = read_over r c.args.request.now c.args.setting.table.now c.args.setting.place.0 c.in_ok-writes.writes us c.requires.node c.with_writes-input.ensures.members c.in_ok-writes.ensures.told in
    test_refused (λ v. list_of (members_of v)) (is_placed_so r c.args.setting.omit c.args.request.now (list_of us)) (recovered r c.args.setting.omit c.args.request.now) c.in_err-is_placed_so.field-0.0 c.from_residual-in_err-is_placed_so.result (search rules)
    (none_placed r c.args.setting.omit c.args.request.now (list_of us) read) c.in_err-is_placed_so.ensures

pub returns-then-not-branch-2-clause-value : goal.returns-then-not-branch-2-clause-value
returns-then-not-branch-2-clause-value g c =
    let r : Reading = reading_by g.C.Codec.text g.C.Codec.holds c.args.protocol.now (schema_of c.args.setting.schema) c.args.setting.endpoint.now in
    let us = members_of c.with_writes-input.result in
    none_placed r c.args.setting.omit c.args.request.now (list_of us)
    (read_over r c.args.request.now c.args.setting.table.now c.args.setting.place.0 c.in_ok-writes.writes us c.requires.node c.with_writes-input.ensures.members c.in_ok-writes.ensures.told)
    (c.in_ok-is_placed_so.ensures ∙ c.if-not-branch-2.true)

pub returns-clause-value : goal.returns-clause-value
returns-clause-value g c =
    let m = schema_of c.args.setting.schema in
    let r : Reading = reading_by g.C.Codec.text g.C.Codec.holds c.args.protocol.now m c.args.setting.endpoint.now in
    let sound : IsSoundReading r = record { checked = c.requires.checked; well_made = c.requires.well_made; lawful = g.met.C.Codec.tells c.args.protocol.now.codec c.requires.lawful } in
    let us = members_of c.with_writes-input.result in
    input_recovered r c.args.setting.omit c.args.request.now (list_of us) sound
    (read_over r c.args.request.now c.args.setting.table.now c.args.setting.place.0 c.in_ok-writes.writes us c.requires.node c.with_writes-input.ensures.members c.in_ok-writes.ensures.told)
    (ap (λ w. are_typed m c.args.setting.endpoint.now (list_of w)) c.with_writes-input.ensures.members ∙ sym c.in_ok-are_typed.ensures ∙ c.if-not-branch.false)
    (c.in_ok-is_placed_so.ensures ∙ c.if-not-branch-2.false)
