use Rattle.std.proofs.Common.{◌≡◌, sym, subst, ◌∙◌, Some}
use Rattle.smithy_schema.specs.References.{schema_of}
use Rattle.smithy_serde.specs.StructValues.{members_of}
use Rattle.smithy_serde.specs.Values.{list_of}
use Rattle.smithy_recovery.specs.Recovered.{Reading, reading_by, recovered}
use Rattle.smithy_recovery.specs.Recovering.{HasFactsOf}
use Rattle.smithy_recovery.proofs.Decided.{IsSoundReading}
use Rattle.smithy_recovery.proofs.Outcomes.{none_at, lacks}
use Rattle.smithy_recovery.proofs.recovering.recover_request.Goals as goal

pub returns-clause-not_placed : goal.returns-clause-not_placed
returns-clause-not_placed g c = λ refused schema ws at has.
    let m = schema_of c.in-Some.node in
    let r : Reading = reading_by g.C.Codec.text g.C.Codec.holds c.args.protocol.now m c.args.endpoint.now in
    let sound : IsSoundReading r =
    record { checked = c.requires.checked m (sym c.in-Some.ensures.node); well_made = c.in-Some.ensures.well_made; lawful = g.met.C.Codec.tells c.args.protocol.now.codec c.requires.lawful } in
    let both : Some m ≡ Some schema = c.in-Some.ensures.node ∙ at in
    let same : m ≡ schema = cc both in
    let own : HasFactsOf r c.args.omit c.args.request.now ws =
    subst (λ n. HasFactsOf (reading_by g.C.Codec.text g.C.Codec.holds c.args.protocol.now n c.args.endpoint.now) c.args.omit c.args.request.now ws) (sym same) has in
    lacks r c.args.omit c.args.request.now ws (c.recovered_is_exact.ensures m c.args.endpoint.now) c.facts_decide_view.ensures c.view_settles.ensures.settles c.view_settles.ensures.typed sound
    (none_at (λ v. list_of (members_of v)) c.recover_input.result (recovered r c.args.omit c.args.request.now) c.recover_input.ensures.value refused) own
