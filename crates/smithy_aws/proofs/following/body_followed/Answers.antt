use Rattle.std.proofs.Common.{rules, ◌≡◌, None, Err}
use Rattle.smithy_schema.specs.References.{schema_of}
use Rattle.smithy_serde.specs.StructValues.{members_of}
use Rattle.smithy_wire.specs.Misfits.{body_misfit_told}
use Rattle.smithy_wire.specs.views.MisfitView.{TellsMisfit}
use Rattle.smithy_aws.proofs.RequestLemmas.{followed, not_followed}
use Rattle.smithy_aws.proofs.following.body_followed.Goals as goal

pub returns-in-Ok : goal.returns-in-Ok
returns-in-Ok c =
    let told = body_misfit_told (schema_of c.args.schema) (members_of c.args.input.now) in
    let none : told ≡ None = search rules in followed told c.args.request none

pub returns-in-Err : goal.returns-in-Err
returns-in-Err c =
    let told = body_misfit_told (schema_of c.args.schema) (members_of c.args.input.now) in
    let found : TellsMisfit {A = Unit {0}} told (Err c.in-Err.refusal) = search rules in
    not_followed told c.args.request c.in-Err.refusal c.told.result found c.told.ensures.fault c.told.ensures.memory
