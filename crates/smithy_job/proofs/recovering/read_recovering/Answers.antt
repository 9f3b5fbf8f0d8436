use Rattle.std.proofs.Common.{refl, rules, sym}
use Rattle.smithy_json.specs.views.JsonView.{view}
use Rattle.smithy_job.proofs.RecoveringLemmas.{recovering-so, recovering-refused}
use Rattle.smithy_job.proofs.recovering.read_recovering.Goals as goal

pub returns-in_err-table : goal.returns-in_err-table
returns-in_err-table c =
    recovering-refused (view c.args.job.now) c.in_ok-request.request c.in-Some.endpoint.now c.in-Some-omit_of.omit
    c.in_ok-request.ensures (sym c.in-Some.ensures) (sym c.in-Some-omit_of.ensures) c.in_err-table.field-0.0 c.from_residual-in_err-table.result (search rules) c.in_err-table.ensures

pub returns : goal.returns
returns c =
    recovering-so (view c.args.job.now) c.in_ok-request.request c.in-Some.endpoint.now c.in-Some-omit_of.omit
    c.in_ok-request.ensures (sym c.in-Some.ensures) (sym c.in-Some-omit_of.ensures) _ c.in_ok-table.field-0 refl refl refl refl refl c.in_ok-table.ensures
