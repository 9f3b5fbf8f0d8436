use Rattle.std.proofs.Common.{refl, rules, sym}
use Rattle.smithy_json.specs.views.JsonView.{view}
use Rattle.smithy_job.proofs.JobLemmas.{job-so, job-refused}
use Rattle.smithy_job.proofs.reading.read_job_with_floats.Goals as goal

pub returns-in_err-written : goal.returns-in_err-written
returns-in_err-written c =
    job-refused c.args.floats (view c.args.value.now) c.in-Some.endpoint.now c.in-Some-omit_of.omit (sym c.in-Some.ensures) (sym c.in-Some-omit_of.ensures)
    c.in_err-written.field-0.0 c.from_residual.result (search rules) c.in_err-written.ensures

pub returns : goal.returns
returns c =
    job-so c.args.floats (view c.args.value.now) c.in-Some.endpoint.now c.in-Some-omit_of.omit (sym c.in-Some.ensures) (sym c.in-Some-omit_of.ensures) _ c.in_ok-written.written refl refl refl refl refl refl
    c.in_ok-written.ensures
