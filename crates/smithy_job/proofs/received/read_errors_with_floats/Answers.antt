use Rattle.std.proofs.Common.{rules, subst, ℕ, List, Vec, Global, Bor}
use Rattle.smithy_model.specs.views.NameView.{texts}
use Rattle.smithy_model.specs.views.PlacedView.{PlacesErrors}
use Rattle.smithy_job.specs.Jobs.{errors_among}
use Rattle.smithy_job.specs.views.KeysView.{keys_seen}
use Rattle.smithy_job.proofs.ReceivedLemmas.{errors-so, errors-ungiven}
use Rattle.smithy_job.proofs.received.read_errors_with_floats.Goals as goal

pub returns-in_err-service : goal.returns-in_err-service
returns-in_err-service c = errors-ungiven c.args.floats (keys_seen c.args.keys.now) (λ (v : Vec (Bor (List ℕ)) Global). texts v.items) c.in_err-service.field-0.0 c.from_residual.result (search rules) c.in_err-service.ensures

pub returns : goal.returns
returns c =
    errors-so c.args.floats (keys_seen c.args.keys.now) (texts c.in_ok-service.service.items) c.errors_among.result c.in_ok-service.ensures
    (subst (λ names. PlacesErrors (errors_among c.args.floats (texts names) (keys_seen c.args.keys.now)) c.errors_among.result) c.as_slice.ensures.value c.errors_among.ensures)
