use Rattle.std.proofs.Common.{ap, subst}
use Rattle.smithy_model.specs.views.NameView.{texts}
use Rattle.smithy_job.specs.Jobs.{expected_by_code}
use Rattle.smithy_job.specs.views.KeysView.{keys_seen, value_seen}
use Rattle.smithy_job.specs.views.ReceivedView.{IsExpectedIn}
use Rattle.smithy_job.specs.views.Tables.{ReadsAs}
use Rattle.smithy_job.proofs.ReceivedLemmas.{expected-unnamed}
use Rattle.smithy_job.proofs.received.read_expected_with_floats.Goals as goal

pub returns-in_ok-service-in-None : goal.returns-in_ok-service-in-None
returns-in_ok-service-in-None c =
    expected-unnamed c.args.floats (keys_seen c.args.keys.now) (texts c.in_ok-service-in-None.service.items) (ap value_seen c.in-None.is) c.in_ok-service-in-None.ensures c.expected_by_code.result
    (subst (λ names. ReadsAs IsExpectedIn (expected_by_code c.args.floats (texts names) (keys_seen c.args.keys.now)) c.expected_by_code.result) c.as_slice.ensures.value c.expected_by_code.ensures)
