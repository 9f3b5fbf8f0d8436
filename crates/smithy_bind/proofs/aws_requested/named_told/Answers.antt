use Rattle.smithy_json.specs.JsonView.{view}
use Rattle.smithy_job.specs.AwsCallView.{call_seen}
use Rattle.smithy_bind.specs.AwsRequesting.{aws_sent}
use Rattle.smithy_bind.specs.Outcome.{decimal_job_sent}
use Rattle.smithy_bind.proofs.AwsLemmas.{named_none, named_so}
use Rattle.smithy_bind.proofs.aws_requested.named_told.Goals as goal

pub returns-in-Some : goal.returns-in-Some
returns-in-Some c = named_so (λ call. decimal_job_sent (aws_sent call) (view c.args.value.now)) _ (call_seen c.in-Some.call) c.call_told.result c.in-Some.ensures c.call_told.ensures

pub returns-in-None : goal.returns-in-None
returns-in-None c = named_none (λ call. decimal_job_sent (aws_sent call) (view c.args.value.now)) _ c.in-None.ensures
