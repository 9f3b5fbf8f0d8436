use Rattle.std.proofs.Common.{codes}
use Rattle.serde_json.specs.Find.{get}
use Rattle.smithy_json.specs.JsonView.{view}
use Rattle.smithy_bind.specs.Outcome.{aws_requested, json_bodies, sent_by, sent_by_aws, sent_job}
use Rattle.smithy_bind.proofs.AwsLemmas.{protocol_none, protocol_so}
use Rattle.smithy_bind.proofs.aws_requested.aws_requested.Goals as goal

pub returns-in-Some : goal.returns-in-Some
unfolding aws_requested
returns-in-Some g c = protocol_so (λ p. sent_by_aws p (view c.args.value.now)) _ _ (view c.in-Some.protocol.now) c.named_told.result c.in-Some.ensures c.named_told.ensures

pub returns-in-None : goal.returns-in-None
unfolding aws_requested
returns-in-None g c = protocol_none (λ p. sent_by_aws p (view c.args.value.now)) _ _ c.job_told.result c.in-None.ensures c.job_told.ensures
