use Rattle.smithy_json.specs.JsonView.{view}
use Rattle.smithy_bind.specs.AwsResponding.{aws_responded, replied_by}
use Rattle.smithy_bind.proofs.AwsLemmas.{protocol_none, protocol_so}
use Rattle.smithy_bind.proofs.aws_responded.aws_responded.Goals as goal

pub returns-in-Some : goal.returns-in-Some
unfolding aws_responded
returns-in-Some c = protocol_so (λ p. replied_by p (view c.args.value.now)) _ _ (view c.in-Some.protocol.now) c.named_told.result c.in-Some.ensures c.named_told.ensures

pub returns-in-None : goal.returns-in-None
unfolding aws_responded
returns-in-None c = protocol_none (λ p. replied_by p (view c.args.value.now)) _ _ c.responded.result c.in-None.ensures c.responded.ensures
