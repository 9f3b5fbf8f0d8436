use Rattle.smithy_json.specs.JsonView.{view}
use Rattle.smithy_bind.specs.AwsResponding.{aws_replied}
use Rattle.smithy_bind.proofs.AwsLemmas.{named_none, named_so}
use Rattle.smithy_bind.proofs.aws_responded.named_told.Goals as goal

pub returns-in-Some : goal.returns-in-Some
returns-in-Some c = named_so (λ reading. aws_replied reading (view c.args.value.now)) _ c.in-Some.reading c.response_told.result c.in-Some.ensures c.response_told.ensures

pub returns-in-None : goal.returns-in-None
returns-in-None c = named_none (λ reading. aws_replied reading (view c.args.value.now)) _ c.in-None.ensures
