use Rattle.smithy_binding.proofs.HeaderLaws.{headers_stand_once}
use Rattle.smithy_binding.proofs.laws.headers_stand_once.Goals as goal

pub returns : goal.returns
returns c = headers_stand_once
