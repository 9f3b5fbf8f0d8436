use Rattle.smithy_http.proofs.HeaderValueLaws.{tokens_of-spelled, spelled-tokens_of}
use Rattle.smithy_http.proofs.laws.tokens_are_spelled.Goals as goal

pub returns : goal.returns
returns c = λ values texts. (tokens_of-spelled values texts, spelled-tokens_of values texts)
