use Rattle.smithy_document.proofs.PrintLemmas.{printed}
use Rattle.smithy_document.proofs.printing.print_token.Goals as goal

pub returns : goal.returns
returns c = printed _ _ _ _ c.token.ensures
