use Rattle.smithy_registry.proofs.CodeLemmas.{lacks_colons}
use Rattle.smithy_registry.proofs.laws.sanitized_codes_have_no_colon.Goals as goal

pub returns : goal.returns
returns c = lacks_colons
