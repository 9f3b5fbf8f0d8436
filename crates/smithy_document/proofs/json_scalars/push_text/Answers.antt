use Rattle.smithy_document.proofs.JsonShownLemmas.{string_text}
use Rattle.smithy_document.proofs.json_scalars.push_text.Goals as goal

pub returns : goal.returns
returns c = rw (string_text c.args.value.now) c.push_quoted.ensures
