use Rattle.smithy_document.proofs.ReadData.{text_is_read}
use Rattle.smithy_document.proofs.json_tree_reading.read_tree.Goals as goal

pub returns-in-Ok-clause-read : goal.returns-in-Ok-clause-read
returns-in-Ok-clause-read c = text_is_read c.args.text.now _ c.in-Ok.ensures
