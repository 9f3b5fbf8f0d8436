use Rattle.smithy_document.proofs.Common.{view}
use Rattle.smithy_document.proofs.CursorLemmas.{element_moved}
use Rattle.smithy_document.proofs.cursor.Cursor.next_element.Goals as goal

pub returns : goal.returns
returns c = λ tells. element_moved tells (view c.args.root.now) c.args.self.now c.advance.new.self c.advance.result c.requires c.advance.ensures
