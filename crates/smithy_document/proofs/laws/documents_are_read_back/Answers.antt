use Rattle.smithy_document.proofs.ShapedReads.{reads_normal_form, reads_normal_structure}
use Rattle.smithy_document.proofs.laws.documents_are_read_back.Goals as goal

pub returns-clause-value : goal.returns-clause-value
returns-clause-value c = reads_normal_form

pub returns-clause-structure : goal.returns-clause-structure
returns-clause-structure c = reads_normal_structure
