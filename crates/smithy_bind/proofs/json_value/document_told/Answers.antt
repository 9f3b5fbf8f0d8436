use Rattle.smithy_serde.specs.DocumentOf.{document_of}
use Rattle.smithy_serde.specs.ValueReading.{structure_of}
use Rattle.smithy_bind.proofs.ReplyLemmas.{document_told, document_refused}
use Rattle.smithy_bind.proofs.json_value.document_told.Goals as goal

pub returns-in_ok-line_of_text-in-Ok : goal.returns-in_ok-line_of_text-in-Ok
returns-in_ok-line_of_text-in-Ok c = document_told (document_of (structure_of c.args.value.now)) c.in-Ok.text c.in_ok-line_of_text-in-Ok.field-0 (rw c.in-Ok.is at c.document_text.ensures) (rw c.as_slice.ensures at c.in_ok-line_of_text-in-Ok.ensures)

pub returns-in-Err : goal.returns-in-Err
returns-in-Err c = document_refused (document_of (structure_of c.args.value.now)) c.in-Err.refusal c.refused.result (rw c.in-Err.is at c.document_text.ensures) c.refused.ensures
