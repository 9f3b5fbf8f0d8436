use Rattle.smithy_serde.specs.ValueReading.{structure_of}
use Rattle.smithy_bind.proofs.ReplyLemmas.{text_made}
use Rattle.smithy_bind.proofs.json_value.document_text.Goals as goal

pub returns : goal.returns
returns c = text_made (structure_of c.args.value.now) c.struct_text.result (rw c.in-Ok.ensures.text at c.struct_text.ensures.ok) c.struct_text.ensures.err
