use Rattle.std.proofs.Common.{sym, ◌∙◌}
use Rattle.smithy_serde.specs.DocumentOf.{scalar_document as document_of}
use Rattle.smithy_serde.specs.Writing.{label, scalar_of}
use Rattle.smithy_document.proofs.JsonPuts.{key_written}
use Rattle.smithy_document.proofs.json_writing.JsonWriting.write.Goals as goal

pub returns-then-wants_key-clause-written : goal.returns-then-wants_key-clause-written
returns-then-wants_key-clause-written c = key_written (label c.args.schema) (document_of (scalar_of c.args.scalar)) c.args.self.now _ _ (λ b inner h. sym c.if-wants_key.true ∙ c.wants_key.ensures b inner h) c.scalar_key.ensures.keyed
