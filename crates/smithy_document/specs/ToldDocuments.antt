-- What is told of a document that is read as a shape.
use Rattle.std.specs.Prelude.{Bool, Option}
use Rattle.smithy_document.specs.Words.{Discriminated, Held, then_some}
use Rattle.smithy_serde.specs.Held as held

-- the document, where the reader by its settings tells what it holds
abbrev pub told : {S : Type 0} → Bool → Discriminated S → Option Held
told tells d = then_some tells (held.document d.document)
