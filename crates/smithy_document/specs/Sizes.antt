-- How many items a reader of documents tells.
use Rattle.std.specs.Prelude.{ℕ, min, length, Option, Some, None}
use Rattle.smithy_document.specs.Words.{Document}
use Rattle.smithy_types.specs.Documents as doc
use Rattle.smithy_document.specs.OpenDocuments.{parts_of}

-- how many parts an array or an object has, and 10,000 where it has more
abbrev pub container_size : Document → Option ℕ
container_size (doc.array ds) = Some (min (length (parts_of (doc.array ds))) 10000)
container_size (doc.object ms) = Some (min (length (parts_of (doc.object ms))) 10000)
container_size _ = None
