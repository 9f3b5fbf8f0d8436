-- What a reader of JSON has at hand.
use Rattle.std.specs.Prelude.{ℕ, codes, List, Option, Some, None}
use Rattle.smithy_document.specs.Words.{Document, Held, SerdeError, InvalidInput}
use Rattle.smithy_json.specs.FromText.{document_of_text}
use Rattle.smithy_serde.specs.Held as held

-- the refusal at each read of what is no such text
abbrev pub not_json : SerdeError
not_json = InvalidInput (codes "body is not JSON")

abbrev pub held_of : Option Document → Held
held_of (Some d) = held.document d
held_of None = held.refused not_json

-- what a reader over a text has at hand
abbrev pub json_held : List ℕ → Option Held
json_held bytes = Some (held_of (document_of_text bytes))
