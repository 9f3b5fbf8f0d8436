-- What a text of JSON is.
use Rattle.std.specs.Prelude.{ℕ, List, Option, None, option_and_then, if◌then◌else◌}
use Rattle.std.specs.Str.{is_utf8}
use Rattle.serde_json.specs.Data.{Data}
use Rattle.serde_json.specs.Read.{read}
use Rattle.smithy_types.specs.Documents.{Document}
use Rattle.smithy_json.specs.FromData.{of_data}

-- the value of a text, none where it is no UTF-8 or no JSON (RFC 8259)
unfoldable pub json_of : List ℕ → Option Data
json_of bytes = if is_utf8 bytes then read bytes else None

-- the document of a text, none where it has no value, or one with a float in it
abbrev pub document_of_text : List ℕ → Option Document
document_of_text bytes = option_and_then of_data (json_of bytes)
