-- The text of a document, and what a reader over bytes has at hand.
use Rattle.std.specs.Prelude.{ℕ, ◌==◌, Bool, List, [], ◌∷◌, codes, ◌++◌, length, Option, Some, None, option_and_then, Result, Ok, Err, if◌then◌else◌}
use Rattle.std.specs.Str.{is_utf8}
use Rattle.json.specs.Json as json
use Rattle.json.specs.Lex.{tokens}
use Rattle.json.specs.Print.{print}
use Rattle.json.specs.Tree.{json_tokens}
use Rattle.serde_json.specs.Read.{max_depth}
use Rattle.smithy_document.specs.JsonHeld.{not_json}
use Rattle.smithy_types.specs.Documents as doc
use Rattle.smithy_serde.specs.Held as held
use Rattle.smithy_wire.specs.Words.{Json, Document, Held, InvalidInput}
use Rattle.smithy_types.specs.Texts.{ascii}
use Rattle.smithy_wire.specs.Forms.{Form}
use Rattle.smithy_wire.specs.Wire.{wire}
use Rattle.smithy_wire.specs.Unwire.{unwire}
use Rattle.smithy_wire.specs.declared.unread.Unread.{Unread}
use Rattle.smithy_wire.specs.declared.wire_style.WireStyle.{WireStyle}

-- the compact JSON text of a document by a node: no blanks
unfoldable pub wire_text : Bool → Form → Document → List ℕ
wire_text names f d = print (json_tokens (wire names f d))

-- the JSON value of a text, none where it is no JSON (RFC 8259) or nests deeper than 127
unfoldable pub json_of : List ℕ → Option Json
json_of text = option_and_then (λ p. json.if_last p.0 p.1) (json.value max_depth (tokens text))

-- the same of bytes, none where they are no UTF-8
unfoldable pub json_in : List ℕ → Option Json
json_in bytes = if is_utf8 bytes then json_of bytes else None

-- a path begins with no point
abbrev pub without_point : List ℕ → List ℕ
without_point [] = []
without_point (b ∷ path) = if b == ascii "." then path else b ∷ path

-- where a value stands, in a message
abbrev pub at_path : List ℕ → List ℕ
at_path path = if length path == 0 then [] else codes " at " ++ without_point path

-- `cannot read 1.5 as integer at Table.Size`
abbrev pub unread_text : Unread → List ℕ
unread_text u = codes "cannot read " ++ (u.text ++ (codes " as " ++ (u.word ++ at_path u.path)))

abbrev pub held_of : Result Document Unread → Held
held_of (Ok d) = held.document d
held_of (Err u) = held.refused (InvalidInput (unread_text u))

abbrev pub held_in : WireStyle → Form → Option Json → Held
held_in style f (Some j) = held_of (unwire style f j)
held_in style f None = held.refused not_json

-- What a reader over a body has at hand. A body of no bytes is the empty object.
unfoldable pub wire_held : WireStyle → Form → List ℕ → Option Held
wire_held style f bytes = Some (if length bytes == 0 then held.document (doc.object doc.no_members) else held_in style f (json_in bytes))
