-- The document that a `Document` stands for.
use Rattle.std.specs.Prelude.{ℕ, List, [], ◌∷◌, String, string_bytes}
use Rattle.std.specs.declared.alloc.Global.{Global}
use Rattle.smithy_types.specs.Documents as doc
use Rattle.smithy_types.specs.declared.number.Number.{Number}
use Rattle.smithy_types.specs.declared.number.Number.TheVariants.{PosInt, NegInt}
use Rattle.smithy_types.specs.declared.document.Document.{Document, fold-Document}
use Rattle.smithy_types.specs.declared.document.Documents.{Documents, fold-Documents}
use Rattle.smithy_types.specs.declared.document.Members.{Members, fold-Members}
use Rattle.smithy_types.specs.declared.document.Document.TheOpen.{Document-F, Documents-F, Members-F}

abbrev pub number_view : Number → doc.Number
number_view (PosInt n) = doc.positive n
number_view (NegInt z) = doc.negative z

abbrev pub members_of : List (String Global × doc.Document) → doc.Members
members_of [] = doc.no_members
members_of (m ∷ ms) = doc.member (string_bytes m.0) m.1 (members_of ms)

-- one level, with what is inside already seen as documents
abbrev pub document_step : Document-F doc.Document doc.Items doc.Members → doc.Document
document_step Document-F.Null = doc.null
document_step (Document-F.Bool b) = doc.boolean b
document_step (Document-F.Number n) = doc.number (number_view n)
document_step (Document-F.String s) = doc.string s
document_step (Document-F.Array v) = doc.array v
document_step (Document-F.Object m) = doc.object m

abbrev pub items_step : Documents-F doc.Document doc.Items doc.Members → doc.Items
items_step v = doc.items_of v.items.items

abbrev pub members_step : Members-F doc.Document doc.Items doc.Members → doc.Members
members_step m = members_of m.entries.entries

abbrev pub view : Document → doc.Document
view = fold-Document doc.Document doc.Items doc.Members document_step items_step members_step

abbrev pub items_view : Documents → doc.Items
items_view = fold-Documents doc.Document doc.Items doc.Members document_step items_step members_step

abbrev pub members_view : Members → doc.Members
members_view = fold-Members doc.Document doc.Items doc.Members document_step items_step members_step

-- the members in order, each a key and its document
abbrev pub pairs_in : Members → List (List ℕ × doc.Document)
pairs_in members = doc.list_of_members (members_view members)

-- an entry of a map, seen
abbrev pub pair_view : String Global × Document → List ℕ × doc.Document
pair_view entry = (string_bytes entry.0, view entry.1)
