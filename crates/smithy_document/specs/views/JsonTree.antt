-- The document that a tree of JSON is.
use Rattle.std.specs.Prelude.{◌≡◌, ℕ, List, [], ◌∷◌, ◌++◌, map, slice_get, Option, Some, None, option_map, Bool, true, Result, Ok, Err}
use Rattle.smithy_document.specs.Words.{Bor, option_map_or, unwrap_or, Document, number_view}
use Rattle.smithy_types.specs.Documents as doc
use Rattle.smithy_document.specs.InOrder.{is_read}
use Rattle.smithy_document.specs.OpenDocuments.{parts_of}
use Rattle.smithy_document.specs.declared.json_tree.JsonTree.{JsonTree}
use Rattle.smithy_document.specs.declared.json_tree.Node.{Node, fold-Node}
use Rattle.smithy_document.specs.declared.json_tree.Node.TheOpen.{Node-F}

-- the text at a position, and the empty one behind the last
abbrev pub text_at : List (List ℕ) → ℕ → List ℕ
text_at texts position = unwrap_or (slice_get texts position) []

-- fields whose names are positions of texts, as members in this order
abbrev pub members_in_turn : List (List ℕ) → List (ℕ × Document) → doc.Members
members_in_turn texts [] = doc.no_members
members_in_turn texts (f ∷ fs) = doc.member (text_at texts f.0) f.1 (members_in_turn texts fs)

-- one level, with what is inside already seen as documents
abbrev pub node_step : List (List ℕ) → Node-F Document → Document
node_step texts Node-F.Null = doc.null
node_step texts (Node-F.Bool b) = doc.boolean b
node_step texts (Node-F.Number n) = doc.number (number_view n)
node_step texts (Node-F.Text position) = doc.string (text_at texts position)
node_step texts (Node-F.Array v) = doc.array (doc.items_of v.items)
node_step texts (Node-F.Object v) = doc.object (members_in_turn texts v.items)

abbrev pub node_view : List (List ℕ) → Node → Document
node_view texts = fold-Node Document (node_step texts)

abbrev pub nodes_view : List (List ℕ) → List Node → doc.Items
nodes_view texts ns = doc.items_of (map (node_view texts) ns)

abbrev pub fields_view : List (List ℕ) → List (ℕ × Node) → doc.Members
fields_view texts fs = members_in_turn texts (map (λ f. (f.0, node_view texts f.1)) fs)

abbrev pub tree_view : JsonTree → Document
tree_view t = node_view t.texts t.root

-- canonical and in order, where there is one
abbrev pub is_tree_read : Option JsonTree → Bool
is_tree_read None = true
is_tree_read (Some t) = is_read (tree_view t)

-- the same of a tree, or of the text of the refusal that each read answers
abbrev pub is_body_read : Result JsonTree (List ℕ) → Bool
is_body_read (Ok t) = is_read (tree_view t)
is_body_read (Err text) = true

-- one of the tree's values
abbrev pub node_in : JsonTree → Node → Document
node_in t n = node_view t.texts n

-- the part at a position
abbrev pub part_at : Document → ℕ → Option Document
part_at d position = option_map (λ p. p.1) (slice_get (parts_of d) position)

-- the node's part at a position, whatever its texts are
abbrev pub GivesPart : Node → ℕ → Option (Bor Node) → Type 0
GivesPart n position part = (texts : List (List ℕ)) → option_map (λ p. node_view texts p.now) part ≡ part_at (node_view texts n) position

-- the name of the part at a position, which is empty in an array and where there is none
abbrev pub part_name : Document → ℕ → List ℕ
part_name d position = option_map_or (λ p. p.0) (slice_get (parts_of d) position) []

-- texts were added at the end
abbrev pub Grows : List (List ℕ) → List (List ℕ) → Type 0
Grows old new = (added : List (List ℕ)) × (new ≡ old ++ added)

-- what f sees in the texts is x, also once others are added
abbrev pub StaysIn : {X : Type 0} → (List (List ℕ) → X) → List (List ℕ) → X → Type 0
StaysIn f texts x = (more : List (List ℕ)) → f (texts ++ more) ≡ x

-- there is one, and f sees it in the texts, also once others are added
abbrev pub IsFound : {X : Type 0} → Option X → (List (List ℕ) → X) → List (List ℕ) → Type 0
IsFound {X} found f texts = (x : X) × (found ≡ Some x) × StaysIn f texts x
