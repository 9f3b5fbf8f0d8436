-- Paths into a tree of JSON, and what a cursor in it stands for.
use Rattle.std.specs.Prelude.{◌<◌, ℕ, true, List, drop, length, Option, Some, None, option_map}
use Rattle.smithy_document.specs.Words.{fold, Document, schema_of, AtHand}
use Rattle.smithy_schema.specs.declared.schema_ref.SchemaRef.{SchemaRef}
use Rattle.smithy_document.specs.declared.json_tree_cursor.TreeCursor.{TreeCursor}
use Rattle.smithy_document.specs.declared.json_tree_cursor.TreeSpot.{TreeSpot}
use Rattle.smithy_document.specs.declared.json_tree.JsonTree.{JsonTree}
use Rattle.smithy_document.specs.declared.json_tree.Node.{Node}
use Rattle.smithy_document.specs.views.JsonTree.{node_in, tree_view, part_at}
use Rattle.smithy_document.specs.views.KnownParts.{FindsKnown}
use Rattle.smithy_document.specs.views.CursorView.{ClosesAt, StepsTo}
use Rattle.smithy_document.specs.OpenDocuments.{parts_of, Opened, reading}
use Rattle.smithy_document.specs.views.Ways.{last_handed, opened_on}

-- the part that was handed out last, the container itself where none was
abbrev pub part_behind : Document → TreeSpot → Document
part_behind d p = last_handed (part_at d) p.next d

-- the document at the end of a path
abbrev pub path_end : Document → List TreeSpot → Document
path_end d ps = fold part_behind d ps

abbrev pub opened_at : Document → TreeSpot → Opened
opened_at d p = record { form = p.form; container = d; rest = drop p.next (parts_of d) }

-- the open containers along a path, the innermost first
abbrev pub opened_along : Document → List TreeSpot → List Opened
opened_along d ps = opened_on part_behind opened_at d ps

abbrev pub document_at : Document → TreeCursor → Document
document_at root c = path_end root c.spots.items

abbrev pub opened_by : Document → TreeCursor → List Opened
opened_by root c = opened_along root c.spots.items

-- a container is open
abbrev pub IsOpen : TreeCursor → Type 0
IsOpen c = 0 < length c.spots.items

-- what is seen of a reader that stands there
abbrev pub tree_seen : Document → TreeCursor → AtHand
tree_seen root c = reading true (document_at root c) (opened_by root c)

abbrev pub seen : JsonTree → TreeCursor → AtHand
seen t c = tree_seen (tree_view t) c

-- the first part of one of the tree's values, from a position on, whose name is a member's
abbrev pub FindsPart : JsonTree → Node → SchemaRef → ℕ → Option (ℕ × SchemaRef) → Type 0
FindsPart t n schema from found = FindsKnown (schema_of schema) (parts_of (node_in t n)) from (option_map (λ f. (f.0, schema_of f.1)) found)

-- the next part, of this name, came to hand, or the container was closed
abbrev pub MovesOn : Document → TreeCursor → TreeCursor → Option (List ℕ) → Type 0
MovesOn root old new None = ClosesAt (opened_by root old) (document_at root new) (opened_by root new)
MovesOn root old new (Some name) = StepsTo name (opened_by root old) (document_at root new) (opened_by root new)
