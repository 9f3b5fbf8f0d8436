-- What is seen of a reader of JSON.
use Rattle.std.specs.Prelude.{◌≡◌, ℕ, List, [], Option, Some, None, Result, Ok, Err}
use Rattle.smithy_document.specs.Words.{Answer, AtHand, Held, InvalidInput, IsRefusal}
use Rattle.smithy_serde.specs.Held as held
use Rattle.smithy_serde.specs.Listings.{contents_at, told_at}
use Rattle.smithy_document.specs.declared.json_deserializer.JsonDeserializer.{JsonDeserializer}
use Rattle.smithy_document.specs.declared.json_tree.JsonTree.{JsonTree}
use Rattle.smithy_document.specs.declared.json_tree_cursor.TreeCursor.{TreeCursor}
use Rattle.smithy_document.specs.views.JsonTree.{tree_view}
use Rattle.smithy_document.specs.Sizes.{container_size}
use Rattle.smithy_document.specs.views.TreePaths.{document_at, seen}

-- what is read: a tree, or the text of the refusal that each read answers
abbrev pub Body : Type 0
Body = Result JsonTree (List ℕ)

-- what is at hand of it
abbrev pub body_held : Body → Held
body_held (Ok t) = held.document (tree_view t)
body_held (Err text) = held.refused (InvalidInput text)

-- a reader that refuses each read with this text
abbrev pub refusing : List ℕ → AtHand
refusing text =
    let h = Some (held.refused (InvalidInput text)) in
    record { held = h; levels = 0; listing = contents_at h; size = λ g node. 0; opened = []; told = told_at h }

abbrev pub hand_of : Body → TreeCursor → AtHand
hand_of (Ok t) c = seen t c
hand_of (Err text) c = refusing text

abbrev pub hand : JsonDeserializer → AtHand
hand r = hand_of r.tree r.cursor

-- how many items the value at hand tells
abbrev pub size_over : Body → TreeCursor → Option ℕ
size_over (Ok t) c = container_size (document_at (tree_view t) c)
size_over (Err text) c = None

abbrev pub json_size : JsonDeserializer → Option ℕ
json_size r = size_over r.tree r.cursor

-- the value at hand is passed over, which changes nothing, and what can't be read is refused
abbrev pub PassesOver : JsonDeserializer → JsonDeserializer → Answer → Type 0
PassesOver old new answer = (new ≡ old) × Passed old.tree answer
  where
    Passed : Body → Answer → Type 0
    Passed (Ok t) (Ok u) = Unit {0}
    Passed (Ok t) (Err e) = ⊥
    Passed (Err text) (Ok u) = ⊥
    Passed (Err text) (Err e) = IsRefusal (InvalidInput text) e
