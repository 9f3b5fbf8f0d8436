-- Entries of texts, in the order in which they stand, and in byte order of their keys.
use Rattle.std.specs.Prelude.{◌≡◌, ℕ, Bool, false, ◌&&◌, List, [], ◌∷◌, ◌++◌, map, Option, Some, None, Result, Vec, is_some, option_and_then, if◌then◌else◌}
use Rattle.std.specs.Global.{Global}
use Rattle.std.specs.Str.{is_utf8}
use Rattle.smithy_types.specs.Texts.{same_text}
use Rattle.smithy_schema.specs.Nodes.{Schema, Table, at_place, key_of, value_of}
use Rattle.smithy_serde.specs.NormalBody.{entry_writes, map_value}
use Rattle.smithy_serde.specs.StoredValues.{label_at, value_in, writes_in, HasNode, IsDefined, AreDefined}
use Rattle.smithy_serde.specs.Told.{appended}
use Rattle.smithy_serde.specs.Values.{Value}
use Rattle.smithy_serde.specs.declared.value.ShapeValue.{ShapeValue}
use Rattle.smithy_serde.specs.declared.value.WriteList.{WriteList}
use Rattle.smithy_recovery.specs.Finding.{Finds}
use Rattle.smithy_recovery.specs.MapParts.{as_text, entry_behind}
use Rattle.smithy_recovery.specs.views.NameOrder.{text_seen, texts_seen}
use Rattle.smithy_recovery.specs.declared.named_texts.NamedText.{NamedText}
use Rattle.smithy_recovery.specs.declared.error.RecoverError.{RecoverError}

-- the key stands in the next entry again
abbrev pub is_again : List ℕ → List (List ℕ × List ℕ) → Bool
is_again key [] = false
is_again key (e ∷ es) = same_text e.0 key

-- the entry, unless its key stands in the next one again
abbrev pub last_entry : List ℕ × List ℕ → List (List ℕ × List ℕ) → List (List ℕ × Value)
last_entry e es = if is_again e.0 es then [] else (e.0, as_text e.1) ∷ []

-- of entries in order of their keys the last one of each key
abbrev pub last_entries : List (List ℕ × List ℕ) → List (List ℕ × Value)
last_entries [] = []
last_entries (e ∷ es) = last_entry e es ++ last_entries es

-- the map that they are, by its node
abbrev pub map_seen : List NamedText → Schema → Option Value
map_seen es node = Some (map_value (Some node) (last_entries (map text_seen es)))

-- an entry put behind others where it is a text
abbrev pub text_put : List ℕ × List ℕ → List (List ℕ × List ℕ) → Option (List (List ℕ × List ℕ))
text_put e es = if is_utf8 e.1 then Some (es ++ e ∷ []) else None

-- what a header has behind a prefix is put, if it is a text
abbrev pub part_put : Option (List ℕ × List ℕ) → List (List ℕ × List ℕ) → Option (List (List ℕ × List ℕ))
part_put None es = Some es
part_put (Some e) es = text_put e es

abbrev pub header_put : List ℕ → List ℕ × List ℕ → List (List ℕ × List ℕ) → Option (List (List ℕ × List ℕ))
header_put prefix h es = part_put (entry_behind prefix h) es

-- the headers one after another
abbrev pub headers_put : List ℕ → List (List ℕ × List ℕ) → List (List ℕ × List ℕ) → Option (List (List ℕ × List ℕ))
headers_put prefix [] es = Some es
headers_put prefix (h ∷ hs) es = option_and_then (headers_put prefix hs) (header_put prefix h es)

-- the node is that of a map: its keys and its values have nodes
abbrev pub has_entry_nodes : Schema → Bool
has_entry_nodes m = is_some (key_of m) && is_some (value_of m)

-- entries before and after a step, by what the step makes of them
abbrev pub Puts : {A : Type 0} (put : List (List ℕ × List ℕ) → Option (List (List ℕ × List ℕ))) → (before after : Vec NamedText Global) → Result A RecoverError → Type 0
Puts put before after result = Finds (λ _. texts_seen after) result (put (texts_seen before))

-- these places have the nodes of a map's keys and of its values
pub record ArePlaces (m : Schema) (key value : ℕ) : Type 0 where
  pub key_node : at_place m.table key ≡ key_of m
  pub value_node : at_place m.table value ≡ value_of m

-- an entry is added, with the nodes at these places
abbrev pub AddsEntry : (key value : ℕ) → List ℕ → ShapeValue → (before after : WriteList) → Type 0
AddsEntry key value name v before after =
    (t : Table) → writes_in t after ≡ appended (writes_in t before) (entry_writes (label_at t key) (label_at t value) ((name, value_in t v) ∷ []))

-- the writes are those of entries, with the nodes at these places
abbrev pub HasEntries : (key value : ℕ) → (Table → List (List ℕ × Value)) → WriteList → Type 0
HasEntries key value es ws = (t : Table) → writes_in t ws ≡ entry_writes (label_at t key) (label_at t value) (es t)

-- where a table has these nodes, it has all nodes of the writes
abbrev pub AreDefinedWith : (key value : ℕ) → WriteList → Type 0
AreDefinedWith key value ws = (t : Table) → HasNode t key → HasNode t value → AreDefined t ws

-- where a table has these nodes and those of the value, it still has all nodes of the writes
abbrev pub StaysDefinedAt : (key value : ℕ) → ShapeValue → (before after : WriteList) → Type 0
StaysDefinedAt key value v before after = (t : Table) → HasNode t key → HasNode t value → IsDefined t v → AreDefined t before → AreDefined t after

-- the last entry of a key is added, with the nodes at these places
abbrev pub AddsLast : (key value : ℕ) → NamedText → List NamedText → (before after : WriteList) → Type 0
AddsLast key value e es before after =
    (t : Table) → writes_in t after ≡ appended (writes_in t before) (entry_writes (label_at t key) (label_at t value) (last_entry (text_seen e) (map text_seen es)))

-- where a table has these nodes, it still has all nodes of the writes
abbrev pub StaysDefinedWith : (key value : ℕ) → (before after : WriteList) → Type 0
StaysDefinedWith key value before after = (t : Table) → HasNode t key → HasNode t value → AreDefined t before → AreDefined t after

-- the writes are those of the last entry of each key
abbrev pub HasLast : (key value : ℕ) → List NamedText → WriteList → Type 0
HasLast key value es ws = HasEntries key value (λ _. last_entries (map text_seen es)) ws
