-- Entries of a query map that are kept by their keys, and the names of query members.
use Rattle.std.specs.Prelude.{◌≡◌, ℕ, Bool, not, List, [], ◌∷◌, map, Option, Some, None, Result, Ok, Err, String, option_map, option_and_then, is_some, string_bytes, if◌then◌else◌}
use Rattle.std.specs.Borrow.{Bor}
use Rattle.std.specs.BTreeMap.{BTreeMap, get_by_text}
use Rattle.std.specs.Global.{Global}
use Rattle.std.specs.List.{AllByRecursion}
use Rattle.std.specs.Map.{lookup}
use Rattle.smithy_types.specs.Maps.{with_value}
use Rattle.smithy_types.specs.Results.{each}
use Rattle.smithy_types.specs.Texts.{same_text, is_one_of}
use Rattle.smithy_http.specs.Facts.{query_pieces, named_piece}
use Rattle.smithy_schema.specs.Nodes.{Schema, Table}
use Rattle.smithy_schema.specs.Templates.{Template}
use Rattle.smithy_serde.specs.NormalBody.{map_value}
use Rattle.smithy_serde.specs.StoredValues.{value_in, HasNode, IsDefined, AreDefined}
use Rattle.smithy_serde.specs.Values.{Value}
use Rattle.std.specs.Bool.{then_some}
use Rattle.smithy_serde.specs.declared.value.ShapeValue.{ShapeValue}
use Rattle.smithy_serde.specs.declared.value.WriteList.{WriteList}
use Rattle.smithy_strings.specs.Escapes.{unescaped}
use Rattle.smithy_recovery.specs.Finding.{Finds}
use Rattle.smithy_recovery.specs.views.Keeping.{KeepsPart}
use Rattle.smithy_recovery.specs.MapParts.{entry_value, query_map_part}
use Rattle.smithy_recovery.specs.views.Pieces.{NamedPieces, HasLeft, shown_pieces, named_left}
use Rattle.smithy_recovery.specs.QueryParts.{piece_text, own_query}
use Rattle.smithy_recovery.specs.declared.error.RecoverError.{RecoverError}
use Rattle.smithy_recovery.specs.declared.error.RecoverError.TheVariants.{NotPlaced, OutOfMemory}

abbrev pub Entries : Type 0
Entries = List (List ℕ × Value)

-- the names of query members, each with a position
abbrev pub QueryNames : Type 0
QueryNames = BTreeMap (String Global) ℕ

-- the name is among them
unfoldable pub is_named : QueryNames → List ℕ → Bool
is_named names name = is_some (get_by_text names name)

abbrev pub HasNames : List (List ℕ) → QueryNames → Type 0
HasNames all names = (name : List ℕ) → is_named names name ≡ is_one_of name all

-- values by their keys
abbrev pub KeptValues : Type 0
KeptValues = BTreeMap (String Global) ShapeValue

-- they are these entries, over the nodes of a table
abbrev pub shown_values : Table → List (String Global × ShapeValue) → Entries
shown_values t es = map (λ e. (string_bytes e.0, value_in t e.1)) es

abbrev pub entries_in : Table → KeptValues → Entries
entries_in t kept = shown_values t kept.entries

abbrev pub AreValuesDefined : Table → List (String Global × ShapeValue) → Type 0
AreValuesDefined t es = AllByRecursion (λ e. IsDefined t e.1) es

abbrev pub AreKeptDefined : Table → KeptValues → Type 0
AreKeptDefined t kept = AreValuesDefined t kept.entries

-- where a table has the nodes at these places and those of what is kept, it has all nodes of the writes
abbrev pub AreEntriesDefined : (key value : ℕ) → KeptValues → WriteList → Type 0
AreEntriesDefined key value kept ws = (t : Table) → HasNode t key → HasNode t value → AreKeptDefined t kept → AreDefined t ws

-- the map that they are, by its node
abbrev pub map_kept : KeptValues → Schema → Option Value
map_kept kept m = Some (map_value (Some m) (entries_in m.table kept))

-- an entry has the key
abbrev pub has_key : List ℕ → Entries → Bool
has_key key es = is_some (lookup (same_text key) es)

-- the key whose escape a name is, where it is no query member's; none where it is none's escape
abbrev pub unnamed_key : QueryNames → List ℕ → Option (Option (List ℕ))
unnamed_key names name = option_map (λ key. then_some (not (is_named names key)) key) (unescaped name)

-- the value of an entry by its pieces
abbrev pub value_under : Option Schema → List (List ℕ) → Option Value
value_under here ps = option_and_then (entry_value here) (each piece_text ps)

-- the entry of these pieces is put at a key, unless there is one
abbrev pub new_put : Option Schema → List (List ℕ) → Entries → List ℕ → Option Entries
new_put here ps es key = if has_key key es then Some es else option_map (λ v. with_value key v es) (value_under here ps)

-- the same at a key that may not be there
abbrev pub value_put : Option Schema → List (List ℕ) → Entries → Option (List ℕ) → Option Entries
value_put here ps es None = Some es
value_put here ps es (Some key) = new_put here ps es key

-- the entry of the pieces under a name is put where it is no query member's and has none yet; nothing of no pieces
abbrev pub under_put : QueryNames → Option Schema → (name : List ℕ) → List (List ℕ) → Entries → Option Entries
under_put names here name [] es = Some es
under_put names here name (piece ∷ more) es = option_and_then (value_put here (piece ∷ more) es) (unnamed_key names name)

-- the entries of the names of these pieces, one after another
abbrev pub pieces_put : (own pieces : NamedPieces) → QueryNames → Option Schema → List (List ℕ) → Entries → Option Entries
pieces_put own pieces names here [] es = Some es
pieces_put own pieces names here (piece ∷ more) es =
    option_and_then
    (pieces_put own pieces names here more)
    (under_put names here (named_piece piece).0 (named_left own pieces (named_piece piece).0) es)

-- what is kept is still of the table's nodes
abbrev pub StaysKept : Table → (before after : KeptValues) → Type 0
StaysKept t before after = AreKeptDefined t before → AreKeptDefined t after

-- the entry of the pieces at a key, by the node of its value
abbrev pub PutsNew : {A : Type 0} → Schema → (key : List ℕ) → List (Bor (List ℕ)) → (before after : KeptValues) → Result A RecoverError → Type 0
PutsNew n key pieces before after result =
    Finds (λ _. entries_in n.table after) result (new_put (Some n) (map (λ p. p.now) pieces) (entries_in n.table before) key)

-- the same under a name
abbrev pub PutsUnder : {A : Type 0} → Schema → QueryNames → (name : List ℕ) → List (Bor (List ℕ)) → (before after : KeptValues) → Result A RecoverError → Type 0
PutsUnder n names name pieces before after result =
    Finds (λ _. entries_in n.table after) result (under_put names (Some n) name (map (λ p. p.now) pieces) (entries_in n.table before))

-- the same of pieces that may not be there
abbrev pub PutsLeft : {A : Type 0} → Schema → QueryNames → (name : List ℕ) → Option (Bor (List (Bor (List ℕ)))) → (before after : KeptValues) → Result A RecoverError → Type 0
PutsLeft n names name pieces before after result =
    Finds (λ _. entries_in n.table after) result (under_put names (Some n) name (shown_pieces pieces) (entries_in n.table before))

-- the entries that were read, with nodes of the table alone
pub record AreEntriesRead (t : Table) (read : Option Entries) (kept : KeptValues) : Type 0 where
  pub entries : read ≡ Some (entries_in t kept)
  pub defined : AreKeptDefined t kept

abbrev pub KeepsEntries : Table → Option Entries → Result KeptValues RecoverError → Type 0
KeepsEntries t read (Ok kept) = AreEntriesRead t read kept
KeepsEntries t read (Err NotPlaced) = read ≡ None
KeepsEntries t read (Err OutOfMemory) = Unit {0}

-- the entries of a target's pieces, by the node of their values
abbrev pub KeepsQuery : Schema → (own pieces : NamedPieces) → QueryNames → (target : List ℕ) → Result KeptValues RecoverError → Type 0
KeepsQuery n own pieces names target result = KeepsEntries n.table (pieces_put own pieces names (Some n) (query_pieces target) []) result

-- the map of a target's query beside query members, whichever template, query and names were kept by their names
abbrev pub KeepsQueryBeside : Schema → (own pieces : NamedPieces) → QueryNames → (target : List ℕ) → Result (Option ShapeValue) RecoverError → Type 0
KeepsQueryBeside m own pieces names target result =
    (t : Template) (all : List (List ℕ)) → HasLeft (own_query t) (query_pieces target) own pieces → HasNames all names →
    KeepsPart m.table (query_map_part t all m (query_pieces target)) result
