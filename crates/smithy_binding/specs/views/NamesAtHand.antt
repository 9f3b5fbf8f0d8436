-- The header names that the placing of writes has at hand so far.
use Rattle.std.specs.Prelude.{◌≡◌, ℕ, Bool, true, false, List, [], ◌∷◌, slice_get, slice_index_or, Some}
use Rattle.smithy_binding.specs.Words.{Schema, SchemaRef, schema_of, index_of, member_at, Table, WriteList, ShapeValue, list_of, writes_in}
use Rattle.smithy_binding.specs.HeaderNames.{HasNameAt, HaveNames}
use Rattle.smithy_binding.specs.views.StoredTexts.{write_at}
use Rattle.smithy_binding.specs.declared.direction.DirectedSchema.{DirectedSchema}
use Rattle.smithy_binding.specs.declared.marks.Marks.{Marks}
use Rattle.smithy_binding.specs.views.Directed.{directed_of}
use Rattle.smithy_binding.specs.views.Marks.{marks_of}

-- the node's place has its name, where it stands in a header
abbrev pub HasOwnName : (ℕ → Type 0) → SchemaRef → Type 0
HasOwnName holds m = (place : ℕ) (name : List ℕ) → index_of m ≡ Some place → (schema_of m).node.traits.http_header ≡ Some name → holds place

-- each of these members, by position, has its name
abbrev pub SeenHaveNames : (ℕ → Type 0) → Schema → List Bool → Type 0
SeenHaveNames holds schema seen = (position : ℕ) → slice_index_or seen position false ≡ true → HasNameAt holds schema position

-- so it is for each position that is marked
abbrev pub MarkedHaveNames : (ℕ → Type 0) → DirectedSchema → Marks → Type 0
MarkedHaveNames holds schema seen = SeenHaveNames holds (directed_of schema) (marks_of seen)

-- each member that stored writes are for has its name
abbrev pub WritesHaveNames : (ℕ → Type 0) → DirectedSchema → Table → WriteList → Type 0
WritesHaveNames holds schema t ws = HaveNames holds (directed_of schema) (list_of (writes_in t ws))

-- the member that one stored write is for has its name
abbrev pub WriteHasName : (ℕ → Type 0) → DirectedSchema → Table → ℕ → ShapeValue → Type 0
WriteHasName holds schema t place v = HaveNames holds (directed_of schema) (write_at t place v ∷ [])

-- a reference is to the member at this position of the schema
pub record IsMemberAt (schema : DirectedSchema) (position : ℕ) (m : DirectedSchema) : Type 0 where
  pub at : member_at (directed_of schema) position ≡ Some (directed_of m)
  pub table : (schema_of m.schema).table ≡ (schema_of schema.schema).table
  pub place : index_of m.schema ≡ slice_get (schema_of schema.schema).node.members position
