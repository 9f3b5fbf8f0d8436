-- What is kept of the writes for the body.
use Rattle.std.specs.Prelude.{◌≡◌, ℕ, List, [], ◌∷◌, ◌++◌, map, None, Some, Option, option_map, unwrap_or, IfSome}
use Rattle.smithy_binding.specs.Words.{option_or, Document, Schema, Table, Binding, to_body, to_payload, binding_of, schema_of, value_in, IsDefined, ShapeValue, Value, Write, Writes, writes_of, label_of, Resolved}
use Rattle.smithy_binding.specs.Bodies.{BodyParts, raw_bytes, text_of_document}
use Rattle.smithy_binding.specs.declared.body_writes.BodyWrite.{BodyWrite}
use Rattle.smithy_binding.specs.declared.direction.DirectedSchema.{DirectedSchema}
use Rattle.smithy_binding.specs.views.Directed.{directed_of}
use Rattle.smithy_binding.specs.declared.body_writes.BodyWrites.{BodyWrites}

-- nothing of a body
abbrev pub no_parts : BodyParts
no_parts = record { unbound = []; payload = None }

-- with one more write, of a member with this binding
abbrev pub kept_at : Binding → Schema → Value → BodyParts → BodyParts
kept_at to_body m v parts = record parts { unbound = parts.unbound ++ record { label = label_of m; value = v } ∷ [] }
kept_at to_payload m v parts = record parts { payload = option_or parts.payload (Some v) }
kept_at _ m v parts = parts

abbrev pub keep : BodyParts → Resolved → BodyParts
keep parts r = kept_at (binding_of r.member) r.member r.value parts

-- with more writes
abbrev pub keep_all : BodyParts → List Resolved → BodyParts
keep_all parts [] = parts
keep_all parts (r ∷ rs) = keep_all (keep parts r) rs

-- the value of a write over the nodes of a table
abbrev pub value_of : Table → BodyWrite → Value
value_of t w = value_in t w.value.now

-- the write by the node of its member
abbrev pub write_in : Table → BodyWrite → Write
write_in t w = record { label = label_of (schema_of w.member); value = value_of t w }

abbrev pub unbound_in : Table → List BodyWrite → List Write
unbound_in t ws = map (write_in t) ws

-- the same, as they stand inside a value
abbrev pub told : Table → List BodyWrite → Writes
told t ws = writes_of (unbound_in t ws)

-- the value of the write of a payload, if there is one
abbrev pub kept_payload : Table → Option BodyWrite → Option Value
kept_payload t w = option_map (value_of t) w

-- the bytes are those of a text or blob payload, over the nodes of any table, and none where it was not written
abbrev pub AreRaw : Option BodyWrite → List ℕ → Type 0
AreRaw w bytes = (t : Table) → bytes ≡ unwrap_or (option_map raw_bytes (kept_payload t w)) []

-- the bytes are the text of a payload's document, over the nodes of a table, and none where it was not written
abbrev pub AreText : (Document → List ℕ) → Table → Option BodyWrite → List ℕ → Type 0
AreText text t w bytes = bytes ≡ text_of_document text (kept_payload t w)

-- what the code keeps
abbrev pub kept_in : Table → BodyWrites → BodyParts
kept_in t b = record { unbound = unbound_in t b.unbound.items; payload = kept_payload t b.payload }

-- nothing is kept
pub record IsEmpty (b : BodyWrites) : Type 0 where
  pub unbound : b.unbound.items ≡ []
  pub payload : b.payload ≡ None

-- each node in the values of the writes is one of the table
abbrev pub AreDefinedWrites : Table → List BodyWrite → Type 0
AreDefinedWrites t [] = Unit {0}
AreDefinedWrites t (w ∷ ws) = IsDefined t w.value.now × AreDefinedWrites t ws

-- so it is in all that is kept
pub record IsKeptDefined (t : Table) (b : BodyWrites) : Type 0 where
  pub unbound : AreDefinedWrites t b.unbound.items
  pub payload : IfSome b.payload (λ w. IsDefined t w.value.now)

-- a write of a member with this binding is kept, over the nodes of any table
abbrev pub Keeps : Binding → DirectedSchema → ShapeValue → BodyWrites → BodyWrites → Type 0
Keeps b m v old new = (t : Table) → kept_in t new ≡ kept_at b (directed_of m) (value_in t v) (kept_in t old)

-- these writes are kept
abbrev pub KeepsAll : Table → BodyWrites → BodyWrites → List Resolved → Type 0
KeepsAll t old new rs = kept_in t new ≡ keep_all (kept_in t old) rs

-- where a value with defined nodes is kept, all that is kept stays defined
abbrev pub KeepsDefined : Table → ShapeValue → BodyWrites → BodyWrites → Type 0
KeepsDefined t v old new = IsKeptDefined t old → IsDefined t v → IsKeptDefined t new
