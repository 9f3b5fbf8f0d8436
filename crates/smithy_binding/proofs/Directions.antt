-- What stays the same in a schema as the messages of a direction have it, and what changes.
use Rattle.smithy_binding.proofs.Common.{◌≡◌, refl, ap, ◌∙◌, ℕ, zero, suc, false, List, [], ◌∷◌, map, slice_get, Option, Some, None, option_map, option_and_then, option_map_or, option_or, unless, ShapeType, Node, Schema, Table, at_place, cited, element_of, key_of, value_of, member_at, has_name, position_of_name, schema_of, Direction, directed_of, directed_node, directed_schema, directed_table, kind_or_none, Value, list, Writes, no_writes, write, fits, wrong_item_kind, element_fault, nested_fault, part_fault, entry_fault, item_fault, value_fault}
use Rattle.std.specs.Prelude.{position}
use Rattle.std.specs.Option.{option_flatten}
use Rattle.smithy_schema.specs.declared.schema_ref.SchemaRef.{SchemaRef}
use Rattle.smithy_serde.specs.Values as value
use Rattle.smithy_binding.specs.declared.direction.Direction.TheVariants as direction

-- the node at a place
pub at-in : (way : Direction) (t : Table) (p : ℕ) → at_place (directed_table way t) p ≡ option_map (directed_schema way) (at_place t p)
at-in direction.Request t p = go (at_place t p)
  where
    go : (o : Option Schema) → o ≡ option_map (directed_schema direction.Request) o
    go None = refl
    go (Some s) = refl
at-in direction.Response t p = go t p
  where
    go : (u : Table) (p : ℕ) → option_map (λ (n : Node). record { table = directed_table direction.Response t; node = n }) (option_flatten (slice_get (map (option_map (directed_node direction.Response)) u) p))
        ≡ option_map (directed_schema direction.Response) (option_map (λ (n : Node). record { table = t; node = n }) (option_flatten (slice_get u p)))
    go [] p = refl
    go (None ∷ u) zero = refl
    go (Some n ∷ u) zero = refl
    go (o ∷ u) (suc p) = go u p

pub cited-in : (way : Direction) (m : Schema) (place : Option ℕ) → cited (directed_schema way m) place ≡ option_map (directed_schema way) (cited m place)
cited-in way m None = refl
cited-in way m (Some p) = at-in way m.table p

pub member-in : (way : Direction) (schema : Schema) (i : ℕ) → member_at (directed_schema way schema) i ≡ option_map (directed_schema way) (member_at schema i)
member-in way schema i = cited-in way schema (slice_get schema.node.members i)

-- what the code has of a schema's node is what the direction has of it
pub directed-in : (way : Direction) (o : Option SchemaRef) → option_map directed_of (option_map (λ (s : SchemaRef). record { schema = s; way = way }) o) ≡ option_map (directed_schema way) (option_map schema_of o)
directed-in way None = refl
directed-in way (Some s) = refl

pub kind-in : (way : Direction) (o : Option Schema) → kind_or_none (option_map (directed_schema way) o) ≡ kind_or_none o
kind-in way None = refl
kind-in way (Some s) = refl

pub element_kind-in : (way : Direction) (m : Schema) → kind_or_none (element_of (directed_schema way m)) ≡ kind_or_none (element_of m)
element_kind-in way m = ap kind_or_none (cited-in way m m.node.element) ∙ kind-in way (element_of m)

-- names and positions
pub position-in : (way : Direction) (schema : Schema) (name : List ℕ) → position_of_name (directed_schema way schema) name ≡ position_of_name schema name
position-in way schema name = λ i. position (λ p. here p i) schema.node.members
  where
    named : (o : Option Schema) → option_map_or (has_name name) (option_map (directed_schema way) o) false ≡ option_map_or (has_name name) o false
    named None = refl
    named (Some s) = refl

    here : (p : ℕ) → option_map_or (has_name name) (at_place (directed_table way schema.table) p) false ≡ option_map_or (has_name name) (at_place schema.table p) false
    here p = ap (λ o. option_map_or (has_name name) o false) (at-in way schema.table p) ∙ named (at_place schema.table p)

-- faults of values name the member alone

pub element_fault-in : (way : Direction) (m : Schema) (k : ShapeType) (ws : Writes) → element_fault (directed_schema way m) k ws ≡ element_fault m k ws
element_fault-in way m k no_writes = refl
element_fault-in way m k (write l v ws) = ap (option_or (unless (fits k v) (wrong_item_kind m k v))) (element_fault-in way m k ws)

nested-in : (way : Direction) (m : Schema) (here : Option Schema) (v : Value) → nested_fault (directed_schema way m) (option_map (directed_schema way) here) v ≡ nested_fault m here v
nested-in way m here (list ws) = ap (λ k. element_fault (directed_schema way m) k ws) (elements here) ∙ element_fault-in way m (kind_or_none (option_and_then element_of here)) ws
  where
    elements : (o : Option Schema) → kind_or_none (option_and_then element_of (option_map (directed_schema way) o)) ≡ kind_or_none (option_and_then element_of o)
    elements None = refl
    elements (Some s) = element_kind-in way s
nested-in way m here _ = refl

part-in : (way : Direction) (m : Schema) (here : Option Schema) (v : Value) → part_fault (directed_schema way m) (option_map (directed_schema way) here) v ≡ part_fault m here v
part-in way m here v = λ i. option_or (unless (fits (kind-in way here i) v) (wrong_item_kind m (kind-in way here i) v)) (nested-in way m here v i)

entry-in : (way : Direction) (m : Schema) (this next : Option Schema) (ws : Writes) → entry_fault (directed_schema way m) (option_map (directed_schema way) this) (option_map (directed_schema way) next) ws ≡ entry_fault m this next ws
entry-in way m this next no_writes = refl
entry-in way m this next (write l v ws) = λ i. option_or (part-in way m this v i) (entry-in way m next this ws i)

pub list_fault-in : (way : Direction) (m : Schema) (ws : Writes) → item_fault (directed_schema way m) (list ws) ≡ element_fault m (kind_or_none (element_of (directed_schema way m))) ws
list_fault-in way m ws = element_fault-in way m (kind_or_none (element_of (directed_schema way m))) ws

map_items-in : (way : Direction) (m : Schema) (ws : Writes) → item_fault (directed_schema way m) (value.map ws) ≡ item_fault m (value.map ws)
map_items-in way m ws = (λ i. entry_fault (directed_schema way m) (cited-in way m m.node.key i) (cited-in way m m.node.value i) ws) ∙ entry-in way m (key_of m) (value_of m) ws

pub map_fault-in : (way : Direction) (m : Schema) (ws : Writes) → value_fault (directed_schema way m) (value.map ws) ≡ value_fault m (value.map ws)
map_fault-in way m ws = rw (map_items-in way m ws) refl
