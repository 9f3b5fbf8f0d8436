-- A node of a sound table is well made, and so is a node of the prelude.
use Rattle.std.proofs.Common.{◌≡◌, refl, subst, ◌∙◌, ℕ, suc, ◌+◌, ◌==◌, arith, Bool, true, false, ◌&&◌, List, [], ◌∷◌, option_map, Option, Some, None}
use Rattle.std.specs.List.{list_all, slice_get}
use Rattle.std.specs.Option.{option_map_or, is_some}
use Rattle.std.specs.Prelude.{IfSome, IsTrue}
use Rattle.std.specs.Str.{is_utf8}
use Rattle.smithy_schema.specs.declared.schema_ref.SchemaRef.{SchemaRef}
use Rattle.smithy_schema.specs.declared.schema_ref.TableRef.{TableRef}
use Rattle.smithy_schema.specs.declared.schema_ref.Spot.{Spot}
use Rattle.smithy_schema.specs.declared.schema_ref.Spot.TheVariants as spot
use Rattle.smithy_ids.specs.ShapeIds.{has_hash}
use Rattle.smithy_ids.specs.declared.shape_type.ShapeType.{ShapeType}
use Rattle.smithy_ids.specs.declared.shape_type.ShapeType.TheVariants as kind
use Rattle.smithy_schema.specs.Nodes.{Node, Table, Schema, node_at, at_place}
use Rattle.smithy_schema.specs.Defining.{is_member, IsSound}
use Rattle.smithy_schema.specs.PreludeNodes.{prelude_name}
use Rattle.smithy_schema.specs.views.References.{schema_in, schema_of}
use Rattle.smithy_schema.specs.WellMade.{is_whole, are_in_place, is_node_well_made, is_table_well_made, is_well_made}

both_true : (x y : Bool) → x ≡ true → y ≡ true → (x && y) ≡ true
both_true true y p q = q
both_true false y p q = p

-- the two tests of a member are one
member_in_place : (table : Table) (o : Option Node) (i : ℕ) → option_map_or (λ m. option_map_or (λ k. k == i) m.node.member_index false && is_some m.node.member_name) (option_map {U = Schema} (λ n. record { table = table; node = n }) o) false ≡ is_member o i
member_in_place table None i = refl
member_in_place table (Some n) i = refl

are_in_place-from_members : (table : Table) (places : List ℕ) (first : ℕ) → ((position member : ℕ) → slice_get places position ≡ Some member → is_member (node_at table member) (first + position) ≡ true) → are_in_place first table places ≡ true
are_in_place-from_members table [] first each = refl
are_in_place-from_members table (place ∷ places) first each =
    let start : first + 0 ≡ first = omega arith in
    let here : is_member (node_at table place) first ≡ true = rw start at (each 0 place refl) in
    let later : are_in_place (first + 1) table places ≡ true =
    are_in_place-from_members table places (first + 1) (λ position member at. let next : first + suc position ≡ first + 1 + position = omega arith in rw next at (each (suc position) member at)) in
    both_true _ _ (member_in_place table (node_at table place) first ∙ here) later

-- a test that each node of a table passes
all_nodes : (test : Node → Bool) (table : Table) → ((place : ℕ) (node : Node) → node_at table place ≡ Some node → test node ≡ true) → list_all (λ n. option_map_or test n true) table ≡ true
all_nodes test [] each = refl
all_nodes test (None ∷ table) each = all_nodes test table (λ place node at. each (suc place) node at)
all_nodes test (Some n ∷ table) each = both_true (test n) _ (each 0 n refl) (all_nodes test table (λ place node at. each (suc place) node at))

node_well_made : (table : Table) (place : ℕ) (node : Node) → IsSound table → node_at table place ≡ Some node → is_node_well_made table node ≡ true
node_well_made table place node sound at =
    both_true (is_whole node) (are_in_place 0 table node.members) (sound.whole place node at)
    (are_in_place-from_members table node.members 0 (λ position member found. let start : 0 + position ≡ position = omega arith in rw start (sound.members place node at position member found)))

pub well_made-from_IsSound : (table : Table) (place : ℕ) (node : Node) → IsSound table → node_at table place ≡ Some node → is_well_made (record { table = table; node = node }) ≡ true
well_made-from_IsSound table place node sound at =
    both_true (is_table_well_made table) (is_node_well_made table node) (all_nodes (is_node_well_made table) table (λ p n there. node_well_made table p n sound there)) (node_well_made table place node sound at)

-- what is found at a place of a sound table
pub found-well_made : (table : Table) (place : ℕ) (found : Option SchemaRef) → IsSound table → option_map schema_of found ≡ at_place table place → IfSome found (λ s. IsTrue (is_well_made (schema_of s)))
found-well_made table place None sound e = tt
found-well_made table place (Some s) sound e = go (node_at table place) refl e
  where
    go : (o : Option Node) → node_at table place ≡ o → Some (schema_of s) ≡ option_map {U = Schema} (λ n. record { table = table; node = n }) o → is_well_made (schema_of s) ≡ true
    go None at is = absurd (cc is)
    go (Some n) at is =
        let same : record { table = table; node = n } ≡ schema_of s = cc is in
        subst (λ (m : Schema). is_well_made m ≡ true) same (well_made-from_IsSound table place n sound at)

-- a reference to a defined place of a sound table
pub table-well_made : (s : SchemaRef) (r : TableRef) (node : Node) → s.spot ≡ spot.Table r → IsSound r.table.now → node_at r.table.now r.index.0 ≡ Some node → is_well_made (schema_of s) ≡ true
table-well_made s r node is sound at = rw is (rw at (well_made-from_IsSound r.table.now r.index.0 node sound at))

-- the prelude's names are absolute
prelude_hash : (shape_type : ShapeType) → has_hash (prelude_name shape_type) ≡ true
prelude_hash kind.Boolean = refl
prelude_hash _ = refl

-- a reference to a node of the prelude, whose name is UTF-8
pub prelude-well_made : (s : SchemaRef) (shape_type : ShapeType) → s.spot ≡ spot.Prelude shape_type → is_utf8 (schema_of s).node.full_name ≡ true → is_well_made (schema_of s) ≡ true
prelude-well_made s shape_type is text = go s.spot is text
  where
    go : (at : Spot) → at ≡ spot.Prelude shape_type → is_utf8 (schema_in at).node.full_name ≡ true → is_well_made (schema_in at) ≡ true
    go (spot.Table r) is text = absurd (cc is)
    go (spot.Prelude k) is text = rw (text, prelude_hash k) refl
