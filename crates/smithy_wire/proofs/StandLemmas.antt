-- Where the test of names holds, names stand at each place that a form leads to.
use Rattle.smithy_wire.proofs.Common.{◌≡◌, refl, sym, ap, ◌∙◌, subst, ℕ, zero, suc, Bool, true, ◌&&◌, inl, inr, List, [], ◌∷◌, Option, Some, None, option_map, IsTrue, and_parts, and_from}
use Rattle.std.specs.Prelude.{IfSome}
use Rattle.std.specs.List.{list_all, slice_get}
use Rattle.std.specs.Option.{option_flatten, option_map_or}
use Rattle.smithy_schema.specs.Nodes.{Node, Schema, Table, at_place, cited, element_of, value_of, members_of, shape}
use Rattle.smithy_schema.specs.Columns.{Column, AreGiven, IsGiven, cell_at}
use Rattle.smithy_schema.specs.declared.schema_ref.SchemaRef.{SchemaRef}
use Rattle.smithy_schema.specs.declared.schema_ref.Spot.{Spot}
use Rattle.smithy_schema.specs.declared.schema_ref.Spot.TheVariants as spot
use Rattle.smithy_schema.specs.References.{index_in, index_of, schema_in, schema_of}
use Rattle.smithy_wire.specs.declared.side.Side.{Side}
use Rattle.smithy_wire.specs.WireNames.{names_stand, value_stands, parts_stand, table_stands, structure_stands, stands, whole_stands}
use Rattle.smithy_wire.specs.Forms.{Form, body_form, whole_form, element_form, part_form}
use Rattle.smithy_wire.specs.Standing.{Stand, StructureStands}
use Rattle.smithy_wire.proofs.EachLemmas.{IsClosed, IsPartOf, each_body, each_by, each_element, each_part, cited_table, of_part, of_shape, part_table, shape_table}
use Rattle.smithy_wire.proofs.NameLaws.{NamesStand, among_all, stand_by}

-- ---- the nodes of a table

here_stand : (t : Table) (place : Option Node) (n : Schema) → option_map_or (λ node. parts_stand record { table = t; node = node }) place true ≡ true
    → option_map {U = Schema} (λ m. record { table = t; node = m }) place ≡ Some n → parts_stand n ≡ true
here_stand t None n e at = absurd (cc at)
here_stand t (Some m) n e at = let same : record { table = t; node = m } ≡ n = cc at in ap parts_stand (sym same) ∙ e

all_stand : (t : Table) (all : List (Option Node)) (i : ℕ) (n : Schema)
    → list_all (λ place. option_map_or (λ node. parts_stand record { table = t; node = node }) place true) all ≡ true
    → option_map {U = Schema} (λ m. record { table = t; node = m }) (option_flatten (slice_get all i)) ≡ Some n → parts_stand n ≡ true
all_stand t [] i n e at = absurd (cc at)
all_stand t (p ∷ ps) zero n e at = here_stand t p n (and_parts _ _ e).0 at
all_stand t (p ∷ ps) (suc i) n e at = all_stand t ps i n (and_parts _ _ e).1 at

standing : (t : Table) → table_stands t ≡ true → (place : ℕ) (n : Schema) → at_place t place ≡ Some n → parts_stand n ≡ true
standing t e place n at = all_stand t t place n e at

-- ---- what a structure cites

part_stands : (s m : Schema) → IsPartOf m s → parts_stand s ≡ true → value_stands m ≡ true
part_stands s m part e = go part
  where
    front : (list_all value_stands (members_of s) && option_map_or value_stands (element_of s) true) ≡ true
    front = (and_parts (list_all value_stands (members_of s) && option_map_or value_stands (element_of s) true) (option_map_or value_stands (value_of s) true) e).0

    go : IsPartOf m s → value_stands m ≡ true
    go (inl here) = among_all value_stands (members_of s) m here (and_parts (list_all value_stands (members_of s)) (option_map_or value_stands (element_of s) true) front).0
    go (inr (inl at)) =
        ap (λ o. option_map_or value_stands o true) (sym at) ∙ (and_parts (list_all value_stands (members_of s)) (option_map_or value_stands (element_of s) true) front).1
    go (inr (inr at)) =
        ap (λ o. option_map_or value_stands o true) (sym at)
        ∙ (and_parts (list_all value_stands (members_of s) && option_map_or value_stands (element_of s) true) (option_map_or value_stands (value_of s) true) e).1

pub stand_here : (side : Option Side) (s : Schema) → StructureStands side s → names_stand side s ≡ true
stand_here side s h =
    let all = and_parts (names_stand side s && parts_stand s) (table_stands s.table) h in
    (and_parts (names_stand side s) (parts_stand s) all.0).0

pub closed_stands : IsClosed StructureStands
closed_stands side s m part h =
    let all = and_parts (names_stand side s && parts_stand s) (table_stands s.table) h in
    let here = and_parts (names_stand side s) (parts_stand s) all.0 in
    let table : table_stands m.table ≡ true = ap table_stands (part_table s m part) ∙ all.1 in
    let own : parts_stand m ≡ true = of_part (λ n. parts_stand n ≡ true) s m (standing s.table all.1) part in
    let parts : parts_stand (shape m) ≡ true = of_shape (λ n. parts_stand n ≡ true) m (standing m.table table) own in
    and_from (names_stand None (shape m) && parts_stand (shape m)) (table_stands (shape m).table)
    (and_from (names_stand None (shape m)) (parts_stand (shape m)) (part_stands s m part here.1) parts) (ap table_stands (shape_table m) ∙ table)

pub structure_stand : (side : Option Side) (s : Schema) → StructureStands side s → NamesStand side s
structure_stand side s h = stand_by side s (stand_here side s h)

-- ---- forms

pub body_stands_as : (names : Bool) (side : Side) (s : Schema) (f : Form) → f ≡ body_form side s → (IsTrue names → IsTrue (stands side s)) → Stand names f
body_stands_as names side s f is given = subst (Stand names) (sym is) (λ e. each_body StructureStands closed_stands side s (given e))

pub whole_stands_as : (names : Bool) (s : Schema) (f : Form) → f ≡ whole_form s → (IsTrue names → IsTrue (whole_stands s)) → Stand names f
whole_stands_as names s f is given = subst (Stand names) (sym is) (λ e. each_by StructureStands closed_stands (shape s).node.kind None s (given e))

pub element_stands_as : (names : Bool) (f g : Form) → g ≡ element_form f → Stand names f → Stand names g
element_stands_as names f g is h = subst (Stand names) (sym is) (λ e. each_element StructureStands closed_stands f (h e))

pub part_stands_as : (names : Bool) (f g : Form) (name : List ℕ) → g ≡ part_form f name → Stand names f → Stand names g
part_stands_as names f g name is h = subst (Stand names) (sym is) (λ e. each_part StructureStands closed_stands f name (h e))

-- ---- the test

-- what is known of a node is so
pub known_as : {F : Type 0} (column : Column F Bool) (place : ℕ) (n : Schema) (b : Bool) → AreGiven (λ _ m x. x ≡ names_stand None m) column → Some b ≡ cell_at column place
    → column.table ≡ n.table → at_place n.table place ≡ Some n → b ≡ names_stand None n
known_as column place n b given is same at = go (cell_at column place) (at_place column.table place) (given place) is (ap (λ t. at_place t place) same ∙ at)
  where
    go : (o : Option Bool) (s : Option Schema) → IsGiven (λ m x. x ≡ names_stand None m) o s → Some b ≡ o → s ≡ Some n → b ≡ names_stand None n
    go None s h is at = absurd (cc is)
    go (Some x) None h is at = absurd h
    go (Some x) (Some m) h is at =
        let told : b ≡ x = cc is in
        let one : m ≡ n = cc at in
        told ∙ h ∙ ap (names_stand None) one

-- a node of no table cites nothing
pub bare_stands : (side : Option Side) (r : SchemaRef) → index_of r ≡ None → names_stand side (schema_of r) ≡ true → structure_stands side (schema_of r) ≡ true
bare_stands side r none e = go r.spot none e
  where
    go : (s : Spot) → index_in s ≡ None → names_stand side (schema_in s) ≡ true → structure_stands side (schema_in s) ≡ true
    go (spot.Table t) none e = absurd (cc none)
    go (spot.Prelude k) none e = refl

-- an element and a value are nodes of the table
cited_known : (t : Table) (s : Schema) (o : Option ℕ) (p : Option SchemaRef) → t ≡ s.table → option_map schema_of p ≡ cited s o → IfSome p (λ n. t ≡ (schema_of n).table)
cited_known t s o None same is = tt
cited_known t s o (Some n) same is = same ∙ sym (cited_table s o (schema_of n) is)

pub element_known : (t : Table) (s : Schema) (p : Option SchemaRef) → t ≡ s.table → option_map schema_of p ≡ element_of s → IfSome p (λ n. t ≡ (schema_of n).table)
element_known t s p same is = cited_known t s s.node.element p same is

pub value_known : (t : Table) (s : Schema) (p : Option SchemaRef) → t ≡ s.table → option_map schema_of p ≡ value_of s → IfSome p (λ n. t ≡ (schema_of n).table)
value_known t s p same is = cited_known t s s.node.value p same is
