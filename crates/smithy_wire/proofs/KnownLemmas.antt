-- What is known of the names in JSON holds at each place that a form leads to.
use Rattle.smithy_wire.proofs.Common.{◌≡◌, sym, ◌∙◌, subst, ℕ, List, Option, Some, None}
use Rattle.std.specs.Borrow.{Bor}
use Rattle.smithy_schema.specs.Columns.{Column, AreGiven, IsGiven, cell_at}
use Rattle.smithy_schema.specs.Nodes.{Schema, at_place, shape}
use Rattle.smithy_wire.specs.declared.json_names.JsonNames.{JsonNames}
use Rattle.smithy_wire.specs.declared.node_names.NodeNames.{NodeNames}
use Rattle.smithy_wire.specs.declared.side.Side.{Side}
use Rattle.smithy_wire.specs.Forms.{Form, body_form, whole_form, element_form, part_form}
use Rattle.smithy_wire.specs.views.FieldNames.{Knows, MayTell, Tells}
use Rattle.smithy_wire.specs.views.KnownForms.{AreOf, IsKnown, table_in}
use Rattle.smithy_wire.proofs.EachLemmas.{IsClosed, each_body, each_by, each_element, each_part, part_table, shape_table}

-- a column has what its provider gives
pub known_from : {F : Type 0} (column : Column F NodeNames) → AreGiven (λ _ n names. Tells n names) column → Knows column column.table
known_from column given place n at = go (cell_at column place) (at_place column.table place) (given place) at
  where
    go : (o : Option NodeNames) (s : Option Schema) → IsGiven Tells o s → s ≡ Some n → MayTell n o
    go None s h at = tt
    go (Some names) None h at = absurd h
    go (Some names) (Some m) h at = let same : m ≡ n = cc at in subst (λ c. Tells c names) same h

closed_known : {F : Type 0} (column : Column F NodeNames) → IsClosed (λ side n. Knows column n.table)
closed_known column side s m part h = subst (Knows column) (sym (shape_table m ∙ part_table s m part)) h

abbrev KnowsIn : Bor JsonNames → Option Side → Schema → Type 0
KnowsIn names side s = Knows names.now.column s.table

-- what is known in a table is known of the shape of each of its nodes
shape_known : (names : Bor JsonNames) (side : Option Side) (s : Schema) → table_in names.now ≡ s.table → KnowsIn names side (shape s)
shape_known names side s of = subst (Knows names.now.column) (of ∙ sym (shape_table s)) names.now.known

pub body_known_as : (names : Option (Bor JsonNames)) (side : Side) (s : Schema) (f : Form) → f ≡ body_form side s → AreOf s.table names → IsKnown names f
body_known_as None side s f is of = tt
body_known_as (Some names) side s f is of =
    subst (IsKnown (Some names)) (sym is) (each_body (KnowsIn names) (closed_known names.now.column) side s (shape_known names (Some side) s of))

pub whole_known_as : (names : Option (Bor JsonNames)) (s : Schema) (f : Form) → f ≡ whole_form s → AreOf s.table names → IsKnown names f
whole_known_as None s f is of = tt
whole_known_as (Some names) s f is of =
    subst (IsKnown (Some names)) (sym is) (each_by (KnowsIn names) (closed_known names.now.column) (shape s).node.kind None s (shape_known names None s of))

pub element_known_as : (names : Option (Bor JsonNames)) (f g : Form) → g ≡ element_form f → IsKnown names f → IsKnown names g
element_known_as None f g is h = tt
element_known_as (Some names) f g is h = subst (IsKnown (Some names)) (sym is) (each_element (KnowsIn names) (closed_known names.now.column) f h)

pub part_known_as : (names : Option (Bor JsonNames)) (f g : Form) (name : List ℕ) → g ≡ part_form f name → IsKnown names f → IsKnown names g
part_known_as None f g name is h = tt
part_known_as (Some names) f g name is h = subst (IsKnown (Some names)) (sym is) (each_part (KnowsIn names) (closed_known names.now.column) f name h)
