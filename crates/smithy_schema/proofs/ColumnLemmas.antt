-- Cells of a column that are filled, or stay empty.
use Rattle.std.proofs.Common.{◌≡◌, refl, sym, ap, subst, ◌∙◌, ℕ, zero, suc, true, false, List, [], ◌∷◌, length, map, slice_set, option_map, Option, Some, None}
use Rattle.std.specs.List.{slice_get}
use Rattle.std.specs.Option.{option_flatten, is_some}
use Rattle.smithy_schema.specs.declared.stored.StoredNode.{StoredNode}
use Rattle.smithy_schema.specs.Nodes.{Node, Schema, Table, at_place}
use Rattle.smithy_schema.specs.views.Stored.{table_stored}
use Rattle.smithy_schema.specs.Columns.{Column, cell_at, IsGiven, AreGiven, TakesEach, IsColumn, IsFilledAt}

-- to put in a cell what it is filled with changes nothing
set_own : {T : Type 0} (cells : List (Option T)) (place : ℕ) → slice_set cells place (option_flatten (slice_get cells place)) ≡ cells
set_own [] place = refl
set_own (c ∷ cells) zero = refl
set_own {T} (c ∷ cells) (suc place) = ap (λ (cs : List (Option T)). c ∷ cs) (set_own cells place)

is_some_mapped : {X T : Type 0} (f : X → T) (found : Option X) → is_some (option_map f found) ≡ is_some found
is_some_mapped f None = refl
is_some_mapped f (Some x) = refl

there : {T : Type 0} (gives : Schema → T → Type 0) (cell : Option T) (schema : Option Schema) → IsGiven gives cell schema → is_some cell ≡ true → is_some cell ≡ is_some schema
there gives None schema given filled = cc filled
there gives (Some cell) None given filled = absurd given
there gives (Some cell) (Some schema) given filled = refl

nowhere : {T : Type 0} (cell : Option T) (schema : Option Schema) → is_some cell ≡ false → schema ≡ None → is_some cell ≡ is_some schema
nowhere cell schema empty none = rw none empty

-- a cell that is filled stays as it is
pub filled_already : {F T X : Type 0} (gives : F → Schema → T → Type 0) (column : Column F T) (place : ℕ) (f : X → T) (found : Option X) → option_map f found ≡ cell_at column place → AreGiven gives column → is_some found ≡ true → IsFilledAt place column column
filled_already gives column place f found here given filled =
    let full : is_some (cell_at column place) ≡ true = rw (← here) (is_some_mapped f found ∙ filled) in
    record {
      here = there (gives column.provider) (cell_at column place) (at_place column.table place) (given place) full;
      others = λ i. record column { cells = sym (set_own column.cells place) i };
    }

-- and so does the one of a place without a node
pub empty_still : {F T X : Type 0} (column : Column F T) (place : ℕ) (f : X → T) (found : Option X) → option_map f found ≡ cell_at column place → is_some found ≡ false → at_place column.table place ≡ None → IsFilledAt place column column
empty_still column place f found here empty none =
    let bare : is_some (cell_at column place) ≡ false = rw (← here) (is_some_mapped f found ∙ empty) in
    record {
      here = nowhere (cell_at column place) (at_place column.table place) bare none;
      others = λ i. record column { cells = sym (set_own column.cells place) i };
    }

-- as many empty cells as the table has places
empty_beside : {T : Type 0} (empty : Option T) (nodes : List (Option StoredNode)) → map (λ (o : Option StoredNode). empty) nodes ≡ map (λ (o : Option Node). empty) (table_stored nodes)
empty_beside empty [] = refl
empty_beside {T} empty (n ∷ nodes) = ap (λ (cells : List (Option T)). empty ∷ cells) (empty_beside empty nodes)

pub empty_cells_are : {T : Type 0} (cells : List (Option T)) (seen nodes : List (Option StoredNode)) (table : Table) → cells ≡ map (λ (o : Option StoredNode). None) seen → seen ≡ nodes → table_stored nodes ≡ table
    → cells ≡ map (λ (o : Option Node). None) table
empty_cells_are {T} cells seen nodes table e same shown =
    e ∙ ap (map (λ (o : Option StoredNode). None)) same ∙ empty_beside {T = T} None nodes ∙ ap (map (λ (o : Option Node). None)) shown

as_long : {X : Type 0} (x : X) (table : Table) → length (map (λ (o : Option Node). x) table) ≡ length table
as_long x [] = refl
as_long x (o ∷ table) = ap suc (as_long x table)

empty_at : {T : Type 0} (empty : Option T) (table : Table) (place : ℕ) → empty ≡ None → option_flatten (slice_get (map (λ (o : Option Node). empty) table) place) ≡ None
empty_at empty [] place e = refl
empty_at empty (o ∷ table) zero e = e
empty_at empty (o ∷ table) (suc place) e = empty_at empty table place e

-- a column with empty cells keeps what every column does
pub empty_is_column : {F T : Type 0} (takes : F → Schema → Type 0) (gives : F → Schema → T → Type 0) (column : Column F T) → column.cells ≡ map (λ (o : Option Node). None) column.table → TakesEach takes column.provider column.table
    → IsColumn takes gives column
empty_is_column {F} {T} takes gives column e callable = record {
  beside = ap length e ∙ as_long {X = Option T} None column.table;
  callable = callable;
  given = λ place. subst (λ (o : Option T). IsGiven (gives column.provider) o (at_place column.table place)) (sym (ap (λ (cells : List (Option T)). option_flatten (slice_get cells place)) e ∙ empty_at {T = T} None column.table place refl)) tt;
}
