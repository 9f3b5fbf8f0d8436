-- A column beside a table: a cell for each of its places, which is filled once by what a provider gives of the node.
use Rattle.std.specs.Prelude.{◌≡◌, ℕ, List, map, length, slice_get, slice_set, Option, Some, None}
use Rattle.std.specs.Option.{option_flatten, is_some}
use Rattle.smithy_schema.specs.Nodes.{Table, Schema, at_place}

-- the table, the provider, and the cells, filled or empty
pub record Column (F T : Type 0) : Type 0 where
  pub table : Table
  pub provider : F
  pub cells : List (Option T)

-- what the cell of a place is filled with
abbrev pub cell_at : {F T : Type 0} → Column F T → ℕ → Option T
cell_at column place = option_flatten (slice_get column.cells place)

-- a column with no cell filled
abbrev pub empty_column : {F T : Type 0} → Table → F → Column F T
empty_column table provider = record { table = table; provider = provider; cells = map (λ _. None) table }

-- whatever fills the cell is given of the node, which is there
abbrev pub IsGiven : {T : Type 0} → (Schema → T → Type 0) → Option T → Option Schema → Type 0
IsGiven gives None schema = Unit {0}
IsGiven gives (Some cell) None = ⊥
IsGiven gives (Some cell) (Some schema) = gives schema cell

-- each filled cell is what the provider gives of the node at its place
abbrev pub AreGiven : {F T : Type 0} → (F → Schema → T → Type 0) → Column F T → Type 0
AreGiven gives column = (place : ℕ) → IsGiven (gives column.provider) (cell_at column place) (at_place column.table place)

-- the provider takes each node of the table
abbrev pub TakesEach : {F : Type 0} → (F → Schema → Type 0) → F → Table → Type 0
TakesEach takes provider table = (place : ℕ) (schema : Schema) → at_place table place ≡ Some schema → takes provider schema

-- From one state of a column to another: it is beside the same table, and each filled cell holds the same.
pub record KeepsCells {F T : Type 0} (old new : Column F T) : Type 0 where
  pub table : new.table ≡ old.table
  pub provider : new.provider ≡ old.provider
  pub cells : (place : ℕ) (cell : T) → cell_at old place ≡ Some cell → cell_at new place ≡ Some cell

-- The cell of a place was filled, where that has a node, and no other cell was changed.
pub record IsFilledAt {F T : Type 0} (place : ℕ) (old new : Column F T) : Type 0 where
  pub here : is_some (cell_at new place) ≡ is_some (at_place old.table place)
  pub others : new ≡ record old { cells = slice_set old.cells place (cell_at new place) }

-- what every column keeps: a cell for each place, a provider that takes each node, and what it gives in each filled cell
pub record IsColumn {F T : Type 0} (takes : F → Schema → Type 0) (gives : F → Schema → T → Type 0) (column : Column F T) : Type 0 where
  pub beside : length column.cells ≡ length column.table
  pub callable : TakesEach takes column.provider column.table
  pub given : AreGiven gives column
