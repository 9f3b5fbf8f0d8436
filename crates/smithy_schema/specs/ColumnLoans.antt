-- What `SchemaExtension::get` leaves once its cell is no longer borrowed.
use mir.Syntax.{named}
use Rattle.std.specs.Prelude.{◌≡◌, ℕ, [], Option, option_map, Result, IfOk, OnOk, OnErr}
use Rattle.std.specs.Borrow.{Fml, RattleType, Bor, MutBor}
use Rattle.std.specs.Io.BufRead.{Rests}
use Rattle.smithy_schema.specs.declared.extension.Provider.{Ghosts}
use Rattle.smithy_schema.specs.contracts.extension.SchemaExtension.{the_row}
use Rattle.smithy_schema.specs.Nodes.{Schema}
use Rattle.smithy_schema.specs.Columns.{Column, cell_at, AreGiven, KeepsCells, IsFilledAt}

-- The cell of a place is filled and handed out; or the column is as it was.
pub record HasGot {F T E : Type 0} (gives : F → Schema → T → Type 0) (place : ℕ) (old : Column F T) (result : Result (Option (Bor T)) E) (new : Column F T) : Type 0 where
  pub cell : IfOk result (λ found. option_map (λ c. c.now) found ≡ cell_at new place)
  pub filled : OnOk result (IsFilledAt place old new)
  pub kept : KeepsCells old new
  pub given : AreGiven gives new
  pub err : OnErr result (new ≡ old)

abbrev pub EndsGot : {E : Type 0} (T F : RattleType) (g : Ghosts F.Denot T.Denot) → MutBor (Column F.Denot T.Denot) → ℕ → Result (Option (Bor T.Denot)) E → Fml
EndsGot T F g column place result =
    Rests (the_row (record { mir = named 0; lft = [] }) T F g) column (HasGot g.gives place column.now result)
