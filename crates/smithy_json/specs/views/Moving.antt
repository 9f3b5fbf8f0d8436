-- A step in a JSON text, as the code takes it.
use Rattle.std.specs.Prelude.{◌≡◌, ℕ, Option, Some, None, Result, Ok, Err}
use Rattle.smithy_json.specs.JsonEnd.{Opened, moved_by}
use Rattle.smithy_json.specs.declared.places.Place.{Place}

-- a byte leads from what was open there to what is open here, or it can't stand there; want of memory is free
abbrev pub Moves : {E : Type 0} → Opened → Place → ℕ → Opened → Result (Option Place) E → Type 0
Moves before place b after (Ok (Some next)) = moved_by before place b ≡ Some (after, next)
Moves before place b after (Ok None) = moved_by before place b ≡ None
Moves before place b after (Err e) = Unit {0}
