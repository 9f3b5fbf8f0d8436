-- What a template gives.
use Rattle.std.specs.Prelude.{◌≡◌, Option, Some, None, Result, Ok, Err}
use Rattle.smithy_router.specs.declared.error.RouteError.{RouteError}
use Rattle.smithy_router.specs.declared.error.RouteError.TheVariants as fault

-- what is defined, by its view, and a refusal exactly where nothing is; want of memory is free
abbrev pub Gives : {A V : Type 0} → (A → V) → Option V → Result A RouteError → Type 0
Gives view defined (Ok a) = defined ≡ Some (view a)
Gives view defined (Err fault.Template) = defined ≡ None
Gives view defined (Err (fault.Conflict other)) = ⊥
Gives view defined (Err fault.OutOfMemory) = Unit {0}
