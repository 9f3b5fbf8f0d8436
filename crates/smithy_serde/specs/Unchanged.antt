-- A call that changes nothing.
use Rattle.std.specs.Prelude.{◌≡◌, Ok}
use Rattle.smithy_serde.specs.Held.{Answer}

-- nothing happens, and that is answered
abbrev pub DoesNothing : {R : Type 0} → R → R → Answer → Type 0
DoesNothing old new answer = (new ≡ old) × (answer ≡ Ok tt)
