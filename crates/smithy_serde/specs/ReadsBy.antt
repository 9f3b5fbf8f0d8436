-- How a reader of a type of its own answers.
use Rattle.std.specs.Prelude.{Result, IfSome}
use Rattle.smithy_serde.specs.declared.error.SerdeError.{SerdeError}
use Rattle.smithy_serde.specs.views.Handing.{Leaves}
use Rattle.smithy_serde.specs.Held.{Held}
use Rattle.smithy_serde.specs.ReadCalls.{AtHand}

pub record ReadsBy {A : Type 0} (answers : Held → Result A SerdeError → Type 0) (old new : AtHand) (result : Result A SerdeError) : Type 0 where
  pub gives : IfSome old.held (λ h. answers h result)
  pub leaves : Leaves old new result
