-- A document of the code, read as a scalar of a kind.
use Rattle.std.specs.Prelude.{Option, Some, Result}
use Rattle.smithy_document.specs.Words.{Bor, option_copied, Ghosts, view, ShapeType, scalar_of_document, Gives, Scalar, SerdeError, ReadScalar, ScalarKind}
use Rattle.smithy_types.specs.declared.document.Document as code
use Rattle.smithy_document.specs.SettingsReads.{coercions, ReadsWith, ReadsBy}

-- the answer is the document's scalar of the kind, or its refusal
abbrev pub GivesScalar : {A : Type 0} → (A → Scalar) → ShapeType → code.Document → Result A SerdeError → Type 0
GivesScalar f k d result = Gives f (Some (scalar_of_document k (view d))) result

-- the same as these settings answer
abbrev pub GivesBy : {S A : Type 0} → Ghosts S → S → (A → Scalar) → ShapeType → code.Document → Result A SerdeError → Type 0
GivesBy by s f k d result = ReadsWith (coercions by s) f k (view d) result

-- the same of any kind, where there may be settings
abbrev pub ReadsDocument : {S : Type 0} → Ghosts S → Option (Bor S) → ScalarKind → code.Document → Result ReadScalar SerdeError → Type 0
ReadsDocument by settings k d result = ReadsBy (coercions by) (option_copied settings) k (view d) result
