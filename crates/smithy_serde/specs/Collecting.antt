-- Items that are read and added up, in order, to the first refusal.
use Rattle.std.specs.Prelude.{◌≡◌, List, [], ◌∷◌, Result, Ok, Err, ◌⊎◌}
use Rattle.smithy_serde.specs.declared.error.SerdeError.{SerdeError}
use Rattle.smithy_serde.specs.declared.error.SerdeError.TheVariants.{OutOfMemory}
use Rattle.smithy_serde.specs.Held.{Answer, IsAnswer}

-- what was read is added, or its refusal answered
abbrev pub Collects : {B V : Type 0} → (V → B → V) → Result B SerdeError → V → V → Answer → Type 0
Collects add (Ok b) old new answer = ((answer ≡ Ok tt) × (new ≡ add old b)) ⊎ (answer ≡ Err OutOfMemory)
Collects add (Err e) old new answer = IsAnswer (Err e) answer

abbrev pub all_added : {B V : Type 0} → (V → B → V) → V → List B → V
all_added add v [] = v
all_added add v (b ∷ bs) = all_added add (add v b) bs

-- the same of all that was read
abbrev pub Built : {B V : Type 0} → (V → B → V) → Result (List B) SerdeError → V → V → Answer → Type 0
Built add (Ok bs) old new answer = ((answer ≡ Ok tt) × (new ≡ all_added add old bs)) ⊎ (answer ≡ Err OutOfMemory)
Built add (Err e) old new answer = IsAnswer (Err e) answer
