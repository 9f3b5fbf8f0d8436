-- What a part refuses is refused of the whole.
use Rattle.std.proofs.Common.{◌≡◌, Bool, false, Option, None, Result, Err}
use Rattle.smithy_schema.specs.Nodes.{Table}
use Rattle.smithy_serde.specs.Values.{Value}
use Rattle.smithy_serde.specs.declared.value.ShapeValue.{ShapeValue}
use Rattle.smithy_recovery.specs.Finding.{Finds}
use Rattle.smithy_recovery.specs.views.Keeping.{Keeps, KeepsPart}
use Rattle.smithy_recovery.specs.views.Stages.{Tells}
use Rattle.smithy_recovery.specs.declared.error.RecoverError.{RecoverError}
use Rattle.smithy_recovery.specs.declared.error.RecoverError.TheVariants.{NotPlaced, OutOfMemory}

pub refused : {A B C D : Type 0} (show : A → B) (view : C → D) (part : Option B) (whole : Option D) (e : RecoverError) (r : Result C RecoverError) → r ≡ Err e → (part ≡ None → whole ≡ None)
    → Finds show (Err e) part → Finds view r whole
refused show view part whole NotPlaced r is h told = rw is (h told)
refused show view part whole OutOfMemory r is h told = rw is tt

-- a test's
pub test_refused : {C D : Type 0} (view : C → D) (test : Bool) (whole : Option D) (e : RecoverError) (r : Result C RecoverError) → r ≡ Err e → (test ≡ false → whole ≡ None)
    → Tells test (Err e) → Finds view r whole
test_refused view test whole NotPlaced r is h told = rw is (h told)
test_refused view test whole OutOfMemory r is h told = rw is tt

pub value_refused : (t : Table) (part whole : Option Value) (e : RecoverError) (r : Result ShapeValue RecoverError) → r ≡ Err e → (part ≡ None → whole ≡ None) → Keeps t part (Err e) → Keeps t whole r
value_refused t part whole NotPlaced r is h told = rw is (h told)
value_refused t part whole OutOfMemory r is h told = rw is tt

pub part_refused : {A : Type 0} (t : Table) (read : Option A) (part : Option (Option Value)) (e : RecoverError) (r : Result (Option ShapeValue) RecoverError) → r ≡ Err e → (read ≡ None → part ≡ None)
    → Finds {A = A} (λ x. x) (Err e) read → KeepsPart t part r
part_refused t read part NotPlaced r is h told = rw is (h told)
part_refused t read part OutOfMemory r is h told = rw is tt

-- a value's texts
pub text_refused : {A : Type 0} (t : Table) (read : Option A) (whole : Option Value) (e : RecoverError) (r : Result ShapeValue RecoverError) → r ≡ Err e → (read ≡ None → whole ≡ None)
    → Finds {A = A} (λ x. x) (Err e) read → Keeps t whole r
text_refused t read whole NotPlaced r is h told = rw is (h told)
text_refused t read whole OutOfMemory r is h told = rw is tt

-- want of memory is free
pub part_without_memory : (t : Table) (part : Option (Option Value)) (r : Result (Option ShapeValue) RecoverError) → r ≡ Err OutOfMemory → KeepsPart t part r
part_without_memory t part r is = rw is tt
