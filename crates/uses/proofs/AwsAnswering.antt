-- What is given by values that are given in steps.
use Rattle.std.proofs.Common.{◌≡◌, ℕ, refl, sym, ap, subst, ◌∙◌, Option, Some, None, Result, Ok, Err}
use Rattle.std.specs.Prelude.{IsErrAnd, ok_or}
use Rattle.smithy_types.specs.Results.{then_give, then_try}
use Rattle.smithy_schema.specs.Places.{place_of}
use Rattle.smithy_schema.specs.declared.parts.SchemaIndex.{SchemaIndex}
use Rattle.smithy_serde.specs.ReadCalls.{Gives}
use Rattle.smithy_serde.specs.Refusals.{IsRefusal}
use Rattle.smithy_serde.specs.ValueReading.{structure_of}
use Rattle.smithy_serde.specs.Values.{Value}
use Rattle.smithy_serde.specs.declared.error.SerdeError.{SerdeError}
use Rattle.smithy_serde.specs.declared.struct_value.StructValue.{StructValue}
use Rattle.smithy_serde.proofs.ReadValue.{gives_memory}
use Rattle.uses.specs.AwsAnswers.{answer_by, answered_view, unread}
use Rattle.uses.specs.declared.answers.Answered.{Answered}
use Rattle.uses.specs.declared.answers.Answered.TheVariants as answered

-- a refusal that is passed on
pub passed_on : {X W : Type 0} (shown : X → W) (answer : Result W SerdeError) (e : SerdeError) (result : Result X SerdeError)
    → IsErrAnd result (λ y. y ≡ e) → Gives shown (Some answer) (Err e) → Gives shown (Some answer) result
passed_on shown answer e (Ok x) same is = absurd same
passed_on shown answer e (Err y) same is = subst (λ z. Gives shown (Some answer) (Err z)) (sym same) is

-- what a step was refused with, and what came of it
pub not_given : {A X V W : Type 0} (view : A → V) (shown : X → W) (a : Result V SerdeError) (f : V → Result W SerdeError) (e : SerdeError)
    → Gives view (Some a) (Err e) → Gives shown (Some (then_try a f)) (Err e)
not_given view shown (Ok v) f e is = gives_memory shown (Some (f v)) e is
not_given view shown (Err x) f e is = is

pub given : {A X V W : Type 0} (view : A → V) (shown : X → W) (a : Result V SerdeError) (f : V → Result W SerdeError) (x : A) (result : Result X SerdeError)
    → Gives view (Some a) (Ok x) → Gives shown (Some (f (view x))) result → Gives shown (Some (then_try a f)) result
given view shown (Ok v) f x result is told = subst (λ y. Gives shown (Some (f y)) result) is told
given view shown (Err e) f x result is told = absurd is

-- the same of the last step
pub last_not_given : {A X V W : Type 0} (view : A → V) (shown : X → W) (a : Result V SerdeError) (g : V → W) (e : SerdeError)
    → Gives view (Some a) (Err e) → Gives shown (Some (then_give a g)) (Err e)
last_not_given view shown (Ok v) g e is = is
last_not_given view shown (Err x) g e is = is

pub last_given : {A X V W : Type 0} (view : A → V) (shown : X → W) (a : Result V SerdeError) (g : V → W) (x : A) (y : X)
    → Gives view (Some a) (Ok x) → shown y ≡ g (view x) → Gives shown (Some (then_give a g)) (Ok y)
last_given view shown (Ok v) g x y is same = same ∙ ap g is
last_given view shown (Err e) g x y is same = absurd is

module _ {S X W : Type 0} (shown : X → W) (o : Option S) (f : S → Result W SerdeError) where
  abbrev by : Option S → Result W SerdeError
  by shape = then_try (ok_or shape unread) f

  -- no response is read by the shape
  pub not_read : (e : SerdeError) → None ≡ o → IsRefusal unread e → Gives shown (Some (then_try (ok_or o unread) f)) (Err e)
  not_read e is told = subst (λ shape. Gives shown (Some (by shape)) (Err e)) is told

  -- one is
  pub read_by : (s : S) (result : Result X SerdeError) → Some s ≡ o → Gives shown (Some (f s)) result → Gives shown (Some (then_try (ok_or o unread) f)) result
  read_by s result is told = subst (λ shape. Gives shown (Some (by shape)) result) is told

-- The answer of an operation, of which this error, or none, was found in the response, by the value of the output and that of the error.
module _ (found : Result (Option ℕ) SerdeError) (output : Result Value SerdeError) (error : ℕ → Result Value SerdeError) where
  abbrev whole : Result (Option ℕ × Value) SerdeError
  whole = then_try found (answer_by output error)

  -- no error was found where one is
  pub not_found : (e : SerdeError) (result : Result Answered SerdeError) → IsErrAnd result (λ y. y ≡ e) → Gives place_of (Some found) (Err e)
      → Gives answered_view (Some (then_try found (answer_by output error))) result
  not_found e result same told = passed_on answered_view whole e result same (not_given place_of answered_view found (answer_by output error) e told)

  module _ (none : Gives place_of (Some found) (Ok None)) where
    pub output_refused : (e : SerdeError) (result : Result Answered SerdeError) → IsErrAnd result (λ y. y ≡ e) → Gives structure_of (Some output) (Err e)
        → Gives answered_view (Some (then_try found (answer_by output error))) result
    output_refused e result same told =
        passed_on answered_view whole e result same
        (given place_of answered_view found (answer_by output error) None (Err e) none (last_not_given structure_of answered_view output (λ v. (None, v)) e told))

    pub output_told : (v : StructValue) → Gives structure_of (Some output) (Ok v)
        → Gives answered_view (Some (then_try found (answer_by output error))) (Ok (answered.Output v))
    output_told v told =
        given place_of answered_view found (answer_by output error) None (Ok (answered.Output v)) none
        (last_given structure_of answered_view output (λ w. (None, w)) v (answered.Output v) told refl)

  module _ (place : SchemaIndex) (one : Gives place_of (Some found) (Ok (Some place))) where
    pub error_refused : (e : SerdeError) (result : Result Answered SerdeError) → IsErrAnd result (λ y. y ≡ e) → Gives structure_of (Some (error place.0)) (Err e)
        → Gives answered_view (Some (then_try found (answer_by output error))) result
    error_refused e result same told =
        passed_on answered_view whole e result same
        (given place_of answered_view found (answer_by output error) (Some place) (Err e) one
        (last_not_given structure_of answered_view (error place.0) (λ v. (Some place.0, v)) e told))

    pub error_told : (v : StructValue) → Gives structure_of (Some (error place.0)) (Ok v)
        → Gives answered_view (Some (then_try found (answer_by output error))) (Ok (answered.Error place v))
    error_told v told =
        given place_of answered_view found (answer_by output error) (Some place) (Ok (answered.Error place v)) one
        (last_given structure_of answered_view (error place.0) (λ w. (Some place.0, w)) v (answered.Error place v) told refl)
