-- How a document is read as a scalar by settings.
use Rattle.std.specs.Prelude.{◌≡◌, ◌⊎◌, ℕ, ℤ, List, Option, Some, None, Result, Ok, Err}
use Rattle.smithy_document.specs.Words.{Document, Number, plain_blob, plain_number_timestamp, plain_text_timestamp, Ghosts, ShapeType, scalar_of_document, Gives, scalar_of_read, type_of, refusal_of_document, Scalar, SerdeError, OutOfMemory, ReadScalar, ScalarKind}
use Rattle.smithy_types.specs.Documents as doc
use Rattle.smithy_types.specs.declared.error.DocumentError.{DocumentError}
use Rattle.smithy_ids.specs.declared.shape_type.ShapeType.TheVariants as kind
use Rattle.smithy_serde.specs.Values as value

-- what the calls of settings may answer
pub record Coercions : Type 1 where
  pub blob : List ℕ → Result (List ℕ) DocumentError → Type 0
  pub number_timestamp : Number → Result ℤ DocumentError → Type 0
  pub text_timestamp : List ℕ → Result ℤ DocumentError → Type 0

abbrev pub coercions : {S : Type 0} → Ghosts S → S → Coercions
coercions by s = record { blob = by.gives_blob s; number_timestamp = by.gives_number_timestamp s; text_timestamp = by.gives_text_timestamp s }

-- the answer is one that a call of the settings gives: its value, or its refusal as it is
abbrev pub Coerced : {A V : Type 0} → (A → Scalar) → (V → Scalar) → (Result V DocumentError → Type 0) → Result A SerdeError → Type 0
Coerced {A} {V} f g gives (Ok a) = (v : V) × gives (Ok v) × (f a ≡ g v)
Coerced f g gives (Err e) = (e ≡ OutOfMemory) ⊎ ((d : DocumentError) × gives (Err d) × (e ≡ refusal_of_document d))

-- a document read as a scalar of the kind without settings
abbrev pub ReadsPlain : ScalarKind → Document → Result ReadScalar SerdeError → Type 0
ReadsPlain k d result = Gives scalar_of_read (Some (scalar_of_document (type_of k) d)) result

-- a document read as a scalar of the kind: a blob and a point in time as the settings answer, anything else as without them
abbrev pub ReadsWith : {A : Type 0} → Coercions → (A → Scalar) → ShapeType → Document → Result A SerdeError → Type 0
ReadsWith s f kind.Blob (doc.string text) result = Coerced f (λ bytes. value.blob bytes) (s.blob text) result
ReadsWith s f kind.Timestamp (doc.number n) result = Coerced f (λ seconds. value.timestamp seconds) (s.number_timestamp n) result
ReadsWith s f kind.Timestamp (doc.string text) result = Coerced f (λ seconds. value.timestamp seconds) (s.text_timestamp text) result
ReadsWith s f k d result = Gives f (Some (scalar_of_document k d)) result

-- the same where there may be no settings
abbrev pub ReadsBy : {S : Type 0} → (S → Coercions) → Option S → ScalarKind → Document → Result ReadScalar SerdeError → Type 0
ReadsBy by None k d result = ReadsPlain k d result
ReadsBy by (Some s) k d result = ReadsWith (by s) scalar_of_read (type_of k) d result

-- Settings that answer as `NoSettings` does read as none do.
abbrev pub plain_coercions : Coercions
plain_coercions = record { blob = λ text r. r ≡ plain_blob text; number_timestamp = λ n r. r ≡ plain_number_timestamp n; text_timestamp = λ text r. r ≡ plain_text_timestamp text }

abbrev pub ReadsPlainly : Type 0
ReadsPlainly =
    (k : ScalarKind) (d : Document) (result : Result ReadScalar SerdeError) → ReadsWith plain_coercions scalar_of_read (type_of k) d result
    → ReadsPlain k d result
