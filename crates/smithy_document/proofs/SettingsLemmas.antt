-- What settings that answer as `NoSettings` read.
use Rattle.smithy_document.proofs.Common.{◌≡◌, Some, Result, Ok, Err, inl, inr, subst, or_document_refusal, Gives, scalar_of_read, Scalar, SerdeError, OutOfMemory, Coerced, ReadsPlainly}
use Rattle.smithy_types.specs.Documents as doc
use Rattle.smithy_types.specs.Settings.{plain_blob, plain_number_timestamp, plain_text_timestamp}
use Rattle.smithy_types.specs.declared.error.DocumentError.{DocumentError}
use Rattle.smithy_serde.specs.Values as value
use Rattle.smithy_serde.specs.declared.read_scalar.ScalarKind.TheVariants as of

by_memory : {A : Type 0} (f : A → Scalar) (expected : Result Scalar SerdeError) (e : SerdeError) → e ≡ OutOfMemory → Gives f (Some expected) (Err e)
by_memory f (Ok v) e memory = memory
by_memory f (Err x) e memory = inr memory

coerced_gives : {A V : Type 0} (f : A → Scalar) (g : V → Scalar) (expected : Result V DocumentError) (result : Result A SerdeError) → Coerced f g (λ r. r ≡ expected) result
    → Gives f (Some (or_document_refusal expected g)) result
coerced_gives f g expected (Ok a) h = subst (λ x. Gives f (Some (or_document_refusal x g)) (Ok a)) h.1 h.2
coerced_gives f g expected (Err e) h = elim h [
  | inl memory ↦ by_memory f (or_document_refusal expected g) e memory
  | inr refused ↦ subst (λ x. Gives f (Some (or_document_refusal x g)) (Err e)) refused.1 (inl refused.2)
]

pub reads_plainly : ReadsPlainly
reads_plainly of.Blob (doc.string text) result h = coerced_gives scalar_of_read (λ bytes. value.blob bytes) (plain_blob text) result h
reads_plainly of.Timestamp (doc.number n) result h = coerced_gives scalar_of_read (λ seconds. value.timestamp seconds) (plain_number_timestamp n) result h
reads_plainly of.Timestamp (doc.string text) result h = coerced_gives scalar_of_read (λ seconds. value.timestamp seconds) (plain_text_timestamp text) result h
reads_plainly k d result h = h
