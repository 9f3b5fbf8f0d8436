-- What a body is read as, where it has a document.
use Rattle.std.proofs.Common.{◌≡◌, sym, ap, subst, ◌∙◌, ◌⊎◌, inl, inr, List, Option, Some, Result, Ok, Err}
use Rattle.std.specs.Prelude.{IsErrAnd}
use Rattle.smithy_types.specs.Documents.{Document}
use Rattle.smithy_serde.specs.Held as held
use Rattle.smithy_serde.specs.Held.{Held}
use Rattle.smithy_serde.specs.ValueReading.{structure_of}
use Rattle.smithy_serde.specs.Values.{Writes, structure}
use Rattle.smithy_serde.specs.declared.builders.ValueReader.{ValueReader}
use Rattle.smithy_serde.specs.declared.error.SerdeError.{SerdeError}
use Rattle.smithy_serde.specs.declared.error.SerdeError.TheVariants.{OutOfMemory}
use Rattle.smithy_serde.specs.declared.struct_value.StructValue.{StructValue}
use Rattle.smithy_document.specs.ReadsBack.{normal_form}
use Rattle.smithy_serde.proofs.ReadValue.{gives_memory}
use Rattle.uses.specs.RoundTrip.{ComesBack, ComesBackFrom}

-- where there is a document, only memory was wanted
pub refused_body : (r : ValueReader) (h : Option Held) (d : Document) (e : SerdeError) (result : Result StructValue SerdeError) → IsErrAnd result (λ y. y ≡ e)
    → (h ≡ Some (held.refused e)) ⊎ (e ≡ OutOfMemory) → h ≡ Some (held.document d) → ComesBackFrom r d result
refused_body r h d e (Ok v) same given is = absurd same
refused_body r h d e (Err y) same (inl refused) is = absurd (let both : Some (held.refused e) ≡ Some (held.document d) = sym refused ∙ is in cc both)
refused_body r h d e (Err y) same (inr memory) is = λ ws has n by stands follows.
    gives_memory structure_of (Some (Ok (normal_form n (structure ws)))) y (same ∙ memory)

-- the document is the one that was read
pub read_body : (r : ValueReader) (h : Option Held) (d found : Document) (result : Result StructValue SerdeError) → h ≡ Some (held.document found) → h ≡ Some (held.document d)
    → ComesBackFrom r found result → ComesBackFrom r d result
read_body r h d found result there is back =
    let both : Some (held.document found) ≡ Some (held.document d) = sym there ∙ is in
    let same : found ≡ d = cc both in
    subst (λ x. ComesBackFrom r x result) same back
