-- What a document of writes that follow a node is read as.
use Rattle.std.proofs.Common.{◌≡◌, refl, sym, subst, ◌∙◌, true, false, Option, Some, None, option_map, Result, Ok, Err}
use Rattle.smithy_types.specs.Documents.{Document, is_canonical}
use Rattle.smithy_serde.specs.DocumentOf.{DocumentFault, document_fault, document_fault_text, document_of}
use Rattle.smithy_serde.specs.Held as held
use Rattle.smithy_serde.specs.ReadCalls.{Gives}
use Rattle.smithy_serde.specs.Refusing.{IsFaultRefusal}
use Rattle.smithy_serde.specs.ValueReading.{structure_of, gives_structure}
use Rattle.smithy_serde.specs.Values.{Value, Writes, structure}
use Rattle.smithy_serde.specs.declared.builders.ValueReader.{ValueReader}
use Rattle.smithy_serde.specs.declared.error.SerdeError.{SerdeError}
use Rattle.smithy_serde.specs.declared.error.SerdeError.TheVariants.{Custom, OutOfMemory}
use Rattle.smithy_serde.specs.declared.struct_value.StructValue.{StructValue}
use Rattle.smithy_document.specs.ReadsBack.{HasDocument, HasCanonicalDocument, ReadsNormalStructure, normal_form}
use Rattle.smithy_serde.proofs.ReadValue.{gives_memory}
use Rattle.uses.specs.RoundTrip.{ComesBack}

-- a refusal of what breaks no rule is for memory
no_rule : (o : Option DocumentFault) (e : SerdeError) → o ≡ None → IsFaultRefusal o e → e ≡ OutOfMemory
no_rule o (Custom message) none told =
    absurd (let e : option_map document_fault_text None ≡ Some message = subst (λ (f : Option DocumentFault). option_map document_fault_text f ≡ Some message) none told in cc e)
no_rule o OutOfMemory none told = refl
no_rule o _ none told = absurd told

-- the document was refused
pub refused_back : (r : ValueReader) (ws : Writes) (e : SerdeError) (result : Result StructValue SerdeError) → result ≡ Err e → HasDocument
    → IsFaultRefusal (document_fault (structure ws)) e → ComesBack r ws result
refused_back r ws e result is has told = λ n by stands follows.
    subst (Gives structure_of (Some (Ok (normal_form n (structure ws))))) (sym is)
    (gives_memory structure_of (Some (Ok (normal_form n (structure ws)))) e (no_rule (document_fault (structure ws)) e (has n (structure ws) follows) told))

-- it was read
pub read_back : (r : ValueReader) (ws : Writes) (d : Document) (result : Result StructValue SerdeError) → ReadsNormalStructure
    → document_of (structure ws) ≡ Ok d → gives_structure r (held.document d) result → ComesBack r ws result
read_back r ws d result back is gives = λ n by stands follows.
    subst (λ (v : Result Value SerdeError). Gives structure_of (Some v) result) (back n ws d stands follows is) (gives n by)

-- each document of such writes is canonical
pub canonical_back : (r : ValueReader) (ws : Writes) (d : Document) (result : Result StructValue SerdeError) → HasCanonicalDocument
    → document_of (structure ws) ≡ Ok d → is_canonical d ≡ false → ComesBack r ws result
canonical_back r ws d result has is other = λ n by stands follows.
    let holds : is_canonical d ≡ true = has n (structure ws) d follows is in
    absurd (let both : false ≡ true = sym other ∙ holds in cc both)
