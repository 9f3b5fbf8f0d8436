-- What a document serializer finishes with.
use Rattle.std.specs.Prelude.{◌≡◌, ℕ, codes, List, Option, Some, None, Result, Ok}
use Rattle.smithy_document.specs.Words.{Discriminated, Document, SerdeError, Custom, Label, structure, Writes, no_writes, write, State, TellsOne, document_of, IsRefusal}
use Rattle.smithy_types.specs.declared.settings.NoSettings.{NoSettings}
use Rattle.smithy_document.specs.declared.serializer.DocumentShapeSerializer.{DocumentShapeSerializer}
use Rattle.smithy_document.specs.Building.{discriminator_of, Whole}
use Rattle.smithy_document.specs.views.Standing.{StandsFor, kept_refusal, document_seen, IsWholeOf}

-- the document and the discriminator of the one value that was told; there is none of nothing, and none of two
abbrev pub IsDocumentOf : Writes → Discriminated NoSettings → Type 0
IsDocumentOf no_writes d = ⊥
IsDocumentOf (write l v no_writes) d = (document_of v ≡ Ok d.document) × (d.discriminator ≡ discriminator_of l v)
IsDocumentOf (write l v (write m u ws)) d = ⊥

-- the refusal of finishing before any value
unfoldable pub no_value_text : List ℕ
no_value_text = codes "DocumentShapeSerializer::finish called before any value was written"

-- the kept refusal, or where there is none that nothing was told
abbrev pub IsFinishRefusal : Option SerdeError → Writes → SerdeError → Type 0
IsFinishRefusal (Some first) ws e = e ≡ first
IsFinishRefusal None no_writes e = IsRefusal (Custom no_value_text) e
IsFinishRefusal None (write l v ws) e = ⊥

-- it finishes with the document of what it was told
abbrev pub IsFinishedWith : DocumentShapeSerializer → Discriminated NoSettings → Type 0
IsFinishedWith r d = (s : State) → StandsFor r s → IsDocumentOf s.current d

-- it is refused to finish
abbrev pub IsFinishRefused : DocumentShapeSerializer → SerdeError → Type 0
IsFinishRefused r e = (s : State) → StandsFor r s → IsFinishRefusal (kept_refusal r) s.current e

-- it has this value, or none
abbrev pub HasWhole : DocumentShapeSerializer → Option Whole → Type 0
HasWhole r w = (s : State) → StandsFor r s → IsWholeOf s.current w

-- the document of the one value that was told, or none; never two
abbrev pub IsOneDocument : Writes → Option Document → Type 0
IsOneDocument no_writes d = d ≡ None
IsOneDocument (write l v no_writes) d = (x : Document) × (document_of v ≡ Ok x) × (d ≡ Some x)
IsOneDocument (write l v (write m u ws)) d = ⊥

-- it has this document, or none
abbrev pub HasOneDocument : DocumentShapeSerializer → Option Document → Type 0
HasOneDocument r d = (s : State) → StandsFor r s → IsOneDocument s.current d

-- a structure is written
abbrev pub TellsStructure : {U : Type 0} → Label → Writes → DocumentShapeSerializer → DocumentShapeSerializer → Result U SerdeError → Type 0
TellsStructure l ws old new result = TellsOne l (structure ws) (document_seen old) (document_seen new) result
