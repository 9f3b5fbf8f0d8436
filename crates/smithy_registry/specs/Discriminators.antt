-- Documents, read by what is registered for their discriminators.
use Rattle.std.specs.Prelude.{ℕ, Bool, List, codes, Option, Some, None, option_map, IfSome, Result, Ok, Err}
use Rattle.std.specs.Option.{ok_or}
use Rattle.smithy_types.specs.Settings.{Discriminated}
use Rattle.smithy_serde.specs.declared.error.SerdeError.{SerdeError}
use Rattle.smithy_serde.specs.declared.error.SerdeError.TheVariants.{InvalidInput, UnknownMember}
use Rattle.smithy_serde.specs.Held.{Held}
use Rattle.smithy_serde.specs.Refusals.{IsRefusal}
use Rattle.smithy_document.specs.ToldDocuments.{told}
use Rattle.smithy_registry.specs.Registries.{Registered, by_name}

-- what reads the shape that a discriminator names, or why none does
abbrev pub reader_for : {R : Type 0} → Option (List ℕ) → List (List ℕ × Registered R) → Result R SerdeError
reader_for None entries = Err (InvalidInput (codes "document has no discriminator; cannot resolve shape via TypeRegistry"))
reader_for (Some name) entries = ok_or (option_map (λ e. e.reader) (by_name name entries)) (UnknownMember name)

-- the reader answers of the document, where that is told; where there is none, that is refused
abbrev pub ReadsShape : {R A : Type 0} → (R → Held → Result A SerdeError → Type 0) → Result R SerdeError → Option Held → Result A SerdeError → Type 0
ReadsShape gives (Ok reader) document result = IfSome document (λ h. gives reader h result)
ReadsShape gives (Err refusal) document (Ok _) = ⊥
ReadsShape gives (Err refusal) document (Err e) = IsRefusal refusal e

-- a document with its discriminator is read by what is registered for that
abbrev pub Deserializes : {R A S : Type 0} → (R → Held → Result A SerdeError → Type 0) → Bool → List (List ℕ × Registered R) → Discriminated S → Result A SerdeError → Type 0
Deserializes gives tells entries d result = ReadsShape gives (reader_for d.discriminator entries) (told tells d) result
