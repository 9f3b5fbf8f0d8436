-- The texts of a lawful codec tell documents apart.
use Rattle.std.proofs.Common.{◌≡◌, ℕ, List, Option, Some, sym, ap, ◌∙◌}
use Rattle.smithy_types.specs.Documents.{Document}
use Rattle.smithy_serde.specs.Held as held
use Rattle.smithy_serde.specs.Held.{Held}
use Rattle.smithy_serde.specs.Lawful.{IsLawfulText, TellsApart}

pub lawful_apart : (text_of : Document → List ℕ) (holds : List ℕ → Option Held) → IsLawfulText text_of holds → TellsApart text_of
lawful_apart text_of holds lawful d e sound_d sound_e low_d low_e same =
    let both : Some (held.document d) ≡ Some (held.document e) =
    sym (lawful.reads_back d sound_d low_d) ∙ ap holds same ∙ lawful.reads_back e sound_e low_e in
    cc both
