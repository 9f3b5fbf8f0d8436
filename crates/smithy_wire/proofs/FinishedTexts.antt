-- What a serializer of the JSON of a node finishes with.
use Rattle.smithy_wire.proofs.Common.{◌≡◌, refl, ap, ◌∙◌, ℕ, List, [], Some, None, Result, Ok, Err}
use Rattle.smithy_document.specs.views.Finished.{IsOneDocument}
use Rattle.smithy_serde.specs.Finishing.{IsFinishedText}
use Rattle.smithy_serde.specs.Steps.{Step}
use Rattle.smithy_serde.specs.Values.{Writes, no_writes, write}
use Rattle.smithy_serde.specs.Writing.{Calls, Outcome, Seen}
use Rattle.smithy_serde.specs.declared.error.SerdeError.{SerdeError}
use Rattle.smithy_types.specs.Documents.{Document}

-- the text of the one document
pub some_finished : (text : Document → List ℕ) (ws : Writes) (d : Document) (bytes : List ℕ) → IsOneDocument ws (Some d) → bytes ≡ text d → IsFinishedText text ws bytes
some_finished text no_writes d bytes h is = absurd (cc h)
some_finished text (write l v no_writes) d bytes h is = (h.0, h.1, is ∙ (let same : d ≡ h.0 = cc h.2 in ap text same))
some_finished text (write l v (write m u ws)) d bytes h is = absurd h

-- no bytes where nothing was told
pub none_finished : (text : Document → List ℕ) (ws : Writes) (bytes : List ℕ) → IsOneDocument ws None → bytes ≡ [] → IsFinishedText text ws bytes
none_finished text no_writes bytes h is = is
none_finished text (write l v no_writes) bytes h is = absurd (cc h.2)
none_finished text (write l v (write m u ws)) bytes h is = absurd h

outcome_with : {U : Type 0} (step : Step) (old new : Seen) (text : Document → List ℕ) (r : Result U SerdeError) → Outcome step old new r → Outcome step (record old { text = text }) (record new { text = text }) r
outcome_with step old new text (Ok u) h = record { unrefused = h.unrefused; right = h.right; lists = h.lists; states = h.states }
outcome_with step old new text (Err e) h = record { kept = h.kept; wrong = h.wrong; lists = h.lists; states = h.states }

-- a call of what is seen with another text
pub calls_with : {U : Type 0} (step : Step) (old new : Seen) (text : Document → List ℕ) (r : Result U SerdeError) → Calls step old new r → Calls step (record old { text = text }) (record new { text = text }) r
calls_with step old new text r h = record {
  same = record { text = refl; lawful = h.same.lawful; wrong = h.same.wrong };
  outcome = outcome_with step old new text r h.outcome;
}
