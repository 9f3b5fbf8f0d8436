-- What is kept of a label member.
use Rattle.std.specs.Prelude.{ℕ, List, Option, Result}
use Rattle.smithy_schema.specs.Nodes.{Schema, Table}
use Rattle.smithy_serde.specs.declared.value.ShapeValue.{ShapeValue}
use Rattle.smithy_recovery.specs.views.Keeping.{KeepsPart}
use Rattle.smithy_recovery.specs.views.Kept.{HasTexts}
use Rattle.smithy_recovery.specs.LabelParts.{label_part}
use Rattle.smithy_recovery.specs.declared.error.RecoverError.{RecoverError}
use Rattle.smithy_recovery.specs.declared.path_texts.LabelTexts.{LabelTexts}

-- the part of a label member is kept, by the texts of whichever labels these are
abbrev pub KeepsLabel : Schema → LabelTexts → Result (Option ShapeValue) RecoverError → Type 0
KeepsLabel m texts result = (t : Table) (labels : List (List ℕ × List ℕ)) → HasTexts labels texts → KeepsPart t (label_part m labels) result
