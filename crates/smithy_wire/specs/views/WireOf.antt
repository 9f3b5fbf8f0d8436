-- What is seen of the JSON of a node, and what its reader answers.
use Rattle.std.specs.Prelude.{◌≡◌, ◌⊎◌, ℕ, Bool, List, Option, Some, Result, Ok, Err}
use Rattle.smithy_serde.specs.Held as held
use Rattle.smithy_serde.specs.Held.{Held}
use Rattle.smithy_serde.specs.declared.error.SerdeError.{SerdeError}
use Rattle.smithy_serde.specs.declared.error.SerdeError.TheVariants.{OutOfMemory}
use Rattle.smithy_types.specs.DocumentView.{view}
use Rattle.smithy_types.specs.declared.document.Document.{Document}
use Rattle.smithy_serde.specs.Lawful.{IsLawfulText}
use Rattle.smithy_wire.specs.Forms.{Form}
use Rattle.smithy_wire.specs.WireText.{held_in, json_in, wire_text, wire_held}
use Rattle.smithy_wire.specs.declared.wire_json.WireJson.{WireJson}
use Rattle.smithy_wire.specs.declared.wire_style.WireStyle.{WireStyle}
use Rattle.smithy_wire.specs.views.FormView.{form_view}
use Rattle.smithy_wire.specs.views.WireReads.{outcome_held}

-- the form of its body
abbrev pub form_in : WireJson → Form
form_in c = form_view c.form

-- its style, and whether JSON names are applied
abbrev pub style_in : WireJson → WireStyle
style_in c = c.style

abbrev pub names_in : WireJson → Bool
names_in c = c.style.json_names

-- the document that a reader would have at hand, or the refusal that it would answer; want of memory is free
abbrev pub GivesHeld : Option Held → Result Document SerdeError → Type 0
GivesHeld expected (Ok d) = expected ≡ Some (held.document (view d))
GivesHeld expected (Err e) = (expected ≡ Some (held.refused e)) ⊎ (e ≡ OutOfMemory)

-- what was read of a body, or the text of its refusal, is what a reader has at hand
abbrev pub IsHeld : WireJson → List ℕ → Result Document (List ℕ) → Type 0
IsHeld c body outcome = wire_held (style_in c) (form_in c) body ≡ Some (outcome_held outcome)

-- the same of a body that isn't empty
abbrev pub IsHeldIn : WireJson → List ℕ → Result Document (List ℕ) → Type 0
IsHeldIn c body outcome = held_in (style_in c) (form_in c) (json_in body) ≡ outcome_held outcome

-- no text is empty, and each is read back up to the limit of nesting
abbrev pub IsLawfulWire : WireJson → Type 0
IsLawfulWire c = IsLawfulText (wire_text (names_in c) (form_in c)) (wire_held (style_in c) (form_in c))
