-- What a request tells of its input: the contracts of the laws.
use Rattle.std.specs.Prelude.{◌≡◌, ◌↔◌, ℕ, List, option_map, IsTrue}
use Rattle.smithy_http.specs.Facts.{facts}
use Rattle.smithy_schema.specs.Nodes.{Schema}
use Rattle.smithy_schema.specs.WellMade.{is_well_made}
use Rattle.smithy_serde.specs.Values.{Write}
use Rattle.smithy_binding.specs.Answer.{place}
use Rattle.smithy_binding.specs.Checked.{checked_input}
use Rattle.smithy_binding.specs.NormalForm.{view}
use Rattle.smithy_binding.specs.Placing.{Protocol, OmitFlags}
use Rattle.smithy_binding.specs.Typed.{IsTyped}

-- the requests of two inputs have the same facts
abbrev pub SeesSame : Protocol → Schema → List ℕ → OmitFlags → List Write → List Write → Type 0
SeesSame protocol schema endpoint omit v w =
    option_map facts (place protocol schema v endpoint omit) ≡ option_map facts (place protocol schema w endpoint omit)

-- By a protocol, two typed inputs of one checked schema have requests with the same facts exactly if they have one normal form.
abbrev pub FactsDecideView : Protocol → Type 0
FactsDecideView protocol =
    (schema : Schema) (endpoint : List ℕ) (omit : OmitFlags) (v w : List Write) → IsTrue (checked_input schema) → IsTrue (is_well_made schema) →
    IsTyped protocol schema endpoint omit v → IsTyped protocol schema endpoint omit w →
    SeesSame protocol schema endpoint omit v w ↔ (view schema v ≡ view schema w)

-- The normal form of a typed input is its own normal form.
abbrev pub ViewSettles : Protocol → Type 0
ViewSettles protocol =
    (schema : Schema) (endpoint : List ℕ) (omit : OmitFlags) (ws : List Write) → IsTrue (checked_input schema) → IsTrue (is_well_made schema) →
    IsTyped protocol schema endpoint omit ws → view schema (view schema ws) ≡ view schema ws

-- And it is typed.
abbrev pub ViewIsTyped : Protocol → Type 0
ViewIsTyped protocol =
    (schema : Schema) (endpoint : List ℕ) (omit : OmitFlags) (ws : List Write) → IsTrue (checked_input schema) → IsTrue (is_well_made schema) →
    IsTyped protocol schema endpoint omit ws → IsTyped protocol schema endpoint omit (view schema ws)
