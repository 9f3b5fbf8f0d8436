-- What the requests of a schema tell of their inputs.
use Rattle.std.specs.Prelude.{◌≡◌, ℕ, ◌↔◌, List}
use Rattle.smithy_schema.specs.Nodes.{Schema}
use Rattle.smithy_serde.specs.Values.{Write}
use Rattle.smithy_binding.specs.NormalForm.{view}
use Rattle.smithy_binding.specs.Placing.{Protocol, OmitFlags}
use Rattle.smithy_binding.specs.Typed.{IsTyped}
use Rattle.smithy_unambiguity.specs.Laws.{SeesSame}

-- two typed inputs have requests with the same facts exactly if they have one normal form
abbrev pub FactsTell : Protocol → Schema → Type 0
FactsTell protocol schema =
    (endpoint : List ℕ) (omit : OmitFlags) (v w : List Write) → IsTyped protocol schema endpoint omit v → IsTyped protocol schema endpoint omit w
    → SeesSame protocol schema endpoint omit v w ↔ (view schema v ≡ view schema w)
