-- Requests with bodies of JSON that are sent on (AWS restJson1).
use Rattle.std.specs.Prelude.{◌≡◌, ℕ, List, IsTrue, IfOk, Result, Err}
use Rattle.smithy_http.specs.Requests.{Request}
use Rattle.smithy_schema.specs.Nodes.{Schema, Table}
use Rattle.smithy_schema.specs.declared.parts.SchemaIndex.{SchemaIndex}
use Rattle.smithy_serde.specs.Values.{Write}
use Rattle.smithy_document.specs.JsonText.{json_text}
use Rattle.smithy_binding.specs.Checked.{checked_input}
use Rattle.smithy_binding.specs.Placing.{OmitFlags}
use Rattle.smithy_gateway.specs.Answers.{AtSchema, IsInput, PlacesCall, PostsInput}
use Rattle.smithy_gateway.specs.Calls.{IsCall}
use Rattle.smithy_recovery.specs.declared.error.RecoverError.{RecoverError}
use Rattle.smithy_recovery.specs.declared.error.RecoverError.TheVariants.{NotPlaced}
use Rattle.uses.specs.Answering.{json_bodies}

-- the call posts the typed input in normal form that a request has, by the schema at a place
abbrev pub IsCallOf : Table → SchemaIndex → List ℕ → OmitFlags → Request → Result Request RecoverError → Type 0
IsCallOf table place endpoint omit q result =
    IfOk result (λ call. AtSchema table place (λ s. PostsInput json_bodies s endpoint omit q json_text call))

-- the request is that of the typed input in normal form that a call posts
abbrev pub IsRequestOf : Table → SchemaIndex → List ℕ → OmitFlags → Request → Result Request RecoverError → Type 0
IsRequestOf table place endpoint omit call result =
    IfOk result (λ q. AtSchema table place (λ s. PlacesCall json_bodies s endpoint omit json_text call q))

-- where it is refused, this holds of each input by the schema at a place, if a request can be placed by that
abbrev pub Lacks : Table → SchemaIndex → Result Request RecoverError → (Schema → List Write → Type 0) → Type 0
Lacks table place result Is =
    result ≡ Err NotPlaced → AtSchema table place (λ s. IsTrue (checked_input s) → (ws : List Write) → Is s ws → ⊥)

-- where it is refused, no typed input in normal form has the request
abbrev pub LacksInput : Table → SchemaIndex → List ℕ → OmitFlags → Request → Result Request RecoverError → Type 0
LacksInput table place endpoint omit q result = Lacks table place result (λ s ws. IsInput json_bodies s endpoint omit q ws)

-- where it is refused, the call posts none
abbrev pub LacksCall : Table → SchemaIndex → List ℕ → OmitFlags → Request → Result Request RecoverError → Type 0
LacksCall table place endpoint omit call result =
    Lacks table place result (λ s ws. IsCall json_bodies s endpoint omit json_text call ws)
