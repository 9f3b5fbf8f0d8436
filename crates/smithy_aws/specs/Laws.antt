-- What requests of AWS's JSON protocols tell of their inputs.
use Rattle.std.specs.Prelude.{◌≡◌, ◌↔◌, ℕ, Bool, not, ◌&&◌, ◌==◌, codes, IsTrue, List, length, is_some, Ok}
use Rattle.smithy_http.specs.Facts.{facts}
use Rattle.smithy_http.specs.Requests.{Request}
use Rattle.smithy_schema.specs.Nodes.{Schema}
use Rattle.smithy_serde.specs.DocumentOf.{doc_of}
use Rattle.smithy_serde.specs.Present.{present_members}
use Rattle.smithy_serde.specs.Values.{Value, Write, Writes, list_of, structure}
use Rattle.smithy_serde.specs.declared.header_omit_settings.OmitFlags.{OmitFlags}
use Rattle.smithy_document.specs.ReadsBack.{Follows, Stands, normal_form}
use Rattle.smithy_binding.specs.Bindings.{headers}
use Rattle.smithy_binding.specs.NormalForm.{view}
use Rattle.smithy_binding.specs.Typed.{IsTyped, is_shallow}
use Rattle.smithy_binding.specs.Words.{found}
use Rattle.smithy_aws.specs.Added.{raw_payload}
use Rattle.smithy_aws.specs.Ready.{ready}
use Rattle.smithy_aws.specs.Requests.{Call, aws_json_request, rest_json1, rest_json1_request}

-- ---- restJson1

-- an input as it is placed, which is typed by the protocol, and its normal form
abbrev pub ready_list : Schema → Writes → List Write
ready_list schema ws = list_of (ready schema ws)

abbrev pub IsReadyTyped : Schema → List ℕ → OmitFlags → Writes → Type 0
IsReadyTyped schema endpoint omit ws = IsTyped (rest_json1 schema) schema endpoint omit (ready_list schema ws)

abbrev pub ready_form : Schema → Writes → List Write
ready_form schema ws = view schema (ready_list schema ws)

-- a header member says the content type
abbrev pub says_type : Schema → Writes → Bool
says_type schema ws = is_some (found (codes "content-type") (headers schema (ready_list schema ws)))

-- the body is the bytes of a payload, and there are some
abbrev pub has_raw_bytes : Schema → Request → Bool
has_raw_bytes schema r = is_some (raw_payload schema) && not (length r.body == 0)

-- By a schema, two requests of typed inputs have the same facts exactly if the inputs that were made ready have one normal
-- form. Where both bodies are bytes of a payload, a header member says the content type of both, or of neither.
abbrev pub RestJson1Tells : Schema → Type 0
RestJson1Tells schema =
    (endpoint : List ℕ) (omit : OmitFlags) (v w : Writes) (q r : Request) →
    IsReadyTyped schema endpoint omit v → IsReadyTyped schema endpoint omit w →
    (IsTrue (has_raw_bytes schema q) → IsTrue (has_raw_bytes schema r) → says_type schema v ≡ says_type schema w) →
    rest_json1_request schema v endpoint omit ≡ Ok q → rest_json1_request schema w endpoint omit ≡ Ok r →
    (facts q ≡ facts r) ↔ (ready_form schema v ≡ ready_form schema w)

-- ---- AWS JSON 1.0 and 1.1

-- the structure that is posted
abbrev pub posted_value : Writes → Value
posted_value ws = structure (present_members ws)

-- it follows the schema at every depth, and its document nests no deeper than it is read back
pub record IsPostable (schema : Schema) (ws : Writes) : Type 0 where
  pub shaped : Follows schema (posted_value ws)
  pub shallow : IsTrue (is_shallow (doc_of (posted_value ws)))

-- Two requests of one call have the same facts exactly if the posted structures have one normal form.
abbrev pub AwsJsonTells : Type 0
AwsJsonTells =
    (c : Call) (schema : Schema) (endpoint : List ℕ) (omit : OmitFlags) (v w : Writes) (q r : Request) →
    Stands schema → IsPostable schema v → IsPostable schema w →
    aws_json_request c schema v endpoint omit ≡ Ok q → aws_json_request c schema w endpoint omit ≡ Ok r →
    (facts q ≡ facts r) ↔ (normal_form schema (posted_value v) ≡ normal_form schema (posted_value w))
