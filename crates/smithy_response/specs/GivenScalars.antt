-- How a scalar is read from a part of a response.
use Rattle.std.specs.Prelude.{codes, ℕ, ℤ, IsTrue, List, ◌++◌, Option, Some, option_map, Result, IfOk}
use Rattle.smithy_response.specs.Words.{ShapeType, SerdeError, InvalidInput, ScalarKind, ReadScalar, Schema, parse_refusal, one_token, item_of_text, text_of_header, time_of_header, scalar_of_header, elements_of_header, Held, IsAnswer, scalar_of_read, is_of_kind, type_of, read_at, Gives}
use Rattle.smithy_types.specs.Results.{then_give, then_try}
use Rattle.smithy_ids.specs.declared.shape_type.ShapeType.TheVariants as kind
use Rattle.smithy_http.specs.declared.error.ListFault.TheVariants as fault
use Rattle.smithy_http.specs.declared.error.HttpError.TheVariants as error
use Rattle.smithy_serde.specs.Held as held
use Rattle.smithy_serde.specs.Requests.{requested}
use Rattle.smithy_serde.specs.Values as value
use Rattle.smithy_serde.specs.Values.{Scalar}
use Rattle.smithy_response.specs.declared.parts.ListItems.{ListItems}
use Rattle.smithy_response.specs.PrefixedHeaders.{values_named}
use Rattle.smithy_response.specs.views.Transporting.{items_of}

-- a scalar of the kind is given: that one, where it is told
pub record GivesScalar (k : ScalarKind) (expected : Option (Result Scalar SerdeError)) (result : Result ReadScalar SerdeError) : Type 0 where
  pub of_kind : IfOk result (λ a. IsTrue (is_of_kind k (scalar_of_read a)))
  pub gives : Gives scalar_of_read expected result

-- the bytes of a body are given as a scalar, where they are there
abbrev pub GivesRaw : ScalarKind → Schema → Option (List ℕ) → Result ReadScalar SerdeError → Type 0
GivesRaw k node body result = GivesScalar k (read_at k node (option_map held.raw body)) result

-- what a header is read as: a text, a point in time, the elements of a list, a scalar of the kind
abbrev pub header_text : Schema → List ℕ → List (List ℕ × List ℕ) → Result Scalar SerdeError
header_text node name pairs = text_of_header node name (values_named name pairs)

abbrev pub header_time : Schema → List ℕ → List (List ℕ × List ℕ) → Result Scalar SerdeError
header_time node name pairs = time_of_header node name (values_named name pairs)

abbrev pub header_elements : Schema → List ℕ → List (List ℕ × List ℕ) → Result (List Held) SerdeError
header_elements node name pairs = elements_of_header node (values_named name pairs)

abbrev pub header_scalar : ScalarKind → Schema → List ℕ → List (List ℕ × List ℕ) → Option (Result Scalar SerdeError)
header_scalar k node name pairs = Some (scalar_of_header (type_of k) node name (values_named name pairs))

-- what its one token is read as
abbrev pub token_scalar : ScalarKind → List ℕ → List (List ℕ × List ℕ) → Option (Result Scalar SerdeError)
token_scalar k name pairs = Some (then_try (one_token (type_of k) name (values_named name pairs)) (item_of_text (type_of k)))

-- a text is answered, as told
abbrev pub AnswersText : Result Scalar SerdeError → Result (List ℕ) SerdeError → Type 0
AnswersText told result = IsAnswer told (then_give result (λ t. value.text t))

-- a point in time
abbrev pub AnswersTime : Result Scalar SerdeError → Result ℤ SerdeError → Type 0
AnswersTime told result = IsAnswer told (then_give result (λ t. value.timestamp t))

-- the elements of a list
abbrev pub AnswersItems : Result (List Held) SerdeError → Result ListItems SerdeError → Type 0
AnswersItems told result = IsAnswer told (then_give result items_of)

-- the text for another kind that was requested of a date
abbrev pub date_text : ShapeType → List ℕ
date_text k = codes "expected " ++ requested k ++ codes " but the header list element was a timestamp"

-- the refusal of a text that spells no value of the kind
abbrev pub item_refusal : ShapeType → SerdeError
item_refusal kind.Blob = InvalidInput (codes "failed to decode base64")
item_refusal k = parse_refusal (error.List fault.Item)
