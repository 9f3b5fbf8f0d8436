-- What a header gives to a reader (Smithy, HTTP protocol bindings: httpHeader; RFC 7230, section 7).
use Rattle.std.specs.Prelude.{ℕ, ℤ, Bool, false, codes, List, [], ◌∷◌, ◌++◌, map, is_some, unwrap_or, option_map, Result, Ok, Err, if◌then◌else◌}
use Rattle.std.specs.Option.{ok_or, option_map_or}
use Rattle.std.specs.Str.{is_utf8}
use Rattle.base64.specs.Engines.{standard}
use Rattle.base64.specs.GeneralPurpose.{decoded_of}
use Rattle.smithy_types.specs.Results.{then_try, then_give}
use Rattle.smithy_types.specs.declared.date_time.Format.{Format}
use Rattle.smithy_types.specs.declared.date_time.Format.TheVariants.{HttpDate}
use Rattle.smithy_ids.specs.declared.shape_type.ShapeType.{ShapeType}
use Rattle.smithy_ids.specs.declared.shape_type.ShapeType.TheVariants as kind
use Rattle.smithy_ids.specs.Kinds.{same_kind}
use Rattle.smithy_http.specs.declared.error.ListFault.TheVariants as fault
use Rattle.smithy_http.specs.declared.error.HttpError.{HttpError}
use Rattle.smithy_http.specs.declared.error.HttpError.TheVariants as error
use Rattle.smithy_http.specs.HeaderValues.{tokens_of, one_text_of}
use Rattle.smithy_http.specs.DateLists.{dates_of}
use Rattle.smithy_http.specs.Refusals.{refusal_text}
use Rattle.smithy_schema.specs.Formats.{format_of}
use Rattle.smithy_schema.specs.Nodes.{Schema, element_of}
use Rattle.smithy_serde.specs.Values as value
use Rattle.smithy_serde.specs.Values.{Scalar}
use Rattle.smithy_serde.specs.declared.error.SerdeError.{SerdeError}
use Rattle.smithy_serde.specs.declared.error.SerdeError.TheVariants.{InvalidInput, UnsupportedOperation}
use Rattle.smithy_serde.specs.Held as held
use Rattle.smithy_serde.specs.Held.{Held}
use Rattle.smithy_serde.specs.Requests.{requested}
use Rattle.smithy_serde.specs.TextReads.{scalar_of_text}

-- a refusal of header parsing as one of reading
abbrev pub parse_refusal : HttpError → SerdeError
parse_refusal e = InvalidInput (refusal_text e)

abbrev pub or_parse_refusal : {A : Type 0} → Result A HttpError → Result A SerdeError
or_parse_refusal (Ok x) = Ok x
or_parse_refusal (Err e) = Err (parse_refusal e)

-- no item to read
abbrev pub no_value : ShapeType → List ℕ → SerdeError
no_value k name = InvalidInput (codes "expected " ++ requested k ++ codes " in header `" ++ name ++ codes "` but it held no value")

-- the one item of a header that is read as a scalar
abbrev pub one_of : {A : Type 0} → ShapeType → List ℕ → List A → Result A SerdeError
one_of k name [] = Err (no_value k name)
one_of k name (x ∷ []) = Ok x
one_of k name (x ∷ y ∷ more) = Err (parse_refusal (error.List fault.TooMany))

-- a text as a value of the kind
abbrev pub item_of_text : ShapeType → List ℕ → Result Scalar SerdeError
item_of_text kind.Blob text = ok_or (scalar_of_text kind.Blob text) (InvalidInput (codes "failed to decode base64"))
item_of_text k text = ok_or (scalar_of_text k text) (parse_refusal (error.List fault.Item))

-- the text that a base64 text tells (Smithy, mediaType trait)
abbrev pub decoded_text : List ℕ → Result Scalar SerdeError
decoded_text text =
    then_try (ok_or (decoded_of standard text) (InvalidInput (codes "failed to decode base64")))
    (λ bytes. if is_utf8 bytes then Ok (value.text bytes) else Err (InvalidInput (codes "base64 encoded data was not valid utf-8")))

-- the format of dates in headers: the node's own, else http-date (Smithy, timestampFormat trait)
abbrev pub header_format : Schema → Format
header_format node = unwrap_or (option_map format_of node.node.traits.timestamp_format) HttpDate

-- the one token of a header
abbrev pub one_token : ShapeType → List ℕ → List (List ℕ) → Result (List ℕ) SerdeError
one_token k name values = then_try (or_parse_refusal (tokens_of values)) (one_of k name)

-- A text is the one value as it stands; with `@mediaType` it is the one token, in base64.
abbrev pub text_of_header : Schema → List ℕ → List (List ℕ) → Result Scalar SerdeError
text_of_header node name values =
    if is_some node.node.traits.media_type then then_try (one_token kind.String name values) decoded_text
    else then_try (or_parse_refusal (one_text_of values)) (λ text. then_give (ok_or text (no_value kind.String name)) (λ t. value.text t))

-- the one date of a header
abbrev pub time_of_header : Schema → List ℕ → List (List ℕ) → Result Scalar SerdeError
time_of_header node name values =
    then_give (then_try (or_parse_refusal (dates_of (header_format node) values)) (one_of kind.Timestamp name)) (λ seconds. value.timestamp seconds)

-- a header read as a scalar of the kind
abbrev pub scalar_of_header : ShapeType → Schema → List ℕ → List (List ℕ) → Result Scalar SerdeError
scalar_of_header kind.String node name values = text_of_header node name values
scalar_of_header kind.Timestamp node name values = time_of_header node name values
scalar_of_header kind.Document node name values = Err (UnsupportedOperation (codes "a document cannot be bound to an HTTP header"))
scalar_of_header k node name values = then_try (one_token k name values) (item_of_text k)

-- an element of a header list read as a scalar of the kind
abbrev pub scalar_of_element : ShapeType → List ℕ → Result Scalar SerdeError
scalar_of_element kind.Timestamp text = Err (InvalidInput (codes "expected a timestamp but the header list was not parsed as timestamps"))
scalar_of_element kind.Document text = Err (UnsupportedOperation (codes "a document cannot be an element of a header-bound list"))
scalar_of_element k text = item_of_text k text

-- the same of an element that is a date
abbrev pub scalar_of_date : ShapeType → ℤ → Result Scalar SerdeError
scalar_of_date kind.Timestamp seconds = Ok (value.timestamp seconds)
scalar_of_date kind.Document seconds = Err (UnsupportedOperation (codes "a document cannot be an element of a header-bound list"))
scalar_of_date k seconds = Err (InvalidInput (codes "expected " ++ requested k ++ codes " but the header list element was a timestamp"))

-- the elements of the list are dates
abbrev pub has_dates : Schema → Bool
has_dates node = option_map_or (λ e. same_kind e.node.kind kind.Timestamp) (element_of node) false

-- The elements of a header that is read as a list: its tokens, or its dates where the list's elements are timestamps.
abbrev pub elements_of_header : Schema → List (List ℕ) → Result (List Held) SerdeError
elements_of_header node values =
    if has_dates node then then_give (or_parse_refusal (dates_of (header_format node) values)) (map (λ seconds. held.date seconds))
    else then_give (or_parse_refusal (tokens_of values)) (map (λ token. held.element token))
