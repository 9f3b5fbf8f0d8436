-- What a text of the string codec gives to a reader.
use Rattle.std.specs.Prelude.{ℕ, codes, List, ◌++◌, Option, Some, None, option_map, Result, Err}
use Rattle.std.specs.Option.{ok_or, option_or}
use Rattle.smithy_types.specs.declared.date_time.Format.TheVariants.{DateTime, HttpDate}
use Rattle.smithy_types.specs.TimestampReading.{timestamp_of}
use Rattle.smithy_ids.specs.declared.shape_type.ShapeType.{ShapeType}
use Rattle.smithy_ids.specs.declared.shape_type.ShapeType.TheVariants as kind
use Rattle.smithy_serde.specs.Values as value
use Rattle.smithy_serde.specs.Values.{Scalar}
use Rattle.smithy_serde.specs.declared.error.SerdeError.{SerdeError}
use Rattle.smithy_serde.specs.declared.error.SerdeError.TheVariants.{InvalidInput, UnsupportedOperation}
use Rattle.smithy_serde.specs.Requests.{plain_word}
use Rattle.smithy_serde.specs.TextReads.{scalar_of_text}

-- times stand as http-dates, else as date-times
abbrev pub time_of_text : List ℕ → Option Scalar
time_of_text text = option_map (λ seconds. value.timestamp seconds) (option_or (timestamp_of HttpDate text) (timestamp_of DateTime text))

abbrev pub value_of_text : ShapeType → List ℕ → Option Scalar
value_of_text kind.Timestamp text = time_of_text text
value_of_text k text = scalar_of_text k text

abbrev pub text_refusal : ShapeType → List ℕ → SerdeError
text_refusal kind.Blob text = InvalidInput (codes "invalid base64")
text_refusal k text = InvalidInput (codes "invalid " ++ plain_word k ++ codes ": " ++ text)

-- a text that is left, read as the kind
abbrev pub scalar_of_string : ShapeType → Option (List ℕ) → Result Scalar SerdeError
scalar_of_string kind.Document text = Err (UnsupportedOperation (codes "documents cannot be deserialized from strings"))
scalar_of_string k None = Err (InvalidInput (codes "expected " ++ plain_word k ++ codes " value"))
scalar_of_string k (Some text) = ok_or (value_of_text k text) (text_refusal k text)
