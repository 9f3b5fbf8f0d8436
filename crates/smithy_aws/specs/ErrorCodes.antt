-- Where a response tells the code of its error (Smithy, AWS restJson1 and AWS JSON protocols, operation error serialization).
use Rattle.std.specs.Prelude.{ℕ, codes, List, [], Option, option_and_then, unwrap_or}
use Rattle.std.specs.Option.{option_or}
use Rattle.json.specs.Find.{get, as_str}
use Rattle.json.specs.Json.{Json}
use Rattle.smithy_http.specs.Facts.{values_at}
use Rattle.smithy_http.specs.HeaderValues.{first_text}
use Rattle.smithy_http.specs.Responses.{Response}
use Rattle.smithy_wire.specs.WireText.{json_in}

-- the text in the last field of this name, where the value is an object that has one
abbrev pub field_text : List ℕ → Json → Option (List ℕ)
field_text name j = option_and_then as_str (get name j)

-- the text in the field `__type`, else that in the field `code`
abbrev pub code_in : Json → Option (List ℕ)
code_in j = option_or (field_text (codes "__type") j) (field_text (codes "code") j)

-- the first value of the header, where it is a text, else what is in the body, where that is JSON
abbrev pub error_code : Response → Option (List ℕ)
error_code r =
    option_or (first_text (values_at (codes "x-amzn-errortype") r.headers)) (option_and_then code_in (json_in (unwrap_or r.body [])))
