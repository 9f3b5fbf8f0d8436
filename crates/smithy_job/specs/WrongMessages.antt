-- The first place of a request or a response whose form is not as asked.
use Rattle.std.specs.Prelude.{ℕ, List, codes, Bool, false, is_some, Option, Some, None, option_and_then, if◌then◌else◌}
use Rattle.std.specs.Option.{option_map_or}
use Rattle.serde_json.specs.Data.{Data}
use Rattle.serde_json.specs.Find.{get, as_null}
use Rattle.smithy_types.specs.Grammars.{is_token, is_header_value, is_legal_target}
use Rattle.smithy_model.specs.Json.{items_in, text_at}
use Rattle.smithy_model.specs.Wrong.{Wrong, ◌or◌, asked_here, asked_at, in_key, in_item, unless_here, unless_at, first_item}
use Rattle.smithy_model.specs.WrongModels.{is_object}
use Rattle.smithy_job.specs.Inputs.{pair_in}
use Rattle.smithy_job.specs.Requests.{method_in}
use Rattle.smithy_job.specs.Responses.{bytes_in, status_in}

-- no bytes of a text, nor of a text in base64 (RFC 4648)
abbrev pub not_bytes : Data → Wrong
not_bytes d =
    if is_some (text_at (codes "base64") d) then asked_at (codes "base64") (codes "base64 with its padding is asked")
    else asked_here (codes "a text is asked, or an object with `base64`")

unfoldable pub wrong_bytes : Data → Option Wrong
wrong_bytes d = option_map_or (λ bytes. None) (bytes_in d) (Some (not_bytes d))

-- the value of a header (RFC 7230, section 3.2)
abbrev pub wrong_octets : List ℕ → Option Wrong
wrong_octets bytes = unless_here (is_header_value bytes) (codes "a header's value has no control byte but the tab")

unfoldable pub wrong_header_value : Data → Option Wrong
wrong_header_value d = option_map_or wrong_octets (bytes_in d) (Some (not_bytes d))

abbrev pub wrong_named_header : List ℕ × Data → Option Wrong
wrong_named_header p =
    in_item 0 (unless_here (is_token p.0) (codes "the name of a header is asked, a token"))
    or in_item 1 (wrong_header_value p.1)

unfoldable pub wrong_header : Data → Option Wrong
wrong_header d = option_map_or wrong_named_header (pair_in d) (Some (asked_here (codes "an array of a name and a value is asked")))

unfoldable pub wrong_headers : Data → Option Wrong
wrong_headers d = option_map_or (first_item wrong_header 0) (items_in d) (Some (asked_here (codes "an array of pairs is asked")))

-- the headers of a message, which may be absent, and its body, which may be null too
abbrev pub wrong_headers_of : Data → Option Wrong
wrong_headers_of d = in_key (codes "headers") (option_and_then wrong_headers (get (codes "headers") d))

abbrev pub wrong_body : Data → Option Wrong
wrong_body d = if is_some (as_null d) then None else wrong_bytes d

abbrev pub wrong_body_of : Data → Option Wrong
wrong_body_of d = in_key (codes "body") (option_and_then wrong_body (get (codes "body") d))

unfoldable pub wrong_content : Data → Option Wrong
wrong_content d = wrong_headers_of d or wrong_body_of d

-- three digits (RFC 7231, section 6)
unfoldable pub wrong_response : Data → Option Wrong
wrong_response d =
    unless_here (is_object d) (codes "an object with `status` is asked")
    or unless_at (is_some (option_and_then status_in (get (codes "status") d))) (codes "status") (codes "a whole number from 100 to 999 is asked")
    or wrong_content d

-- a legal target (RFC 7230, section 5.3)
abbrev pub has_legal_target : Data → Bool
has_legal_target d = option_map_or is_legal_target (text_at (codes "target") d) false

unfoldable pub wrong_request : Data → Option Wrong
wrong_request d =
    unless_here (is_object d) (codes "an object with `method` and `target` is asked")
    or unless_at (is_some (method_in d)) (codes "method") (codes "a method is asked, a token")
    or unless_at (has_legal_target d) (codes "target") (codes "a legal target is asked, as /a?b=c")
    or wrong_content d
