-- The response that a job has.
use Rattle.std.specs.Prelude.{ℕ, nat_le, codes, List, [], Bool, ◌&&◌, is_some, Option, Some, None, option_map, option_and_then, if◌then◌else◌}
use Rattle.std.specs.Option.{option_or}
use Rattle.std.specs.Str.{str_to_ascii_lowercase}
use Rattle.base64.specs.Engines.{standard}
use Rattle.base64.specs.GeneralPurpose.{decoded_of}
use Rattle.serde_json.specs.Data.{Data}
use Rattle.serde_json.specs.Find.{get, as_null, as_str, as_number, as_u64}
use Rattle.smithy_types.specs.Grammars.{is_token, is_header_value}
use Rattle.smithy_types.specs.Results.{each}
use Rattle.smithy_http.specs.Responses.{Response}
use Rattle.smithy_http.specs.declared.non_utf8.NonUtf8HeaderHandling.{NonUtf8HeaderHandling}
use Rattle.smithy_http.specs.declared.non_utf8.NonUtf8HeaderHandling.TheVariants.{Reject, Skip}
use Rattle.smithy_model.specs.Json.{items_in, text_at, provided}
use Rattle.smithy_model.specs.Names.{is}
use Rattle.smithy_job.specs.Inputs.{pair_in}

-- those of a text, or of the base64 text of an object (RFC 4648, section 4)
abbrev pub bytes_in : Data → Option (List ℕ)
bytes_in d = option_or (as_str d) (option_and_then (decoded_of standard) (text_at (codes "base64") d))

-- three digits (RFC 7231, section 6)
abbrev pub three_digits : ℕ → Option ℕ
three_digits n = provided (nat_le 100 n && nat_le n 999) (Some n)

abbrev pub status_in : Data → Option ℕ
status_in d = option_and_then three_digits (option_and_then as_u64 (as_number d))

-- a token and the bytes of a field value (RFC 7230, section 3.2)
abbrev pub is_header : List ℕ → List ℕ → Bool
is_header name value = is_token name && is_header_value value

abbrev pub named_header : List ℕ × Data → Option (List ℕ × List ℕ)
named_header p = option_and_then (λ v. provided (is_header p.0 v) (Some (str_to_ascii_lowercase p.0, v))) (bytes_in p.1)

abbrev pub header_in : Data → Option (List ℕ × List ℕ)
header_in d = option_and_then named_header (pair_in d)

-- pairs in order, which may be absent
abbrev pub headers_given : Option Data → Option (List (List ℕ × List ℕ))
headers_given None = Some []
headers_given (Some d) = option_and_then (each header_in) (items_in d)

-- bytes, and no body where it is absent or null
abbrev pub body_given : Option Data → Option (Option (List ℕ))
body_given None = Some None
body_given (Some d) = if is_some (as_null d) then Some None else option_map Some (bytes_in d)

abbrev pub response_with : Data → ℕ → Option Response
response_with d status =
    option_and_then (λ hs. option_map (λ b. record { status = status; headers = hs; body = b }) (body_given (get (codes "body") d))) (headers_given (get (codes "headers") d))

unfoldable pub response_in : Data → Option Response
response_in d = option_and_then (response_with d) (option_and_then status_in (get (codes "status") d))

abbrev pub policy_named : List ℕ → Option NonUtf8HeaderHandling
policy_named name = if is name (codes "reject") then Some Reject else (if is name (codes "skip") then Some Skip else None)

-- what is done with a header that is not UTF-8: it is refused where nothing is said
abbrev pub policy_given : Option Data → Option NonUtf8HeaderHandling
policy_given None = Some Reject
policy_given (Some d) = option_and_then policy_named (as_str d)
