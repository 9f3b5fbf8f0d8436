-- The request of an input (Smithy, HTTP protocol bindings).
use Rattle.std.specs.Prelude.{ℕ, Bool, not, ◌&&◌, ◌||◌, ◌==◌, codes, List, [], ◌∷◌, ◌++◌, length, map, Result, is_none, decimal, if◌then◌else◌}
use Rattle.smithy_binding.specs.Words.{join_with_byte, option_map_or, found, has_byte, then_give, Document, Schema, pieces, Write}
use Rattle.smithy_strings.specs.Escapes.{escape}
use Rattle.smithy_binding.specs.Filling.{fill}
use Rattle.smithy_binding.specs.Bindings.{pairs, labels}
use Rattle.smithy_binding.specs.Bodies.{Body, is_codec}
pub use Rattle.smithy_serde.specs.declared.header_omit_settings.OmitFlags.{OmitFlags}

-- a protocol: the content type of its bodies, and the text of a document in its codec
pub record Protocol : Type 0 where
  pub content_type : List ℕ
  pub text_of : Document → List ℕ

-- the method of `@http`, or else `GET` (http, method)
abbrev pub method_of : Schema → List ℕ
method_of schema = option_map_or (λ h. h.method) schema.node.traits.http (codes "GET")

-- the endpoint, or `/` where it is empty
abbrev pub endpoint_or_slash : List ℕ → List ℕ
endpoint_or_slash endpoint = if length endpoint == 0 then codes "/" else endpoint

-- the URI of `@http`, or else the endpoint, or else `/` (http, uri)
abbrev pub template_of : Schema → List ℕ → List ℕ
template_of schema endpoint = option_map_or (λ h. h.uri) schema.node.traits.http (endpoint_or_slash endpoint)

-- a query pair: both sides are escaped (httpQuery; RFC 3986, section 3.4)
abbrev pub pair_text : List ℕ × List ℕ → List ℕ
pair_text p = escape p.0 ++ codes "=" ++ escape p.1

-- the pairs stand behind a `?`, or behind a `&` where the text has a `?`, with `&` between them
abbrev pub with_query : List ℕ → List (List ℕ × List ℕ) → List ℕ
with_query path [] = path
with_query path (p ∷ ps) =
    path ++ (if has_byte 63 path then codes "&" else codes "?") ++ join_with_byte 38 (map pair_text (p ∷ ps))

-- The target: the template filled by the labels, and then the query pairs. The name of the first hole that has no text is the error.
unfoldable pub target_of : Schema → List Write → List ℕ → Result (List ℕ) (List ℕ)
target_of schema ws endpoint =
    then_give (fill (pieces (template_of schema endpoint)) (labels schema ws)) λ path. with_query path (pairs schema ws)

-- the header stands last where it is wanted and no such name stands
abbrev pub with_default : Bool → List ℕ → List ℕ → List (List ℕ × List ℕ) → List (List ℕ × List ℕ)
with_default wanted name value pairs =
    if wanted && is_none (found name pairs) then pairs ++ (name, value) ∷ [] else pairs

-- Behind the headers the default content type and then the length, of a body of so many bytes that is the codec's or not:
-- the type where it is the codec's (RFC 7231, section 3.1.1.5), the length there and where it is not empty (RFC 7230,
-- section 3.3.2), each unless it is left out.
abbrev pub with_defaults : List ℕ → Bool → ℕ → OmitFlags → List (List ℕ × List ℕ) → List (List ℕ × List ℕ)
with_defaults content_type is_codec length omit pairs =
    with_default ((not (length == 0) || is_codec) && not omit.content_length) (codes "content-length") (decimal length)
    (with_default (is_codec && not omit.content_type) (codes "content-type") content_type pairs)

-- the default content type is wanted: the body is the codec's, and the default is not left out (RFC 7231, section 3.1.1.5)
abbrev pub adds_content_type : Body → OmitFlags → Bool
adds_content_type b omit = is_codec b.form && not omit.content_type

-- the length is wanted: the body is the codec's or not empty, and the default is not left out (RFC 7230, section 3.3.2)
abbrev pub adds_content_length : Body → OmitFlags → Bool
adds_content_length b omit = (not (length b.bytes == 0) || is_codec b.form) && not omit.content_length

-- the headers of the members, and behind them the defaults
abbrev pub all_headers : Protocol → Body → OmitFlags → List (List ℕ × List ℕ) → List (List ℕ × List ℕ)
all_headers protocol b omit pairs = with_defaults protocol.content_type (is_codec b.form) (length b.bytes) omit pairs
