-- What becomes of a consumer's refusal at a member of a response.
use Rattle.std.specs.Prelude.{ℕ, Bool, true, false, not, ◌&&◌, codes, List, ◌++◌, is_some, Ok, Err, if◌then◌else◌}
use Rattle.smithy_response.specs.Words.{list_any, is_utf8, str_to_ascii_lowercase, NonUtf8HeaderHandling, Response, name_of, SerdeError, InvalidInput, OutOfMemory, Answer, Slot, at_member}
use Rattle.smithy_http.specs.declared.non_utf8.NonUtf8HeaderHandling.TheVariants.{Reject, Skip}
use Rattle.smithy_serde.specs.Refusals.{refusal_text}
use Rattle.smithy_response.specs.PrefixedHeaders.{values_named, behind_lower}
use Rattle.smithy_response.specs.Routes.{Source, in_header, in_prefix, source_of}

-- some value is not UTF-8
abbrev pub has_unreadable : List (List ℕ) → Bool
has_unreadable values = list_any (λ value. not (is_utf8 value)) values

-- some value behind a prefix in lower case is not UTF-8
abbrev pub unreadable_behind_lower : List ℕ → List (List ℕ × List ℕ) → Bool
unreadable_behind_lower lower pairs = list_any (λ p. is_some (behind_lower lower p.0) && not (is_utf8 p.1)) pairs

-- the same, the prefix taken without ASCII case
abbrev pub has_unreadable_behind : List ℕ → List (List ℕ × List ℕ) → Bool
has_unreadable_behind prefix pairs = unreadable_behind_lower (str_to_ascii_lowercase prefix) pairs

abbrev pub skips : NonUtf8HeaderHandling → Bool
skips Reject = false
skips Skip = true

abbrev pub is_memory : SerdeError → Bool
is_memory OutOfMemory = true
is_memory _ = false

-- Want of memory stays. Where unreadable values are skipped and one is there, the refusal is hidden. Every other refusal tells the member and the header.
abbrev pub settled_header : (is_hidden : Bool) (context : List ℕ → List ℕ) → SerdeError → Answer
settled_header is_hidden context e =
    if is_memory e then Err e
    else if is_hidden then Ok tt
    else Err (InvalidInput (context (refusal_text e)))

abbrev pub header_context : List ℕ → List ℕ → List ℕ → List ℕ
header_context member name what = codes "failed to parse " ++ (member ++ (codes " from header `" ++ (name ++ (codes "`: " ++ what))))

abbrev pub prefix_context : List ℕ → List ℕ → List ℕ → List ℕ
prefix_context member prefix what =
    codes "failed to parse " ++ (member ++ (codes " from prefix header `" ++ (prefix ++ (codes "`: " ++ what))))

-- a member's header, or the headers behind its prefix, could not be read, for this cause
abbrev pub in_header_for : List ℕ → List ℕ → SerdeError → SerdeError
in_header_for member name cause = InvalidInput (header_context member name (refusal_text cause))

abbrev pub behind_prefix_for : List ℕ → List ℕ → SerdeError → SerdeError
behind_prefix_for member prefix cause = InvalidInput (prefix_context member prefix (refusal_text cause))

abbrev pub settled_at : Source → NonUtf8HeaderHandling → Response → List ℕ → SerdeError → Answer
settled_at (in_header name) policy response member e =
    settled_header (skips policy && has_unreadable (values_named name response.headers)) (header_context member name) e
settled_at (in_prefix prefix) policy response member e =
    settled_header (skips policy && has_unreadable_behind prefix response.headers) (prefix_context member prefix) e
settled_at _ policy response member e = Err e

-- what is answered for a refusal at a member; at the response code, a payload and a field of the body it stays as it is
abbrev pub settled : NonUtf8HeaderHandling → Response → Slot → SerdeError → Answer
settled policy response (at_member m) e = settled_at (source_of m) policy response (name_of m) e
settled policy response _ e = Err e
