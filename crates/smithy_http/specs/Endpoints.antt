-- How the target of a request is joined to an endpoint (RFC 3986, sections 3.1 to 3.4; the host prefix of `smithy.api#endpoint`).
use Rattle.std.specs.Prelude.{◌≡◌, ◌==◌, ℕ, Bool, false, not, ◌||◌, ◌&&◌, List, [], ◌∷◌, ◌++◌, length, drop, codes, Some, None, ◌⊎◌, IsTrue, Result, Ok, Err, if◌then◌else◌}
use Rattle.std.specs.Char.{is_ascii_alphanumeric}
use Rattle.std.specs.List.{list_all, after_first}
use Rattle.std.specs.Str.{str_to_ascii_lowercase}
use Rattle.http_uri.specs.Uri.{Spells, uri_scheme, uri_authority, uri_path}
use Rattle.http_uri.specs.declared.uri.Uri.{Uri}
use Rattle.smithy_types.specs.Grammars.{before_query, scheme_len, is_legal_target}
use Rattle.smithy_types.specs.Texts.{ascii}
use Rattle.smithy_http.specs.declared.error.HttpError.{HttpError}
use Rattle.smithy_http.specs.declared.error.HttpError.TheVariants as error

-- an address and the headers that go with it
pub record Endpoint : Type 0 where
  pub url : List ℕ
  -- lower-case names and values, in order
  pub headers : List (List ℕ × List ℕ)

-- a byte of host labels and the points between them
abbrev pub is_prefix_byte : ℕ → Bool
is_prefix_byte b = is_ascii_alphanumeric b || (b == ascii "-") || (b == ascii ".")

-- what may stand before the authority of an address
abbrev pub is_endpoint_prefix : List ℕ → Bool
is_endpoint_prefix text = not (length text == 0) && list_all is_prefix_byte text

-- the parts of an address that a joined target has
pub record Address : Type 0 where
  pub scheme : List ℕ
  pub authority : List ℕ
  pub path : List ℕ

-- the text is a URI that has a scheme and an authority, with these parts (RFC 3986, section 3)
pub record IsAddress (text : List ℕ) (address : Address) : Type 0 where
  pub uri : Uri
  pub spelled : Spells text uri
  pub scheme : uri_scheme uri ≡ Some address.scheme
  pub authority : uri_authority uri ≡ Some address.authority
  pub path : uri_path uri ≡ address.path

-- the URI has the parts of this address
abbrev pub HasParts : Uri → Address → Type 0
HasParts uri a = (uri_scheme uri ≡ Some a.scheme) × (uri_authority uri ≡ Some a.authority) × (uri_path uri ≡ a.path)

-- the URI has no scheme or no authority
abbrev pub LacksParts : Uri → Type 0
LacksParts uri = (uri_scheme uri ≡ None) ⊎ (uri_authority uri ≡ None)

abbrev pub IsNoAddress : List ℕ → Type 0
IsNoAddress text = (address : Address) → ¬ (IsAddress text address)

abbrev pub is_slash : ℕ → Bool
is_slash b = b == ascii "/"

-- a path without one slash at its end
abbrev pub without_last_slash : List ℕ → List ℕ
without_last_slash [] = []
without_last_slash (b ∷ []) = if is_slash b then [] else b ∷ []
without_last_slash (b ∷ c ∷ bytes) = b ∷ without_last_slash (c ∷ bytes)

-- the path of a target without one slash at its start: what stands behind the scheme and the authority, where it has them, and that slash
abbrev pub path_behind_slash : List ℕ → List ℕ
path_behind_slash target = after_first is_slash (drop (scheme_len (before_query target)) (before_query target))

-- the query of a target with its `?`; nothing where there is none
abbrev pub marked_query : List ℕ → List ℕ
marked_query target = drop (length (before_query target)) target

-- Scheme and authority of the address, the prefix before that authority; the address's path and then the target's, one slash between them;
-- the target's query. The address's query is dropped.
abbrev pub joined_target : Address → List ℕ → List ℕ → List ℕ
joined_target address prefix target =
    str_to_ascii_lowercase address.scheme ++ codes "://" ++ prefix ++ address.authority
    ++ without_last_slash address.path ++ codes "/" ++ path_behind_slash target ++ marked_query target

-- the URL is an address, and this is the target joined to it
pub record IsJoined (url prefix target joined : List ℕ) : Type 0 where
  pub address : Address
  pub is_address : IsAddress url address
  pub is_joined : joined ≡ joined_target address prefix target

-- What setting the endpoint of a target gives: the joined target, or why there is none, the address first; want of memory is free.
abbrev pub SetsEndpoint : List ℕ → List ℕ → List ℕ → Result (List ℕ) HttpError → Type 0
SetsEndpoint url prefix target (Ok joined) = IsJoined url prefix target joined × IsTrue (is_legal_target joined)
SetsEndpoint url prefix target (Err error.Address) = IsNoAddress url
SetsEndpoint url prefix target (Err error.Target) = (joined : List ℕ) × IsJoined url prefix target joined × (is_legal_target joined ≡ false)
SetsEndpoint url prefix target (Err error.OutOfMemory) = Unit {0}
SetsEndpoint url prefix target (Err _) = ⊥
