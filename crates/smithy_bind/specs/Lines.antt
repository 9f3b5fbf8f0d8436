-- What is told of one input among many: a line of JSON (RFC 8259).
use Rattle.std.specs.Prelude.{ℕ, codes, List, [], ◌∷◌, ◌++◌, Option, Some, None, Result, Ok, Err}
use Rattle.std.specs.Option.{option_map_or}
use Rattle.serde_json.specs.Data.{Data, Items, Members, unsigned, number, string, array, object, no_items, item, no_members, member}
use Rattle.serde_json.specs.Written.{compact_text}
use Rattle.smithy_http.specs.HeaderValues.{text_of}
use Rattle.smithy_http.specs.Requests.{Request}
use Rattle.smithy_serde.specs.DocumentOf.{base64}
use Rattle.smithy_binding.specs.Faults.{Fault, fault_line}

-- bytes in base64 (RFC 4648)
abbrev pub base64_value : List ℕ → Data
base64_value bytes = object (member (codes "base64") (string (base64 bytes)) no_members)

-- as a text where they are UTF-8
abbrev pub bytes_value : List ℕ → Data
bytes_value bytes = option_map_or string (text_of bytes) (base64_value bytes)

-- a header as the pair of its name and its value
abbrev pub header_value : List ℕ × List ℕ → Data
header_value h = array (item (string h.0) (item (bytes_value h.1) no_items))

abbrev pub header_values : List (List ℕ × List ℕ) → Items
header_values [] = no_items
header_values (h ∷ hs) = item (header_value h) (header_values hs)

-- an object with the status that the program ends with where the input is alone
abbrev pub with_status : ℕ → Members → Data
with_status n ms = object (member (codes "status") (number (unsigned n)) ms)

abbrev pub request_members : Request → Members
request_members r =
    member (codes "method") (string r.method)
    (member (codes "target") (string r.target)
    (member (codes "headers") (array (header_values r.headers))
    (member (codes "body") (bytes_value r.body) no_members)))

-- a fault, in these words
abbrev pub fault_value : List ℕ → Data
fault_value words = with_status 3 (member (codes "fault") (string words) no_members)

-- a request; the first fault; or that the value is no input
abbrev pub answer_value : Option (Result Request Fault) → Data
answer_value (Some (Ok r)) = with_status 0 (request_members r)
answer_value (Some (Err f)) = fault_value (fault_line f)
answer_value None = with_status 2 no_members

-- its compact text, and the end of the line
unfoldable pub answer_line : Option (Result Request Fault) → List ℕ
answer_line answer = compact_text (answer_value answer) ++ codes "\n"
