-- What is wrong with an input, or an output: the first fault in one order, as a variant and a text.
use Rattle.std.specs.Prelude.{ℕ, Bool, true, false, not, ◌&&◌, codes, List, [], ◌∷◌, ◌++◌, Result, Ok, Err, Option, Some, None, option_map, option_and_then, option_to_list, unwrap_or, is_some, if◌then◌else◌}
use Rattle.smithy_binding.specs.Words.{option_map_or, option_or, is_token, is_header_value, is_short_target, is_target, unless, ShapeType, kind_word, Schema, element_of, key_of, value_of, name_of, Binding, to_payload, to_body, binding_of, Label, Value, list, Writes, no_writes, write, Write, fits, fits_member, written_word, document_fault, document_fault_text, Resolved, resolve, resolved, has_seen}
use Rattle.std.specs.Result.{result_err}
use Rattle.smithy_serde.specs.Values as value
use Rattle.smithy_binding.specs.Bindings.{kind_or_none, texts, inserted}
use Rattle.smithy_binding.specs.Bodies.{document_value}
use Rattle.smithy_binding.specs.Placing.{target_of}

-- a refusal: its variant with its text
pub data Fault : Type 0 where
  unknown_member invalid_input unsupported custom : List ℕ → Fault

-- a text of parts, one behind the other
abbrev pub message : List (List ℕ) → List ℕ
message [] = []
message (part ∷ []) = part
message (part ∷ next ∷ parts) = part ++ message (next ∷ parts)

-- no member has the write's node
abbrev pub no_member : Label → Fault
no_member l = unknown_member (unwrap_or l.member_name l.full_name)

-- the value is not of the member's kind
abbrev pub wrong_kind : Schema → Value → Fault
wrong_kind m v = unsupported (message (codes "cannot write " ∷ written_word v ∷ codes " to member " ∷ name_of m ∷ codes " of type " ∷ kind_word m.node.kind ∷ []))

-- a part is not of the kind of its own node, an element, key or value node, which the text names
abbrev pub wrong_item_kind : Schema → ShapeType → Value → Fault
wrong_item_kind m item v = unsupported (message (codes "cannot write " ∷ written_word v ∷ codes " to an element of member " ∷ name_of m ∷ codes " of type " ∷ kind_word item ∷ []))

-- the first element that is not of the kind
abbrev pub element_fault : Schema → ShapeType → Writes → Option Fault
element_fault m element no_writes = None
element_fault m element (write l v ws) = option_or (unless (fits element v) (wrong_item_kind m element v)) (element_fault m element ws)

-- the first element of an entry's list that is not of its kind
abbrev pub nested_fault : Schema → Option Schema → Value → Option Fault
nested_fault m here (list ws) = element_fault m (kind_or_none (option_and_then element_of here)) ws
nested_fault m here _ = None

-- a key or a value that is not of the kind of its node, or else an element of it
abbrev pub part_fault : Schema → Option Schema → Value → Option Fault
part_fault m here v =
    option_or (unless (fits (kind_or_none here) v) (wrong_item_kind m (kind_or_none here) v)) (nested_fault m here v)

-- the first such of keys and values in turn
abbrev pub entry_fault : Schema → Option Schema → Option Schema → Writes → Option Fault
entry_fault m this next no_writes = None
entry_fault m this next (write l v ws) = option_or (part_fault m this v) (entry_fault m next this ws)

-- the first element, key, value or element of an entry's list that is not of its kind
abbrev pub item_fault : Schema → Value → Option Fault
item_fault m (list ws) = element_fault m (kind_or_none (element_of m)) ws
item_fault m (value.map ws) = entry_fault m (key_of m) (value_of m) ws
item_fault m _ = None

-- keys and values in turn end with a value
abbrev pub ends_with_value : Writes → Bool
ends_with_value no_writes = true
ends_with_value (write k key no_writes) = false
ends_with_value (write k key (write l v ws)) = ends_with_value ws

-- a map that ends with a key
abbrev pub unmatched_key : Schema → Fault
unmatched_key m = unsupported (message (codes "map member " ∷ name_of m ∷ codes " ends with a key without a value" ∷ []))

-- its fault, where a map ends so
abbrev pub key_fault : Schema → Value → Option Fault
key_fault m (value.map ws) = unless (ends_with_value ws) (unmatched_key m)
key_fault m _ = None

-- a time whose year its format has not
abbrev pub no_year : Fault
no_year = custom (codes "failed to format timestamp: year outside 1 to 9999")

-- that a header or an entry behind a prefix was to be made, and the header's name or the prefix, as the trait spells it
abbrev pub header_words : Schema → List ℕ × List ℕ
header_words m =
    option_map_or (λ name. (codes " to header `", name)) m.node.traits.http_header
    (codes " to headers with prefix `", unwrap_or m.node.traits.http_prefix_headers [])

-- a header that can't stand in a request
abbrev pub wrong_header : Schema → List ℕ → Fault
wrong_header m what =
    let words = header_words m in
    invalid_input (message (codes "cannot serialize " ∷ name_of m ∷ words.0 ∷ words.1 ∷ codes "`: " ∷ what ∷ []))

-- the name is no token, or else the value has a byte that no header value has (RFC 7230, section 3.2)
abbrev pub pair_fault : Schema → List ℕ × List ℕ → Option Fault
pair_fault m p =
    option_or (unless (is_token p.0) (wrong_header m (codes "invalid header name")))
    (unless (is_header_value p.1) (wrong_header m (codes "invalid header value")))

-- the first of the pairs that can't stand
abbrev pub pairs_fault : Schema → List (List ℕ × List ℕ) → Option Fault
pairs_fault m [] = None
pairs_fault m (p ∷ ps) = option_or (pair_fault m p) (pairs_fault m ps)

-- what keeps a value from having texts: a part's kind, then a key without a value, then a year
abbrev pub value_fault : Schema → Value → Option Fault
value_fault m v = option_or (item_fault m v) (option_or (key_fault m v) (unless (is_some (texts m v)) no_year))

-- the fault of the first write of a bound member other than a payload
abbrev pub bound_fault : Resolved → Option Fault
bound_fault r = option_or (value_fault r.member r.value) (pairs_fault r.member (inserted r))

-- the binding stands in the first line or the headers
abbrev pub is_placed_at : Binding → Bool
is_placed_at to_payload = false
is_placed_at to_body = false
is_placed_at _ = true

-- the fault of a write that has a member, behind writes to the members at these positions: of the first write of a placed
-- member that of its value too, which `bound` tells
abbrev pub resolved_fault_by : (Resolved → Option Fault) → List ℕ → Resolved → Option Fault
resolved_fault_by bound seen r =
    option_or (unless (fits_member r.member r.value) (wrong_kind r.member r.value))
    (if is_placed_at (binding_of r.member) && not (has_seen seen r.position) then bound r else None)

-- the first fault of these writes, behind such writes
abbrev pub writes_fault_by : (Resolved → Option Fault) → Schema → List ℕ → List Write → Option Fault
writes_fault_by bound schema seen [] = None
writes_fault_by bound schema seen (w ∷ ws) =
    option_or (option_map_or (resolved_fault_by bound seen) (resolved schema w) (Some (no_member w.label)))
    (writes_fault_by bound schema (seen ++ option_to_list (resolve schema w.label)) ws)

-- the same of an input
unfoldable pub writes_fault : Schema → List ℕ → List Write → Option Fault
writes_fault schema seen ws = writes_fault_by bound_fault schema seen ws

-- and of one write, with its member or without one
abbrev pub resolved_fault : List ℕ → Resolved → Option Fault
resolved_fault seen r = resolved_fault_by bound_fault seen r

abbrev pub write_fault : Schema → List ℕ → Write → Option Fault
write_fault schema seen w = option_map_or (resolved_fault seen) (resolved schema w) (Some (no_member w.label))

-- the first rule of documents that a value breaks, if there is one
abbrev pub fault_of_document : Option Value → Option Fault
fault_of_document v = option_map (λ f. custom (document_fault_text f)) (option_and_then document_fault v)

-- the first broken rule of the body's document
unfoldable pub body_fault : Schema → List Write → Option Fault
body_fault schema ws = fault_of_document (document_value schema ws)

-- a hole without a text (httpLabel: a label may not be empty)
abbrev pub missing_hole : List ℕ → Fault
missing_hole hole = invalid_input (hole ++ codes " was missing: cannot be empty or unset")

-- a target that is too long
abbrev pub too_long : Fault
too_long = custom (codes "invalid endpoint URI: longer than 65534 bytes")

-- of a template that is filled, or not: the first hole without a text, or else that it is too long
abbrev pub filled_fault : Result (List ℕ) (List ℕ) → Option Fault
filled_fault (Err hole) = Some (missing_hole hole)
filled_fault (Ok target) = unless (is_short_target target) too_long

-- a target that breaks the grammar (RFC 7230, section 5.3)
abbrev pub not_legal : Fault
not_legal = custom (codes "invalid endpoint URI: not a legal request target")

-- a target that is too long, or else breaks the grammar
abbrev pub legal_fault : List ℕ → Option Fault
legal_fault target = option_or (unless (is_short_target target) too_long) (unless (is_target target) not_legal)

-- what comes, where there is no fault before it
abbrev pub behind : {A : Type 0} → Option Fault → Result A Fault → Result A Fault
behind (Some f) r = Err f
behind None r = r

-- a target that has each of its holes filled and is legal, or its fault
abbrev pub legal_or_fault : Result (List ℕ) (List ℕ) → Result (List ℕ) Fault
legal_or_fault (Err hole) = Err (missing_hole hole)
legal_or_fault (Ok target) = behind (legal_fault target) (Ok target)

-- The target of an input without a fault (such an input is conforming), or the first fault: of the writes in order, then
-- of the body's document, of the template's holes, and of the target.
unfoldable pub legal_target : Schema → List Write → List ℕ → Result (List ℕ) Fault
legal_target schema ws endpoint =
    behind (writes_fault schema [] ws) (behind (body_fault schema ws) (legal_or_fault (target_of schema ws endpoint)))

-- the first fault of an input, if there is one
abbrev pub fault : Schema → List Write → List ℕ → Option Fault
fault schema ws endpoint = result_err (legal_target schema ws endpoint)

-- the line in which a program tells a refusal: its variant and its text
abbrev pub fault_line : Fault → List ℕ
fault_line (unknown_member t) = codes "UnknownMember: unknown member: " ++ t
fault_line (invalid_input t) = codes "InvalidInput: invalid input: " ++ t
fault_line (unsupported t) = codes "UnsupportedOperation: unsupported operation: " ++ t
fault_line (custom t) = codes "Custom: " ++ t
