-- Which inputs a request tells apart, and which it does not, binding by binding.
use Rattle.std.proofs.Common.{◌≡◌, refl, ℕ, zero, suc, codes, true, ◌&&◌, List, [], ◌∷◌, ◌++◌, reverse, map, flat_map, Option, Some, None, pos}
use Rattle.std.specs.List.{list_all}
use Rattle.std.specs.Option.{option_map as mapped, option_map_or}
use Rattle.smithy_types.specs.Texts.{are_distinct}
use Rattle.smithy_types.specs.Documents as doc
use Rattle.smithy_types.specs.Documents.{Document}
use Rattle.smithy_ids.specs.declared.traits.TimestampFormat.TheVariants.{EpochSeconds}
use Rattle.smithy_ids.specs.declared.shape_type.ShapeType.TheVariants as kind
use Rattle.smithy_http.specs.Requests.{Request}
use Rattle.smithy_http.specs.Facts.{facts}
use Rattle.smithy_schema.specs.Nodes.{Schema, bare_node, no_traits, at_place}
use Rattle.smithy_schema.specs.WellMade.{is_well_made}
use Rattle.smithy_serde.specs.Values.{Label, Value, Write, no_writes, write, Scalar, scalar, text, blob, null, document, timestamp, writes_of, list, structure, label_of}
use Rattle.smithy_binding.specs.Answer.{place}
use Rattle.smithy_binding.specs.Checked.{checked_input}
use Rattle.smithy_binding.specs.NormalForm.{view}
use Rattle.smithy_binding.specs.Typed.{IsTyped}
use Rattle.second_codec.proofs.OnLiterals.{second_codec_on_literals}
use Rattle.second_codec.proofs.Making.{label, header, prefix_map, query, query_map, payload, with_http, structure_of, structure_node, member, with_element, with_entries, with_target, string_node, list_node, item_label, to, named, strings, string_map, list_map, json, keep_all}
use Rattle.second_codec.proofs.Samples.{every_header, endpoint_label, one_payload}
use Rattle.second_codec.proofs.TypedTests.{failing, typed_if_nothing_fails}

-- Every binding but the payload's: a label, a default header, a header, header lists of texts and of times, a prefix
-- map, a query member, a query list, a query map, and members of the body.
abbrev bindings : Schema
bindings = structure_of (with_http (codes "POST") (codes "/{id}")) 11 (
    member 0 (codes "id") kind.String label
    ∷ member 1 (codes "type") kind.String (header (codes "Content-Type"))
    ∷ member 2 (codes "h") kind.String (header (codes "X-H"))
    ∷ with_element 11 (member 3 (codes "tags") kind.List (header (codes "X-Tags")))
    ∷ with_element 12 (member 4 (codes "times") kind.List (header (codes "X-Times")))
    ∷ with_entries 11 11 (member 5 (codes "meta") kind.Map (prefix_map (codes "X-M-")))
    ∷ member 6 (codes "q") kind.String (query (codes "q"))
    ∷ with_element 11 (member 7 (codes "qs") kind.List (query (codes "qs")))
    ∷ with_entries 11 11 (member 8 (codes "params") kind.Map query_map)
    ∷ member 9 (codes "a") kind.String no_traits
    ∷ with_entries 11 11 (member 10 (codes "m") kind.Map no_traits)
    ∷ string_node
    ∷ Some (bare_node (codes "smithy.api#Timestamp") kind.Timestamp)
    ∷ [])

-- a structure payload, and a query map of lists
abbrev rooted : Schema
rooted = structure_of (with_http (codes "PUT") (codes "/p")) 2 (
    with_target 2 (member 0 (codes "S") kind.Structure payload)
    ∷ with_entries 5 6 (member 1 (codes "P") kind.Map query_map)
    ∷ Some (structure_node no_traits (3 ∷ 4 ∷ []))
    ∷ member 0 (codes "a") kind.String no_traits
    ∷ member 1 (codes "d") kind.Document no_traits
    ∷ string_node
    ∷ Some (list_node 5)
    ∷ [])

pub schemas_are_checked_and_well_made : list_all (λ schema. checked_input schema && is_well_made schema) (bindings ∷ rooted ∷ one_payload kind.Blob ∷ one_payload kind.String ∷ every_header ∷ endpoint_label ∷ []) ≡ true
unfolding second_codec_on_literals
schemas_are_checked_and_well_made = refl

-- a part of the request of an input
abbrev sees : {S : Type 0} → Schema → (Request → S) → List Write → Option S
sees schema part ws = mapped part (place json schema ws [] keep_all)

-- Typed inputs with one normal form, which is the first of them: this part of their requests is the same.
abbrev AreAlike : {S : Type 0} → Schema → (Request → S) → List Write → List (List Write) → Type 0
AreAlike schema part ws others =
    (flat_map (failing schema []) (ws ∷ others) ≡ [])
    × (map (view schema) (ws ∷ others) ≡ map (λ other. ws) (ws ∷ others))
    × (map (sees schema part) others ≡ map (λ other. sees schema part ws) others)

-- Typed inputs, each its own normal form: this part of their requests tells them apart, by these texts.
abbrev AreToldApart : Schema → (Request → List ℕ) → List (List Write) → List (List ℕ) → Type 0
AreToldApart schema part inputs texts =
    (flat_map (failing schema []) inputs ≡ [])
    × (map (view schema) inputs ≡ inputs)
    × (map (sees schema part) inputs ≡ map Some texts)
    × (are_distinct texts ≡ true)

-- parts of a request: all of it, what a server sees of its path and body, and its headers and pairs of some names
abbrev whole : Request → Request
whole r = r

abbrev path : Request → List ℕ
path r = (facts r).path

abbrev body : Request → List ℕ
body r = (facts r).body

abbrev lines : List (List ℕ) → Request → List ℕ
lines names r = flat_map (λ name. flat_map (λ v. name ++ codes ": " ++ v ++ codes "\n") ((facts r).headers name)) names

abbrev pairs : List (List ℕ) → Request → List ℕ
pairs names r = flat_map (λ name. flat_map (λ piece. codes "&" ++ piece) ((facts r).query name)) names

-- a text at a member
abbrev at : ℕ → List ℕ → Write
at index t = to bindings index (scalar (text t))

-- what each input has, with more writes behind it
abbrev input : List Write → List Write
input ws = at 0 (codes "i") ∷ at 1 (codes "t") ∷ ws

-- nothing else, and each of these values at a member
abbrev inputs : ℕ → List Value → List (List Write)
inputs index values = input [] ∷ map (λ v. input (to bindings index v ∷ [])) values

-- a list of times
abbrev time_label : Label
time_label = record item_label { full_name = codes "smithy.api#Timestamp" }

abbrev seconds : List ℕ → Value
seconds times = list (writes_of (map (λ n. record { label = time_label; value = scalar (timestamp (pos n)) }) times))

-- each member written, the maps with these entries
abbrev every : List (List ℕ × List ℕ) → List Write
every entries =
    input (at 2 (codes "x")
    ∷ to bindings 3 (strings (codes "x" ∷ codes "y" ∷ []))
    ∷ to bindings 4 (seconds (0 ∷ 1 ∷ []))
    ∷ to bindings 5 (string_map entries)
    ∷ at 6 (codes "x")
    ∷ to bindings 7 (strings (codes "x" ∷ codes "y" ∷ []))
    ∷ to bindings 8 (string_map entries)
    ∷ at 9 (codes "x")
    ∷ to bindings 10 (string_map entries)
    ∷ [])

abbrev two : List (List ℕ × List ℕ)
two = (codes "k", codes "x") ∷ (codes "l", codes "y") ∷ []

pub every_member_is_typed : IsTyped json bindings [] keep_all (every two)
unfolding second_codec_on_literals
every_member_is_typed = typed_if_nothing_fails bindings [] (every two) refl

pub every_member_is_placed : place json bindings (every two) [] keep_all ≡ Some (record { method = codes "POST"; target = codes "/i?q=x&qs=x&qs=y&k=x&l=y"; headers = ((codes "content-type", codes "t") ∷ (codes "x-h", codes "x") ∷ (codes "x-tags", codes "x, y") ∷ (codes "x-times", codes "Thu, 01 Jan 1970 00:00:00 GMT, Thu, 01 Jan 1970 00:00:01 GMT") ∷ (codes "x-m-k", codes "x") ∷ (codes "x-m-l", codes "y") ∷ (codes "content-length", codes "31") ∷ []); body = codes "{\"a\":\"x\",\"m\":{\"k\":\"x\",\"l\":\"y\"}}" })
unfolding second_codec_on_literals
every_member_is_placed = refl

-- second writes of the bound members
abbrev second_writes : List Write
second_writes = at 0 (codes "z") ∷ at 1 (codes "z") ∷ at 2 (codes "z") ∷ to bindings 3 (strings []) ∷ to bindings 4 (seconds []) ∷ to bindings 5 (string_map []) ∷ at 6 (codes "z") ∷ to bindings 7 (strings []) ∷ to bindings 8 (string_map []) ∷ []

-- these, earlier writes of unbound members, and members that are found by their names
pub other_writes_are_not_told : AreAlike bindings whole (every two) ((every two ++ second_writes) ∷ (to bindings 10 (string_map []) ∷ at 9 (codes "z") ∷ every two) ∷ map (λ w. record { label = record w.label { member_index = None }; value = w.value }) (every two) ∷ [])
unfolding second_codec_on_literals
other_writes_are_not_told = (refl, refl, refl)

-- what is seen at the names that occur
abbrev seen : Request → List (List ℕ)
seen r = path r ∷ lines (codes "content-type" ∷ codes "content-length" ∷ codes "x-h" ∷ codes "x-tags" ∷ codes "x-times" ∷ codes "x-m-k" ∷ codes "x-m-l" ∷ []) r ∷ pairs (codes "q" ∷ codes "qs" ∷ codes "k" ∷ codes "l" ∷ []) r ∷ body r ∷ []

-- writes and entries the other way round: headers and pairs then stand in another order, with the same under each name
pub order_is_not_told : AreAlike bindings seen (every two) (reverse (every (reverse two)) ∷ [])
unfolding second_codec_on_literals
order_is_not_told = (refl, refl, refl)

-- the case of a prefix map's keys, and an earlier key that is the same in lower case
pub case_of_a_key_is_not_told : let meta : List (List ℕ × List ℕ) → List Write = λ es. input (to bindings 5 (string_map es) ∷ []) in AreAlike bindings whole (meta ((codes "k", codes "x") ∷ [])) (meta ((codes "K", codes "x") ∷ []) ∷ meta ((codes "k", codes "z") ∷ (codes "K", codes "x") ∷ []) ∷ [])
unfolding second_codec_on_literals
case_of_a_key_is_not_told = (refl, refl, refl)

-- empty maps, an empty query list, and an entry with a query member's name
pub nothing_at_all_is_not_told : AreAlike bindings whole (input []) (map (λ w. input (w ∷ [])) (to bindings 5 (string_map []) ∷ to bindings 7 (strings []) ∷ to bindings 8 (string_map []) ∷ to bindings 8 (string_map ((codes "q", codes "x") ∷ [])) ∷ []))
unfolding second_codec_on_literals
nothing_at_all_is_not_told = (refl, refl, refl)

pub labels_are_told_apart : AreToldApart bindings path (map (λ t. at 0 t ∷ at 1 (codes "t") ∷ []) (codes "a" ∷ codes "A" ∷ codes "a/b" ∷ codes "a%2Fb" ∷ [])) (codes "/a" ∷ codes "/A" ∷ codes "/a%2Fb" ∷ codes "/a%252Fb" ∷ [])
unfolding second_codec_on_literals
labels_are_told_apart = (refl, refl, refl, refl)

pub default_headers_are_told_apart : AreToldApart bindings (lines (codes "content-type" ∷ [])) (map (λ t. at 0 (codes "i") ∷ at 1 t ∷ []) (codes "application/json" ∷ codes "text/plain" ∷ [] ∷ [])) (codes "content-type: application/json\n" ∷ codes "content-type: text/plain\n" ∷ codes "content-type: \n" ∷ [])
unfolding second_codec_on_literals
default_headers_are_told_apart = (refl, refl, refl, refl)

pub headers_are_told_apart : AreToldApart bindings (lines (codes "x-h" ∷ [])) (inputs 2 (map (λ t. scalar (text t)) ([] ∷ codes "1" ∷ codes "\"\"" ∷ []))) ([] ∷ codes "x-h: \n" ∷ codes "x-h: 1\n" ∷ codes "x-h: \"\"\n" ∷ [])
unfolding second_codec_on_literals
headers_are_told_apart = (refl, refl, refl, refl)

-- the empty list, empty texts, and a comma between texts or in one
pub header_lists_are_told_apart : AreToldApart bindings (lines (codes "x-tags" ∷ [])) (inputs 3 (map strings ([] ∷ ([] ∷ []) ∷ ([] ∷ [] ∷ []) ∷ (codes "1" ∷ codes "2" ∷ []) ∷ (codes "1, 2" ∷ []) ∷ []))) ([] ∷ codes "x-tags: \n" ∷ codes "x-tags: \"\"\n" ∷ codes "x-tags: \"\", \"\"\n" ∷ codes "x-tags: 1, 2\n" ∷ codes "x-tags: \"1, 2\"\n" ∷ [])
unfolding second_codec_on_literals
header_lists_are_told_apart = (refl, refl, refl, refl)

-- a key with no text and with one, another key, and both
abbrev entries : List (List (List ℕ × List ℕ))
entries = ((codes "k", []) ∷ []) ∷ ((codes "k", codes "1") ∷ []) ∷ ((codes "l", codes "1") ∷ []) ∷ ((codes "k", codes "1") ∷ (codes "l", codes "1") ∷ []) ∷ []

pub prefix_maps_are_told_apart : AreToldApart bindings (lines (codes "x-m-k" ∷ codes "x-m-l" ∷ [])) (inputs 5 (map string_map entries)) ([] ∷ codes "x-m-k: \n" ∷ codes "x-m-k: 1\n" ∷ codes "x-m-l: 1\n" ∷ codes "x-m-k: 1\nx-m-l: 1\n" ∷ [])
unfolding second_codec_on_literals
prefix_maps_are_told_apart = (refl, refl, refl, refl)

pub query_members_are_told_apart : AreToldApart bindings (pairs (codes "q" ∷ [])) (inputs 6 (map (λ t. scalar (text t)) ([] ∷ codes "1" ∷ codes "1&q=1" ∷ []))) ([] ∷ codes "&q=" ∷ codes "&q=1" ∷ codes "&q=1%26q%3D1" ∷ [])
unfolding second_codec_on_literals
query_members_are_told_apart = (refl, refl, refl, refl)

pub query_lists_are_told_apart : AreToldApart bindings (pairs (codes "qs" ∷ [])) (inputs 7 (map strings (([] ∷ []) ∷ (codes "1" ∷ codes "2" ∷ []) ∷ (codes "2" ∷ codes "1" ∷ []) ∷ (codes "1,2" ∷ []) ∷ []))) ([] ∷ codes "&qs=" ∷ codes "&qs=1&qs=2" ∷ codes "&qs=2&qs=1" ∷ codes "&qs=1%2C2" ∷ [])
unfolding second_codec_on_literals
query_lists_are_told_apart = (refl, refl, refl, refl)

pub query_maps_are_told_apart : AreToldApart bindings (pairs (codes "k" ∷ codes "l" ∷ [])) (inputs 8 (map string_map entries)) ([] ∷ codes "&k=" ∷ codes "&k=1" ∷ codes "&l=1" ∷ codes "&k=1&l=1" ∷ [])
unfolding second_codec_on_literals
query_maps_are_told_apart = (refl, refl, refl, refl)

-- a null, an empty text and a text that says null; an empty map
pub unbound_members_are_told_apart : AreToldApart bindings body (inputs 9 (map scalar (null ∷ text [] ∷ text (codes "null") ∷ [])) ++ map (λ es. input (to bindings 10 (string_map es) ∷ [])) ([] ∷ ((codes "k", []) ∷ []) ∷ [])) (codes "{}" ∷ codes "{\"a\":null}" ∷ codes "{\"a\":\"\"}" ∷ codes "{\"a\":\"null\"}" ∷ codes "{\"m\":{}}" ∷ codes "{\"m\":{\"k\":\"\"}}" ∷ [])
unfolding second_codec_on_literals
unbound_members_are_told_apart = (refl, refl, refl, refl)

-- a payload of these fields, which have the labels of their nodes
abbrev root : List Write → List Write
root fields = to rooted 0 (structure (writes_of fields)) ∷ []

abbrev field : ℕ → Value → Write
field place v = record { label = option_map_or label_of (at_place rooted.table place) item_label; value = v }

abbrev fields : List Write
fields = field 3 (scalar (text (codes "x"))) ∷ field 4 (scalar (document doc.null)) ∷ []

-- a query map with these lists of texts
abbrev listed : List (List ℕ × List (List ℕ)) → List Write
listed es = to rooted 1 (list_map (map (λ e. (e.0, map (λ t. scalar (text t)) e.1)) es)) ∷ []

-- a document in so many arrays
abbrev nested : ℕ → Document
nested zero = doc.null
nested (suc n) = doc.array (doc.item (nested n) doc.no_items)

-- a payload nested one deeper, by the object around it, and a query map
abbrev deep : ℕ → List Write
deep n = root (fields ++ field 4 (scalar (document (nested n))) ∷ []) ++ listed ((codes "k", codes "x" ∷ codes "y" ∷ []) ∷ [])

pub root_is_typed : IsTyped json rooted [] keep_all (deep 99)
unfolding second_codec_on_literals
root_is_typed = typed_if_nothing_fails rooted [] (deep 99) refl

-- fields the other way round, an earlier write of one, a null for the null document, a second payload, and an entry without texts
pub other_fields_are_not_told : AreAlike rooted whole (root fields) (root (reverse fields) ∷ root (field 3 (scalar null) ∷ fields) ∷ root (field 4 (scalar null) ∷ field 3 (scalar (text (codes "x"))) ∷ []) ∷ (root fields ++ root []) ∷ (root fields ++ listed ((codes "k", []) ∷ [])) ∷ [])
unfolding second_codec_on_literals
other_fields_are_not_told = (refl, refl, refl)

-- no payload and an empty one, nulls, and a text, a list of it and a number
pub structure_payloads_are_told_apart : AreToldApart rooted body ([] ∷ root [] ∷ map (λ s. root (field 3 (scalar s) ∷ [])) (null ∷ text (codes "1") ∷ []) ++ map (λ d. root (field 4 (scalar (document d)) ∷ [])) (doc.null ∷ doc.string (codes "1") ∷ doc.array (doc.item (doc.string (codes "1")) doc.no_items) ∷ doc.number (doc.positive 1) ∷ [])) ([] ∷ codes "{}" ∷ codes "{\"a\":null}" ∷ codes "{\"a\":\"1\"}" ∷ codes "{\"d\":null}" ∷ codes "{\"d\":\"1\"}" ∷ codes "{\"d\":[\"1\"]}" ∷ codes "{\"d\":1}" ∷ [])
unfolding second_codec_on_literals
structure_payloads_are_told_apart = (refl, refl, refl, refl)

pub query_maps_of_lists_are_told_apart : AreToldApart rooted (pairs (codes "k" ∷ codes "l" ∷ [])) ([] ∷ map listed (((codes "k", [] ∷ []) ∷ []) ∷ ((codes "k", codes "1" ∷ codes "2" ∷ []) ∷ []) ∷ ((codes "k", codes "2" ∷ codes "1" ∷ []) ∷ []) ∷ ((codes "k", codes "1" ∷ []) ∷ (codes "l", codes "2" ∷ []) ∷ []) ∷ [])) ([] ∷ codes "&k=" ∷ codes "&k=1&k=2" ∷ codes "&k=2&k=1" ∷ codes "&k=1&l=2" ∷ [])
unfolding second_codec_on_literals
query_maps_of_lists_are_told_apart = (refl, refl, refl, refl)

-- a raw payload
abbrev raw_blob : List ℕ → Write
raw_blob bytes = to (one_payload kind.Blob) 1 (scalar (blob bytes))

abbrev raw_text : List ℕ → Write
raw_text t = to (one_payload kind.String) 1 (scalar (text t))

pub raw_payloads_are_told_apart : AreToldApart (one_payload kind.Blob) body ([] ∷ map (λ bytes. raw_blob bytes ∷ []) (codes "1" ∷ codes "\"1\"" ∷ (255 ∷ []) ∷ [])) ([] ∷ codes "1" ∷ codes "\"1\"" ∷ (255 ∷ []) ∷ []) × AreToldApart (one_payload kind.String) body ([] ∷ map (λ t. raw_text t ∷ []) (codes "1" ∷ codes "\"1\"" ∷ [])) ([] ∷ codes "1" ∷ codes "\"1\"" ∷ [])
unfolding second_codec_on_literals
raw_payloads_are_told_apart = ((refl, refl, refl, refl), (refl, refl, refl, refl))

-- an empty one, also before another
pub empty_raw_payloads_are_not_told : AreAlike (one_payload kind.Blob) whole [] ((raw_blob [] ∷ []) ∷ (raw_blob [] ∷ raw_blob (codes "x") ∷ []) ∷ []) × AreAlike (one_payload kind.String) whole [] ((raw_text [] ∷ []) ∷ (raw_text [] ∷ raw_text (codes "x") ∷ []) ∷ [])
unfolding second_codec_on_literals
empty_raw_payloads_are_not_told = ((refl, refl, refl), (refl, refl, refl))

-- one key twice
abbrev twice : List (List ℕ × List ℕ)
twice = (codes "k", codes "x") ∷ (codes "k", codes "y") ∷ []

-- a list of one element, written with a time format that its node has not
abbrev in_seconds : Scalar → Value
in_seconds v = list (write (record time_label { time_format = Some EpochSeconds }) (scalar v) no_writes)

-- inputs, each with the one field that it fails
abbrev untyped : List (Schema × List Write × List ℕ)
untyped =
    (bindings, at 0 (255 ∷ []) ∷ at 1 (codes "t") ∷ [], codes "in_range")
    ∷ (bindings, input (at 2 (255 ∷ []) ∷ []), codes "in_range")
    ∷ (bindings, input (at 6 (255 ∷ []) ∷ []), codes "in_range")
    ∷ (one_payload kind.Blob, raw_blob (256 ∷ []) ∷ [], codes "in_range")
    ∷ (one_payload kind.String, raw_text (255 ∷ []) ∷ [], codes "in_range")
    ∷ (bindings, input (to bindings 10 (string_map twice) ∷ []), codes "unbound_shaped")
    ∷ (rooted, root (named (codes "z") (scalar null) ∷ []), codes "payload_shaped")
    ∷ (bindings, input (to bindings 4 (in_seconds (timestamp (pos 0))) ∷ []), codes "placed_values")
    ∷ (bindings, input (to bindings 5 (string_map twice) ∷ []), codes "placed_values")
    ∷ (bindings, input (to bindings 7 (in_seconds (text [])) ∷ []), codes "placed_values")
    ∷ (bindings, input (to bindings 8 (string_map twice) ∷ []), codes "placed_values")
    ∷ (rooted, listed ((codes "k", []) ∷ (codes "k", []) ∷ []), codes "placed_values")
    ∷ (bindings, at 0 (codes "i") ∷ [], codes "defaults")
    ∷ (every_header, to every_header 0 (string_map ((codes "Content-Length", codes "1") ∷ [])) ∷ [], codes "prefixed")
    ∷ (rooted, deep 100, codes "shallow")
    ∷ []

pub one_field_fails : map (λ e. failing e.0 [] e.1) untyped ≡ map (λ e. e.2 ∷ []) untyped
unfolding second_codec_on_literals
one_field_fails = refl

-- The normal form is that of the typed input, and the request is not.
abbrev IsSeenUnlike : Schema → List ℕ → (Request → List ℕ) → List Write × List ℕ → List Write × List ℕ → Type 0
IsSeenUnlike schema name part odd typed =
    (map (failing schema []) (odd.0 ∷ typed.0 ∷ []) ≡ (name ∷ []) ∷ [] ∷ [])
    × (view schema odd.0 ≡ view schema typed.0)
    × (map (sees schema part) (odd.0 ∷ typed.0 ∷ []) ≡ Some odd.1 ∷ Some typed.1 ∷ [])

-- The request is that of the other input, and the normal form is not.
abbrev IsSeenLike : Schema → List ℕ → List ℕ → List Write → List Write → Type 0
IsSeenLike schema name endpoint odd other =
    (failing schema endpoint odd ≡ name ∷ [])
    × (map (view schema) (odd ∷ other ∷ []) ≡ odd ∷ other ∷ [])
    × (place json schema odd endpoint keep_all ≡ place json schema other endpoint keep_all)

pub key_twice_is_seen : IsSeenUnlike bindings (codes "placed_values") (pairs (codes "k" ∷ [])) (input (to bindings 8 (string_map twice) ∷ []), codes "&k=x&k=y") (input (to bindings 8 (string_map ((codes "k", codes "y") ∷ [])) ∷ []), codes "&k=y")
unfolding second_codec_on_literals
key_twice_is_seen = (refl, refl, refl)

pub another_format_is_seen : IsSeenUnlike bindings (codes "placed_values") (lines (codes "x-times" ∷ [])) (input (to bindings 4 (in_seconds (timestamp (pos 0))) ∷ []), codes "x-times: 0\n") (input (to bindings 4 (seconds (0 ∷ [])) ∷ []), codes "x-times: Thu, 01 Jan 1970 00:00:00 GMT\n")
unfolding second_codec_on_literals
another_format_is_seen = (refl, refl, refl)

pub field_of_no_member_is_seen : IsSeenUnlike rooted (codes "payload_shaped") body (root (named (codes "z") (scalar null) ∷ []), codes "{\"z\":null}") (root [], codes "{}")
unfolding second_codec_on_literals
field_of_no_member_is_seen = (refl, refl, refl)

pub entry_is_seen_like_a_default : IsSeenLike every_header (codes "prefixed") [] (to every_header 0 (string_map ((codes "content-type", codes "application/json") ∷ [])) ∷ []) []
unfolding second_codec_on_literals
entry_is_seen_like_a_default = (refl, refl, refl)

-- the hole has no end
pub label_without_a_hole_is_not_seen : IsSeenLike endpoint_label (codes "clear") (codes "/{Bucket") (to endpoint_label 0 (scalar (text (codes "a"))) ∷ []) (to endpoint_label 0 (scalar (text (codes "b"))) ∷ [])
unfolding second_codec_on_literals
label_without_a_hole_is_not_seen = (refl, refl, refl)
