-- What a request has of the maps in its headers and its query (Smithy, HTTP protocol bindings, httpPrefixHeaders, httpQueryParams).
use Rattle.std.specs.Prelude.{ℕ, List, [], ◌∷◌, length, drop, map, Option, Some, None, option_map, option_and_then, if◌then◌else◌}
use Rattle.std.specs.List.{cons_option, list_all}
use Rattle.std.specs.Str.{is_utf8, str_to_ascii_lowercase}
use Rattle.smithy_types.specs.Results.{each}
use Rattle.smithy_types.specs.Texts.{is_one_of}
use Rattle.smithy_ids.specs.declared.shape_type.ShapeType.TheVariants as kind
use Rattle.smithy_http.specs.Facts.{named_piece}
use Rattle.smithy_schema.specs.Nodes.{Schema, element_of, value_of}
use Rattle.smithy_schema.specs.Templates.{Template}
use Rattle.smithy_serde.specs.NormalBody.{in_key_order, map_value}
use Rattle.smithy_serde.specs.Shaped.{is_kind}
use Rattle.smithy_serde.specs.Values as value
use Rattle.smithy_serde.specs.Values.{Value}
use Rattle.smithy_strings.specs.Escapes.{unescaped}
use Rattle.smithy_binding.specs.NormalForm.{unless_empty}
use Rattle.smithy_binding.specs.Typed.{default_names}
use Rattle.smithy_recovery.specs.HeaderParts.{list_value}
use Rattle.smithy_recovery.specs.PathParts.{behind_front}
use Rattle.smithy_recovery.specs.QueryParts.{piece_text, own_query, pieces_named, one_of}

abbrev pub as_text : List ℕ → Value
as_text t = value.scalar (value.text t)

-- what stands behind a prefix in the name of a header, with its value; a default's name is behind none
abbrev pub entry_behind : List ℕ → List ℕ × List ℕ → Option (List ℕ × List ℕ)
entry_behind prefix p = if is_one_of p.0 default_names then None else option_map (λ key. (key, p.1)) (behind_front prefix p.0)

abbrev pub entries_behind : List ℕ → List (List ℕ × List ℕ) → List (List ℕ × List ℕ)
entries_behind prefix [] = []
entries_behind prefix (p ∷ ps) = cons_option (entry_behind prefix p) (entries_behind prefix ps)

-- entries of texts in byte order of the keys, of equal keys the last
abbrev pub text_entries : List (List ℕ × List ℕ) → List (List ℕ × Value)
text_entries es = in_key_order (map (λ e. (e.0, as_text e.1)) es)

-- The map of the headers behind a prefix: nothing of none.
abbrev pub prefix_part : Schema → List ℕ → List (List ℕ × List ℕ) → Option (Option Value)
prefix_part m prefix headers =
    let entries = entries_behind (str_to_ascii_lowercase prefix) headers in
    if list_all (λ (e : List ℕ × List ℕ). is_utf8 e.1) entries then Some (unless_empty (map_value (Some m) (text_entries entries))) else None

-- the one text where a String stands
abbrev pub one_text : List (List ℕ) → Option Value
one_text ts = option_map as_text (one_of ts)

-- else the list of the texts
abbrev pub text_list : Option Schema → List (List ℕ) → Option Value
text_list here ts = option_map (λ e. list_value e (map as_text ts)) (option_and_then element_of here)

-- the value of an entry
abbrev pub entry_value : Option Schema → List (List ℕ) → Option Value
entry_value here ts = if is_kind kind.String here then one_text ts else text_list here ts

-- the entry under the name of pieces, beside query members of these names; nothing of no pieces, and none where they are none's
abbrev pub entry_named : List (List ℕ) → Option Schema → List ℕ → List (List ℕ) → Option (Option (List ℕ × Value))
entry_named names here name [] = Some None
entry_named names here name (piece ∷ more) =
    option_and_then
    (λ key. if is_one_of key names then Some None
    else option_map (λ v. Some (key, v)) (option_and_then (entry_value here) (each piece_text (piece ∷ more))))
    (unescaped name)

-- what a query has under a name behind a template's own pieces of that name, which stand first
abbrev pub query_entry : Template → List (List ℕ) → Option Schema → List (List ℕ) → List ℕ → Option (Option (List ℕ × Value))
query_entry t names here ps name =
    entry_named names here name (drop (length (pieces_named name (own_query t))) (pieces_named name ps))

abbrev pub query_entries : Template → List (List ℕ) → Option Schema → List (List ℕ) → List (List ℕ) → Option (List (List ℕ × Value))
query_entries t names here ps [] = Some []
query_entries t names here ps (piece ∷ pieces) =
    option_and_then (λ e. option_map (cons_option e) (query_entries t names here ps pieces)) (query_entry t names here ps (named_piece piece).0)

-- The map of the texts under the names of the query that are no query member's: nothing of none.
abbrev pub query_map_part : Template → List (List ℕ) → Schema → List (List ℕ) → Option (Option Value)
query_map_part t names m ps = option_map (λ es. unless_empty (map_value (Some m) (in_key_order es))) (query_entries t names (value_of m) ps ps)
