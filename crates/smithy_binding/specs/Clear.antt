-- Templates that leave no doubt which text a hole has (Smithy, HTTP protocol bindings, http: the rules of URI patterns).
use Rattle.std.specs.Prelude.{ℕ, nat_eq, Bool, true, not, ◌&&◌, ◌||◌, ◌==◌, codes, List, [], ◌∷◌, ◌++◌, length, drop, map, filter, filter_map}
use Rattle.smithy_binding.specs.Words.{list_all, starts_with, ends_with, concat, same_text, has_byte, is_legal_target, scheme_len, before_query, Schema, members_of, Hole, Piece, Template, pieces, holes_of, has_unclosed_brace}

-- each hole filled by `a`
abbrev pub filled_by_a : Template → List ℕ
filled_by_a template = template.first ++ concat (map (λ p. 97 ∷ p.literal) template.rest)

-- the literal may stand before a hole: it ends a path segment
abbrev pub ends_segment : List ℕ → Bool
ends_segment literal = ends_with nat_eq literal (codes "/") && not (has_byte 63 literal)

-- the literal may stand behind a hole: it begins a path segment or the query, or nothing follows
abbrev pub begins_segment : List ℕ → Bool
begins_segment literal = (length literal == 0) || starts_with nat_eq literal (codes "/") || starts_with nat_eq literal (codes "?")

-- every hole is a whole segment of the path
abbrev pub are_whole_segments : List ℕ → List Piece → Bool
are_whole_segments before [] = true
are_whole_segments before (p ∷ ps) = ends_segment before && begins_segment p.literal && are_whole_segments p.literal ps

-- in absolute form the authority and the `/` behind it stand before the first hole and before any query
abbrev pub has_whole_authority : Template → Bool
has_whole_authority template =
    let stem = before_query template.first in
    (scheme_len stem == 0) || has_byte 47 (drop (scheme_len stem) stem)

-- the members that are labels (httpLabel)
abbrev pub label_members : Schema → List Schema
label_members schema = filter (λ m. m.node.traits.http_label) (members_of schema)

-- the holes with this name
abbrev pub holes_named : List ℕ → Template → List Hole
holes_named name template = filter (λ h. same_text h.name name) (holes_of template)

-- only the last hole may be greedy, so at most one is
abbrev pub is_greedy_last : List Hole → Bool
is_greedy_last [] = true
is_greedy_last (h ∷ hs) = (not h.greedy || (length hs == 0)) && is_greedy_last hs

-- The template is clear for the labels of the schema: no brace is left open, with `a` in its holes it is a legal target, and
-- its holes are whole path segments, one for each label and no other.
unfoldable pub is_clear : List ℕ → Schema → Bool
is_clear text schema =
    let template = pieces text in
    not (has_unclosed_brace text)
    && is_legal_target (filled_by_a template)
    && are_whole_segments template.first template.rest
    && has_whole_authority template
    && (list_all (λ name. length (holes_named name template) == 1) (filter_map (λ m. m.node.member_name) (label_members schema))
    && (length (holes_of template) == length (label_members schema)))
    && is_greedy_last (holes_of template)
