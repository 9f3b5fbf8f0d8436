-- The route of a template (Smithy, HTTP protocol bindings, http trait, uri).
use Rattle.std.specs.Prelude.{ℕ, ◌-◌, nat_eq, Bool, true, false, not, ◌&&◌, ◌||◌, ◌==◌, codes, List, [], ◌∷◌, ◌++◌, length, take, Option, Some, None, option_and_then, option_map, if◌then◌else◌}
use Rattle.std.specs.List.{slice_split, starts_with, ends_with, before_first, after_first, list_any}
use Rattle.smithy_types.specs.Texts.{has_byte, same_text}
use Rattle.smithy_types.specs.Grammars.{is_legal_target}
use Rattle.smithy_types.specs.Results.{each}
use Rattle.smithy_schema.specs.Templates.{Hole, hole_of}
use Rattle.smithy_http.specs.Facts.{is_question_mark, query_pieces}
use Rattle.smithy_router.specs.Segments.{Segment, Literal, Hole as AnyText, segments_of}
use Rattle.smithy_router.specs.Deciding.{is_some_text}
use Rattle.smithy_router.specs.Routes.{Route}

-- a segment of a template: a literal or a hole, which is the whole segment
pub data Part : Type 0 where
  Fixed : List ℕ → Part
  Bound : Hole → Part

-- what stands before a `}` at the end
abbrev pub before_close : List ℕ → Option (List ℕ)
before_close text = if ends_with nat_eq text (codes "}") then Some (take (length text - 1) text) else None

-- what stands between a `{` at the start and a `}` at the end
abbrev pub inside_braces : List ℕ → Option (List ℕ)
inside_braces [] = None
inside_braces (b ∷ text) = if b == 123 then before_close text else None

-- the hole of this name, which no `}` ends earlier
abbrev pub bound_part : Option (List ℕ) → Option Part
bound_part None = None
bound_part (Some name) = if has_byte 125 name then None else Some (Bound (hole_of name))

-- a segment without a `{` is a literal, one with braces at both ends a hole, and others are none
abbrev pub part_of : List ℕ → Option Part
part_of segment = if has_byte 123 segment then bound_part (inside_braces segment) else Some (Fixed segment)

-- the part is a hole of this name
abbrev pub is_named : List ℕ → Part → Bool
is_named name (Fixed text) = false
is_named name (Bound hole) = same_text name hole.name

-- the part is a greedy hole
abbrev pub is_greedy_hole : Part → Bool
is_greedy_hole (Fixed text) = false
is_greedy_hole (Bound hole) = hole.greedy

-- no part
abbrev pub is_last : List Part → Bool
is_last [] = true
is_last (p ∷ ps) = false

-- a hole has a name, which no hole behind it has, and nothing stands behind a greedy one
abbrev pub is_sound_part : Part → List Part → Bool
is_sound_part (Fixed text) behind = true
is_sound_part (Bound hole) behind =
    is_some_text hole.name
    && not (list_any (is_named hole.name) behind)
    && (not hole.greedy || is_last behind)

-- each part is sound before those behind it
abbrev pub are_sound : List Part → Bool
are_sound [] = true
are_sound (p ∷ ps) = is_sound_part p ps && are_sound ps

-- the part with `a` in a hole
abbrev pub filled_part : Part → List ℕ
filled_part (Fixed text) = text
filled_part (Bound hole) = codes "a"

-- the parts, each behind a `/`, with `a` in each hole
abbrev pub filled_path : List Part → List ℕ
filled_path [] = []
filled_path (p ∷ ps) = codes "/" ++ filled_part p ++ filled_path ps

-- nothing where the template has no `?`, and else the `?` and what stands behind it
abbrev pub query_of : List ℕ → List ℕ
query_of template = if has_byte 63 template then codes "?" ++ after_first is_question_mark template else []

-- no hole stands in the query, the parts are sound, and with `a` in each hole it is a legal target
abbrev pub is_sound : List Part → List ℕ → Bool
is_sound ps query = not (has_byte 123 query) && are_sound ps && is_legal_target (filled_path ps ++ query)

-- the parts before this query, where they are sound
abbrev pub sound_parts : List ℕ → List Part → Option (List Part)
sound_parts query ps = if is_sound ps query then Some ps else None

-- the parts of a path behind its first `/`, where each segment is one
abbrev pub parts_of : List ℕ → Option (List Part)
parts_of path = each part_of (slice_split (λ b. b == 47) path)

-- those of them that are sound before this query
abbrev pub sound_parts_of : List ℕ → List ℕ → Option (List Part)
sound_parts_of query path = option_and_then (sound_parts query) (parts_of path)

-- the parts of the path, where each segment is one
abbrev pub path_parts : List ℕ → Option (List Part)
path_parts template = each part_of (segments_of (before_first is_question_mark template))

-- the parts of a routable template, which starts with `/`
unfoldable pub routable_parts : List ℕ → Option (List Part)
routable_parts template =
    if starts_with nat_eq template (codes "/")
    then option_and_then (sound_parts (query_of template)) (path_parts template)
    else None

-- the segments before a greedy end
abbrev pub segments_in : List Part → List Segment
segments_in [] = []
segments_in (Fixed text ∷ ps) = Literal text ∷ segments_in ps
segments_in (Bound hole ∷ ps) = if hole.greedy then segments_in ps else (AnyText ∷ segments_in ps)

-- some part is a greedy hole
abbrev pub has_greedy : List Part → Bool
has_greedy ps = list_any is_greedy_hole ps

-- the route of these parts and the pieces of this query
abbrev pub route_with : List ℕ → List (List ℕ) → List Part → Route
route_with method pieces ps =
    record { method = method; segments = segments_in ps; is_greedy = has_greedy ps; query = pieces }

-- the route of a template that is routable
unfoldable pub route_of : List ℕ → List ℕ → Option Route
route_of method template = option_map (route_with method (query_pieces template)) (routable_parts template)
