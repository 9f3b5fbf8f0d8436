-- What the stored routes and the parts of a template are.
use Rattle.std.specs.Prelude.{◌≡◌, ℕ, ◌==◌, Bool, true, false, List, [], ◌∷◌, ◌++◌, map, String, string_bytes, Option, Some, None, MatchOption, option_map}
use Rattle.std.specs.Global.{Global}
use Rattle.std.specs.Borrow.{Bor}
use Rattle.std.specs.List.{slice_split, before_first, after_first}
use Rattle.smithy_types.specs.Texts.{has_byte}
use Rattle.smithy_schema.specs.Templates.{hole_of}
use Rattle.smithy_router.specs.Segments.{Segment, Literal, Hole}
use Rattle.smithy_router.specs.Routes.{Route}
use Rattle.smithy_router.specs.Deciding.{paths_stand}
use Rattle.smithy_router.specs.Tables.{Entry}
use Rattle.smithy_router.specs.Adding.{with_last}
use Rattle.smithy_router.specs.Templates.{Part, Fixed, Bound, segments_in, route_with}
use Rattle.smithy_router.specs.declared.segment.Relation.{Relation}
use Rattle.smithy_router.specs.declared.segment.PathSegment.{PathSegment}
use Rattle.smithy_router.specs.declared.segment.PathSegment.TheVariants as stored
use Rattle.smithy_router.specs.declared.route.StoredRoute.{StoredRoute}
use Rattle.smithy_router.specs.declared.route.StoredEntry.{StoredEntry}
use Rattle.smithy_router.specs.declared.template.TemplatePart.{TemplatePart}
use Rattle.smithy_router.specs.declared.template.TemplatePart.TheVariants as cut

abbrev pub segment_seen : PathSegment → Segment
segment_seen (stored.Literal text) = Literal (string_bytes text)
segment_seen stored.Hole = Hole

abbrev pub segments_seen : List PathSegment → List Segment
segments_seen segments = map segment_seen segments

-- one path stands so to another
abbrev pub stored_paths_stand : Relation → Bool → List PathSegment → Bool → List PathSegment → Bool
stored_paths_stand relation g ps h qs = paths_stand relation g (segments_seen ps) h (segments_seen qs)

abbrev pub route_seen : StoredRoute → Route
route_seen r =
    record {
      method = string_bytes r.method;
      segments = map segment_seen r.segments.items;
      is_greedy = r.is_greedy;
      query = map string_bytes r.query.items;
    }

abbrev pub entry_seen : StoredEntry → Entry
entry_seen e = record { route = route_seen e.route; operation = string_bytes e.operation }

-- the list with the entry of a route as its last one
abbrev pub EntryAdded : List StoredEntry → Route → List ℕ → List StoredEntry → Type 0
EntryAdded old route operation new = map entry_seen new ≡ with_last (map entry_seen old) route operation

abbrev pub best_seen : Option (Bor StoredEntry) → Option Entry
best_seen best = option_map (λ e. entry_seen e.now) best

-- a text, or none
abbrev pub text_seen : Option (Bor (List ℕ)) → Option (List ℕ)
text_seen text = option_map (λ t. t.now) text

-- the parts of a text that is left, cut at the byte, or none
abbrev pub parts_left : ℕ → Option (Bor (List ℕ)) → List (List ℕ)
parts_left c None = []
parts_left c (Some text) = slice_split (λ b. b == c) text.now

-- a text that is cut behind its first part, or the one part of it
abbrev pub CutsAt : ℕ → List ℕ → Option (Bor (List ℕ) × Bor (List ℕ)) → Type 0
CutsAt c text cut =
    MatchOption cut (slice_split (λ b. b == c) text ≡ text ∷ [])
    (λ x. slice_split (λ b. b == c) text ≡ x.0.now ∷ slice_split (λ b. b == c) x.1.now)

-- the first part of a text that is left, and what is left behind it; none where no text is left
abbrev pub TakesPart : ℕ → Option (Bor (List ℕ)) → Option (Bor (List ℕ) × Option (Bor (List ℕ))) → Type 0
TakesPart c rest taken =
    MatchOption taken (parts_left c rest ≡ []) (λ x. parts_left c rest ≡ x.0.now ∷ parts_left c x.1)

-- a target that is cut at its first `?`, or has none
abbrev pub CutsTarget : List ℕ → Option (Bor (List ℕ) × Bor (List ℕ)) → Type 0
CutsTarget target cut =
    MatchOption cut ((has_byte 63 target ≡ false) × (before_first (λ b. b == 63) target ≡ target))
    (λ x. (has_byte 63 target ≡ true) × (x.0.now ≡ before_first (λ b. b == 63) target) × (x.1.now ≡ after_first (λ b. b == 63) target))

-- a query with its `?`, or nothing
abbrev pub query_seen : Option (Bor (List ℕ)) → List ℕ
query_seen None = []
query_seen (Some query) = 63 ∷ query.now

-- the pieces and then the others
unfoldable pub in_a_row : List (String Global) → List (String Global) → List (List ℕ)
in_a_row pieces others = map string_bytes pieces ++ map string_bytes others

abbrev pub part_seen : TemplatePart → Part
part_seen (cut.Fixed text) = Fixed text.now
part_seen (cut.Bound name is_greedy) = Bound (record { name = name.now; greedy = is_greedy })

abbrev pub parts_seen : List TemplatePart → List Part
parts_seen parts = map part_seen parts

-- the name of a greedy hole, or none of one that isn't greedy
abbrev pub IsGreedyName : List ℕ → Option (Bor (List ℕ)) → Type 0
IsGreedyName hole name =
    MatchOption name (hole_of hole ≡ record { name = hole; greedy = false })
    (λ x. hole_of hole ≡ record { name = x.now; greedy = true })

-- the segments and that of a part, if it has one
abbrev pub with_part : List PathSegment → Part → List Segment
with_part segments part = segments_seen segments ++ segments_in (part ∷ [])

-- the route of these parts and this query
abbrev pub IsRouteWith : List ℕ → Option (Bor (List ℕ)) → List TemplatePart → StoredRoute → Type 0
IsRouteWith method query parts route =
    route_seen route ≡ route_with method (parts_left 38 query) (parts_seen parts)
