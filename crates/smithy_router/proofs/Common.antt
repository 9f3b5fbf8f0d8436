-- The names that this crate's proofs cite, from one place.
pub use Rattle.smithy_http.specs.Facts.{is_question_mark, query_pieces}
pub use Rattle.smithy_router.specs.Adding.{AddsRoute, AddsTemplate, ConflictsFirst, IsConflict, TellsConflict, with_last}
pub use Rattle.smithy_router.specs.Deciding.{beats, conflicts, covers, end_meets, meets_greedy, overlaps, path_covers, paths_meet}
pub use Rattle.smithy_router.specs.Deciding.{paths_stand, segment_covers, segments_meet}
pub use Rattle.smithy_router.specs.Gives.{Gives}
pub use Rattle.smithy_router.specs.Laws.{BestIsOne, SomeIsBest, TestsDecide}
pub use Rattle.smithy_router.specs.QueryPieces.{first_named, fits_query, is_same_piece, name_of}
unfoldable pub use Rattle.smithy_router.specs.QueryPieces.{keeps_first}
pub use Rattle.smithy_router.specs.Ranking.{Beats, Conflicts, Covers, Escapes, Overlaps}
pub use Rattle.smithy_router.specs.Routes.{HasNo, IsPath, IsRoute, IsSegment, Route, fits_target, matches}
pub use Rattle.smithy_router.specs.Search.{best_among, best_of, better_of}
pub use Rattle.smithy_router.specs.Seen.{CutsAt, CutsTarget, EntryAdded, best_seen, entry_seen, in_a_row, part_seen, parts_left, query_seen}
pub use Rattle.smithy_router.specs.Seen.{route_seen, segment_seen, text_seen}
pub use Rattle.smithy_router.specs.Segments.{Hole, Literal, Segment, fits_end, fits_greedy, fits_path, fits_segment, segments_of}
pub use Rattle.smithy_router.specs.Tables.{AreApart, Entry, IsApartFrom, IsBest, IsBestOf, NoneMatches, better, preferred}
pub use Rattle.smithy_router.specs.Templates.{Bound, Fixed, Part, are_sound, before_close, bound_part, filled_path, has_greedy}
pub use Rattle.smithy_router.specs.Templates.{inside_braces, is_named, is_sound, part_of, path_parts, query_of, route_with, segments_in}
pub use Rattle.smithy_router.specs.Templates.{sound_parts}
unfoldable pub use Rattle.smithy_router.specs.Templates.{routable_parts, route_of}
pub use Rattle.smithy_router.specs.Tree.{EndsAt, Grows, HasChild, HasChildAt, HasEnd, IsAs, IsBehind, IsIndexed, IsLeaf, IsSound, IsWithin}
pub use Rattle.smithy_router.specs.Tree.{Leads, child_at, child_of, ends_at, ends_behind, ends_of, entries_of, first_segments, goes_on}
pub use Rattle.smithy_router.specs.Tree.{has_more, led_to, way_of}
pub use Rattle.smithy_router.specs.declared.error.RouteError.{RouteError}
pub use Rattle.smithy_router.specs.declared.node.Node.{Node}
pub use Rattle.smithy_schema.specs.Templates.{hole_of}
pub use Rattle.smithy_types.specs.Results.{each}
pub use Rattle.smithy_types.specs.Texts.{has_byte, same_text}
pub use Rattle.std.proofs.Common.{All, Bool, Err, IfOk, IsTrue, List, MatchOption, None, Ok, OnErr, OnOk, Option, Result, Some, String, []}
pub use Rattle.std.proofs.Common.{ap, arith, codes, cond, drop, eq-eqb, false, find, get_or, if◌then◌else◌, inl, inr, length, lit<, map}
pub use Rattle.std.proofs.Common.{nat_eq, ne_eqb, not, option_and_then, option_map, refl, rules, slice_get, subst, suc, sym, take, true, ℕ}
pub use Rattle.std.proofs.Common.{◌&&◌, ◌++◌, ◌+◌, ◌-◌, ◌<◌, ◌==◌, ◌||◌, ◌∙◌, ◌∷◌, ◌≡◌, ◌≢◌, ◌≤◌, ◌⊎◌}
pub use Rattle.std.proofs.lemmas.Bool.{and_from, and_left, and_parts, and_right, eqb-true}
pub use Rattle.std.proofs.lemmas.List.{append-nil, append_assoc, drop_more, length-append, length-map, length-set, length-take-le}
pub use Rattle.std.proofs.lemmas.List.{take-append-drop}
pub use Rattle.std.proofs.lemmas.List.Elements.{All-from_recursion, Contains-append_left, Contains-append_right, Contains-push}
pub use Rattle.std.proofs.lemmas.List.Splits.{slice_split_at, slice_split_first, slice_split_none}
pub use Rattle.std.proofs.lemmas.Option.{slice_get-map, slice_get_read, slice_get_within}
pub use Rattle.std.proofs.lemmas.Str.Pattern.{IsSplitOnceResult, split_once_first, strip_suffix_char}
pub use Rattle.std.specs.Borrow.{Bor}
pub use Rattle.std.specs.List.{AllByRecursion, Contains, after_first, before_first, ends_with, join_with_byte, list_all, list_any}
pub use Rattle.std.specs.List.{onto_first, position_or_len, range_with_len, slice_set, slice_split, starts_with}
pub use Rattle.std.specs.Option.{option_map_or}
pub use Rattle.std.specs.Prelude.{string_bytes}
