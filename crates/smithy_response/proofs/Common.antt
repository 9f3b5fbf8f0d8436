-- The names that this crate's proofs cite, from one place.
pub use Rattle.smithy_http.specs.Responses.{Response}
pub use Rattle.smithy_http.specs.declared.non_utf8.NonUtf8HeaderHandling.{NonUtf8HeaderHandling}
pub use Rattle.smithy_response.specs.Handed.{Ended, before_rest, body_part, handed_items, has_payload, has_unbound, is_unbound, nothing}
unfoldable pub use Rattle.smithy_response.specs.Handed.{handed}
pub use Rattle.smithy_response.specs.Handed.{only_unbound, reads_body, routed, with_route}
pub use Rattle.smithy_response.specs.PrefixedHeaders.{behind_lower, entry_of, keys_behind, keys_behind_lower, prefixed_in, values_named}
pub use Rattle.smithy_response.specs.PrefixedHeaders.{with_key, with_new}
pub use Rattle.smithy_response.specs.Routes.{Route, Source, are_empty, handed_body, handed_out, header_route, in_body, in_header}
pub use Rattle.smithy_response.specs.Routes.{in_payload, in_prefix, in_status, is_plain_text, passed_over, refused, route, route_at}
pub use Rattle.smithy_response.specs.Routes.{source_at, source_of}
pub use Rattle.smithy_response.specs.Settling.{has_unreadable, settled, settled_at, unreadable_behind_lower}
pub use Rattle.smithy_response.specs.declared.parts.BoundMember.{BoundMember}
pub use Rattle.smithy_response.specs.declared.parts.OpenList.{OpenList}
pub use Rattle.smithy_response.specs.declared.transport.Transport.{Transport}
pub use Rattle.smithy_response.specs.views.Frames.{at_body, at_bound, at_payload, at_structure, at_top, body_frame, body_frames, body_left}
pub use Rattle.smithy_response.specs.views.Frames.{body_size, handed_from, levels_under, plain, plain_contents, plainly, resettled}
pub use Rattle.smithy_response.specs.views.Frames.{still_handed, structure_at, structure_frame, top_listing, top_size, unbound_frame}
pub use Rattle.smithy_response.specs.views.Frames.{unbound_items, untold, without_copies}
pub use Rattle.smithy_response.specs.views.Transporting.{HandsBody, HandsMember, HandsNoMember, IsLeft, IsSameResponse, IsSameTurn, IsTaken}
pub use Rattle.smithy_response.specs.views.Transporting.{IsTakenAt, RefusesMember, TakesAt, element_at, elements_left, entries_left}
pub use Rattle.smithy_response.specs.views.Transporting.{header_at_hand, header_of, header_reader, items_of, levels_at, member_at_hand}
pub use Rattle.smithy_response.specs.views.Transporting.{member_settled, members_from, places_left, prefix_at_hand, still_routed}
pub use Rattle.smithy_response.specs.views.Transporting.{told_frame, told_reader, transport_at_hand, transport_settled}
pub use Rattle.smithy_schema.specs.Nodes.{Schema, Table, at_place, is_response_bound, member_at, member_named, members_of, name_of}
pub use Rattle.smithy_schema.specs.Nodes.{position_of_name}
pub use Rattle.smithy_schema.specs.References.{schema_of}
pub use Rattle.smithy_schema.specs.declared.schema_ref.SchemaRef.{SchemaRef}
pub use Rattle.smithy_serde.specs.Handing.{AllHanded, HandsOut, at_members, settled_by}
pub use Rattle.smithy_serde.specs.HeaderReads.{decoded_text, elements_of_header, scalar_of_date, scalar_of_element}
pub use Rattle.smithy_serde.specs.Held.{Answer, Held, IsAnswer, Prefixed, is_null_held, levels_of, walked}
pub use Rattle.smithy_serde.specs.HeldReads.{element_refusal, known, opening_refusal, prefix_refusal, raw_refusal, status_refusal}
unfoldable pub use Rattle.smithy_serde.specs.HeldReads.{elements, entries, fields, read_scalar}
pub use Rattle.smithy_serde.specs.Listings.{Listing, Slot, all_of, as_it_is, asked, at_element, at_key, at_member, contents, contents_at}
pub use Rattle.smithy_serde.specs.Listings.{listing_of, none_but}
pub use Rattle.smithy_serde.specs.MembersRead.{ArePlaced, PassesMemory, ReadsListed, structure_in, structure_listed, values_in, with_answer}
unfoldable pub use Rattle.smithy_serde.specs.MembersRead.{values_of_listing}
pub use Rattle.smithy_serde.specs.MembersRead.{with_value}
pub use Rattle.smithy_serde.specs.ReadCalls.{Advanced, Answered, AtHand, Closed, Frame, Gives, Halted, Hands, Hidden, IsIn, IsRefused}
pub use Rattle.smithy_serde.specs.ReadCalls.{IsRefusedAt, MemberAdvanced, NextElement, NextEntry, NextMember, NotOpened, Opened, OpensAt}
pub use Rattle.smithy_serde.specs.ReadCalls.{Reads, SettlesBy, TellsNull, read_at, scalar_of_read, type_of}
pub use Rattle.smithy_serde.specs.Refusals.{IsRefusal}
pub use Rattle.smithy_serde.specs.Values.{Scalar, Value, Write, structure, writes_of}
pub use Rattle.smithy_serde.specs.declared.error.SerdeError.{SerdeError}
pub use Rattle.smithy_serde.specs.declared.error.SerdeError.TheVariants.{InvalidInput, OutOfMemory}
pub use Rattle.smithy_serde.specs.declared.scalar.Group.{Group}
pub use Rattle.smithy_types.specs.Documents.{Document, Members, list_of_members}
pub use Rattle.std.proofs.Common.{Bool, Err, IfOk, IfSome, List, MatchOption, None, Ok, Option, Result, Some, [], add-one, ap, arith, codes}
pub use Rattle.std.proofs.Common.{cond, drop, false, filter, filter_map, flat_map, if◌then◌else◌, inl, inr, is_some, length, map, not}
pub use Rattle.std.proofs.Common.{option_map, refl, rules, subst, suc, sym, true, zero, ℕ, ℤ, ◌&&◌, ◌++◌, ◌+◌, ◌-◌, ◌<◌, ◌||◌, ◌∙◌, ◌∷◌}
pub use Rattle.std.proofs.Common.{◌≡◌, ◌≢◌, ◌≤◌}
pub use Rattle.std.proofs.lemmas.Result.{err_from_is_err_and}
pub use Rattle.std.specs.List.{cons_option, list_any, starts_with}
pub use Rattle.std.specs.Option.{option_copied, option_map_or}
pub use Rattle.std.specs.Prelude.{MatchResult, nat_eq, option_and_then, slice_get}
pub use Rattle.std.specs.Str.{IsCharBoundary, IsUtf8, bytes_eq, is_utf8, str_to_ascii_lowercase}
