-- The names that this crate's proofs cite, from one place.
pub use Rattle.base64.specs.Engines.{standard}
pub use Rattle.smithy_binding.proofs.CheckedOutputLaws.{IsCheckedOutput-from_test, code_kinds}
pub use Rattle.smithy_binding.proofs.Directions.{at-in, cited-in, map_fault-in, member-in, position-in}
pub use Rattle.smithy_binding.specs.Checked.{has_prefix_kind, is_element_plain}
pub use Rattle.smithy_binding.specs.CheckedOutput.{IsCheckedOutput, checked_output, has_code_kind, has_plain_header_elements, has_response_body_member, is_response_bound_once, response_payload_kind}
unfoldable pub use Rattle.smithy_binding.specs.Messages.{message_fault, message_headers}
pub use Rattle.smithy_binding.specs.Outputs.{as_output, keep_defaults}
unfoldable pub use Rattle.smithy_binding.specs.Outputs.{placed_output}
pub use Rattle.smithy_binding.specs.ResponseCodes.{code_write, is_label, no_status, output_bound_fault, status_fault, status_value}
unfoldable pub use Rattle.smithy_binding.specs.ResponseCodes.{written_code}
pub use Rattle.smithy_binding.specs.declared.body_form.BodyForm.{BodyForm}
pub use Rattle.smithy_document.proofs.ShapedReads.{reads_normal_form, reads_normal_structure}
pub use Rattle.smithy_http.specs.HeaderValues.{tokens_of}
unfoldable pub use Rattle.smithy_http.specs.HeaderValues.{one_text_of}
pub use Rattle.smithy_http.specs.Quoting.{begins_with_white_space, ends_with_white_space, is_delimiter, needs_quotes, quoted}
pub use Rattle.smithy_http.specs.Responses.{Response}
pub use Rattle.smithy_http.specs.declared.error.HttpError.{HttpError}
pub use Rattle.smithy_http.specs.declared.non_utf8.NonUtf8HeaderHandling.{NonUtf8HeaderHandling}
pub use Rattle.smithy_recovery.proofs.Joining.{indexed, list_of-writes_of}
pub use Rattle.smithy_recovery.proofs.Merging.{AreIndexed, writes}
pub use Rattle.smithy_response.proofs.Turns.{source_unbound}
pub use Rattle.smithy_response.specs.Handed.{Ended, body_part, has_payload, has_unbound, is_unbound, nothing, only_unbound, routed, with_route}
unfoldable pub use Rattle.smithy_response.specs.Handed.{handed}
pub use Rattle.smithy_response.specs.PrefixedHeaders.{behind_lower, entry_of, keys_behind_lower, prefixed_in, values_named, with_key, with_new}
pub use Rattle.smithy_response.specs.Routes.{Route, Source, are_empty, body_route, handed_body, handed_out, has_nothing, header_route, in_body, in_header, in_payload, in_prefix, in_status, is_plain_text, is_raw, passed_over, payload_route, refused, route, route_at, source_at, source_of}
pub use Rattle.smithy_schema.specs.Nodes.{Traits, bare_node, is_response_bound, no_traits, position_of_name, to_body}
pub use Rattle.smithy_serde.specs.Fits.{fits_in_range}
pub use Rattle.smithy_serde.specs.HeaderReads.{decoded_text, header_format, item_of_text, no_value, one_of, one_token, or_parse_refusal, scalar_of_element, scalar_of_header, text_of_header, time_of_header}
pub use Rattle.smithy_serde.specs.Held.{is_empty_text, Prefixed}
pub use Rattle.smithy_serde.specs.HeldReads.{known}
unfoldable pub use Rattle.smithy_serde.specs.HeldReads.{elements, entries, fields, read_scalar}
pub use Rattle.smithy_serde.specs.IndexOrder.{in_order, position_of, put_by}
pub use Rattle.smithy_serde.specs.Listings.{Slot, at_member, contents, listing_of}
pub use Rattle.smithy_serde.specs.Ranges.{is_in_width, is_scalar_in_range}
pub use Rattle.smithy_serde.specs.Shaped.{is_shaped}
pub use Rattle.smithy_serde.specs.ValueRead.{all_read, entry_by, joined, list_by, map_by, value_by_kind, value_of_structure, value_within, write_by}
unfoldable pub use Rattle.smithy_serde.specs.ValueRead.{value_read}
pub use Rattle.smithy_serde.specs.Values.{Width, blob, byte, integer, list, long, scalar, short, text}
pub use Rattle.smithy_serde.specs.Writes.{unbound}
pub use Rattle.smithy_serde.specs.declared.error.SerdeError.{SerdeError}
pub use Rattle.smithy_serve.specs.Answer.{answer_fault, response_at}
unfoldable pub use Rattle.smithy_serve.specs.Answer.{answer_response}
pub use Rattle.smithy_served.specs.AnswerView.{bound_view, first_value, header_values, header_view, member_view, payload_view, prefix_view}
unfoldable pub use Rattle.smithy_served.specs.AnswerView.{answer_view}
pub use Rattle.smithy_served.specs.Laws.{AreReadAs, AreReadBackBeside, HandsOut, IsAnswered, IsReadAs, IsSame, OutputsAreReadBack, with_body}
pub use Rattle.smithy_served.specs.TypedOutputs.{IsTypedOutput, begins_no_default, bodied, has_code, is_shaped_payload, is_trimmed, is_typed_at, is_typed_header, writes_defaults}
pub use Rattle.smithy_strings.proofs.ReadBack.{tokens-listed}
pub use Rattle.smithy_strings.proofs.TimeLists.{times_are_read}
unfoldable pub use Rattle.smithy_strings.specs.Lists.{listed}
pub use Rattle.smithy_strings.specs.Unwired.{is_wire_of, spelled_wire, text_of_bytes, text_of_wire}
unfoldable pub use Rattle.smithy_strings.specs.Unwired.{unwired}
pub use Rattle.smithy_strings.specs.Wire.{scalar_wire}
pub use Rattle.smithy_types.specs.BigNumbers.{has_narrow_coefficient, is_big_decimal, is_digit, is_signed_digits}
pub use Rattle.smithy_types.specs.Grammars.{is_token}
pub use Rattle.smithy_unambiguity.proofs.Common.{AllByRecursion, Binding, Bool, Document, Err, Fault, Header, Held, IsLawfulText, IsTrue, Label, List, Node, None, Ok, Option, Protocol, Resolved, Result, Scalar, Schema, ShapeType, Some, Table, TimestampFormat, Value, Write, Writes, [], agree_below, agree_below_at, all_resolved, and_from, and_parts, ap, are_distinct, are_in_range, arith, at_place, base64, behind, binding_at, binding_of, body, body_fault, body_parts, bound_fault, bytes_by, codes, cond, cons_option, default_names, doc_of, document_value, drop, each, element_of, element_text, entries_of, entry_writes, enumerate_from, eq-eqb, eqb-true, false, false_from_ne_true, field_of, filter, filter_map, find, first, firsts, fits, flat_map, form_at, form_in, has_at_most_one, has_distinct_keys, has_element, has_header_kind, has_own_formats, has_sound_headers, has_unbound_member, headers, if◌then◌else◌, in_key_order, in_lower_case, inl, inr, inserted_at, is_bound, is_codec_kind, is_header_kind, is_in_range, is_none, is_null, is_of, is_one_of, is_outside_body, is_payload, is_placed_at, is_plain_string, is_raw_kind, is_shallow, is_shaped_write, is_some, is_sound_payload, is_text_map, is_utf8, is_well_made, item_fault, key_fault, key_of, kind_or_none, label_of, last_of, last_or, leb-true, length, list_all, list_all-append, list_any, list_of, list_of_members, map, map-append, map_entries, member-passes, member_at, member_text, members_of, members_with, nat_eq, nat_le, nat_lt, negsuc, no_writes, not, no_year, one_kind, then_some, option_and_then, option_map, option_map_or, option_or, option_to_list, or_right, own_entries, pairs_fault, payload_kind, place_at, pos, position_in, prefixes, raw_bytes, refl, resolve, resolved, same_format, same_kind, same_text, scalar_kind, settled, settled_elements, slice_get, starts_with, str_to_ascii_lowercase, subst, suc, sym, take, text_of_document, text_of_key, texts, then_give, then_try, to_header, to_label, to_payload, to_prefix, true, unless, unless_empty, unwrap_or, value_fault, value_of, values_at, wire, with_own_elements, write, writes_default, writes_fault_by, writes_of, zero, ℕ, ℤ, ◌&&◌, ◌++◌, ◌+◌, ◌==◌, text_form, ◌||◌, ◌∙◌, ◌∷◌, ◌≡◌, ◌≢◌, ◌≤◌, ◌⊎◌, both_ways}
pub use Rattle.smithy_unambiguity.proofs.Conforming.{IsFittingWrite, first_unfaulted, fitting_by, no_first, resolved_at}
pub use Rattle.smithy_unambiguity.proofs.Defaults.{all_headers_at, leaves-elsewhere}
pub use Rattle.smithy_unambiguity.proofs.Fits.{is_flat, taken}
pub use Rattle.smithy_unambiguity.proofs.HeaderNames.{headers_apart, starts-self}
pub use Rattle.smithy_unambiguity.proofs.Headers.{given, headers_of_member, map_pairs}
pub use Rattle.smithy_unambiguity.proofs.LastTexts.{last_at, last_value, lowered, values_all}
pub use Rattle.smithy_unambiguity.proofs.Lists.{all_apply, all_from_test, all_made, all_placed, any_get, by_positions}
pub use Rattle.smithy_unambiguity.proofs.Members.{member_in_place, IsMemberInPlace}
pub use Rattle.smithy_unambiguity.proofs.PayloadTold.{HasOwnText, blob_form, body_bytes, codec_form, data_kind, document_value_is, own_bytes, own_text, payload_form, payload_is_data, payload_value}
pub use Rattle.smithy_unambiguity.proofs.Placed.{IsPlacedValue, bound_fits, first_found, first_has, fitting_first, placed_of}
pub use Rattle.smithy_unambiguity.proofs.Positions.{HasOwnNames, IsSoundMessage, at_name, members_by_position}
pub use Rattle.smithy_unambiguity.proofs.Singles.{find_same, single}
pub use Rattle.smithy_unambiguity.proofs.Traits.{trait_of}
pub use Rattle.smithy_unambiguity.proofs.Values.{AreItems, HaveFormat, each_first, flat_own, flat_value, is_flat_value, one_format_or_none}
pub use Rattle.std.proofs.Common.{get_or, replicate}
pub use Rattle.std.proofs.lemmas.List.{length-map, take-append-drop}
pub use Rattle.std.proofs.lemmas.List.Sums.{list_all-from_AllPass}
pub use Rattle.std.proofs.lemmas.Option.{slice_get-map}
pub use Rattle.std.proofs.lemmas.Str.{IsUtf8-from_ascii, IsUtf8-from_is_utf8, chars-IsAscii, utf8_lossy-IsUtf8}
pub use Rattle.std.specs.Int.{from_bool}
pub use Rattle.std.specs.List.{range_with_len}
pub use Rattle.std.specs.Option.{ok_or}
pub use Rattle.std.specs.Prelude.{IfSome}
pub use Rattle.std.specs.Str.{chars, trim, IsAscii}
