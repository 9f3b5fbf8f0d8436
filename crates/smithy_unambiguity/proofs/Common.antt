-- The names that this crate's proofs cite, from one place.
pub use Rattle.percent_encoding.specs.Percent.{percent_decode}
unfoldable pub use Rattle.percent_encoding.specs.Percent.{percent_encode_byte}
pub use Rattle.smithy_binding.proofs.CheckedLaws.{IsCheckedInput-from_test}
pub use Rattle.smithy_binding.proofs.ClearLemmas.{list_all-same}
pub use Rattle.smithy_binding.proofs.DistinctNames.{same_text-sym}
pub use Rattle.smithy_binding.proofs.Gathers.{resolve-resolved, seen_next}
pub use Rattle.smithy_binding.proofs.Tests.{AreDistinct-from_test, are_distinct-from_facts, same_text_back, same_text_self}
pub use Rattle.smithy_binding.proofs.WriteSteps.{member-passes}
pub use Rattle.smithy_binding.specs.Answer.{place, request_at}
unfoldable pub use Rattle.smithy_binding.specs.Answer.{answer}
pub use Rattle.smithy_binding.specs.Bindings.{entries_of, entry_texts, header_texts, inserted, inserted_at, kind_or_none, labelled_at}
unfoldable pub use Rattle.smithy_binding.specs.Bindings.{headers, labels, pairs}
pub use Rattle.smithy_binding.specs.Bindings.{map_entries, pairs_at, pairs_with, place_at, query_names, texts}
pub use Rattle.smithy_binding.specs.Bodies.{Body, body_parts, bytes_by, document_by, form_at, form_in, has_unbound_member, is_codec_kind}
unfoldable pub use Rattle.smithy_binding.specs.Bodies.{body, document_value}
pub use Rattle.smithy_binding.specs.Bodies.{is_payload, is_raw_kind, payload_kind, raw_bytes, text_of_document}
pub use Rattle.smithy_binding.specs.Checked.{IsCheckedInput, checked_input, has_cited_nodes, has_at_most_one, has_bound_kind, has_element, has_header_kind}
pub use Rattle.smithy_binding.specs.Checked.{has_label_kind, has_query_kind, has_sound_headers, is_header_kind, is_plain_list}
pub use Rattle.smithy_binding.specs.Checked.{is_plain_string, is_query_map, has_sound_payload, is_sound_payload, is_sound_prefix, is_text_map}
pub use Rattle.smithy_binding.specs.Checked.{lower_header_names, member_names, members_with, prefixes, same_format}
pub use Rattle.smithy_binding.specs.Clear.{are_whole_segments, begins_segment, ends_segment, holes_named, is_greedy_last, label_members}
unfoldable pub use Rattle.smithy_binding.specs.Clear.{is_clear}
pub use Rattle.smithy_binding.specs.Faults.{Fault, behind, bound_fault, custom, element_fault, ends_with_value, entry_fault, fault}
unfoldable pub use Rattle.smithy_binding.specs.Faults.{body_fault, legal_target, writes_fault}
pub use Rattle.smithy_binding.specs.Faults.{fault_of_document, is_placed_at, item_fault, key_fault, legal_fault, legal_or_fault}
pub use Rattle.smithy_binding.specs.Faults.{nested_fault, no_member, no_year, not_legal, pair_fault, pairs_fault, part_fault}
pub use Rattle.smithy_binding.specs.Faults.{resolved_fault, resolved_fault_by, writes_fault_by, too_long, unmatched_key, value_fault, write_fault, wrong_header}
pub use Rattle.smithy_binding.specs.Faults.{wrong_item_kind, wrong_kind}
pub use Rattle.smithy_binding.specs.Filling.{fill, fill_rest, filled_hole, hole_text, keep_slashes}
pub use Rattle.smithy_binding.specs.NormalForm.{bound_view, bound_view_at, has_key_outside, has_pairs, in_lower_case, is_empty_list}
unfoldable pub use Rattle.smithy_binding.specs.NormalForm.{view}
pub use Rattle.smithy_binding.specs.NormalForm.{is_empty_value, last_of, member_view, own_entries, unless_empty, with_own_elements}
pub use Rattle.smithy_binding.specs.Placing.{OmitFlags, Protocol, adds_content_length, adds_content_type, all_headers, pair_text}
unfoldable pub use Rattle.smithy_binding.specs.Placing.{target_of}
pub use Rattle.smithy_binding.specs.Placing.{template_of, with_default, with_query}
pub use Rattle.smithy_binding.specs.Typed.{IsTyped, default_names, has_clear_template, has_distinct_keys, has_no_default_name}
pub use Rattle.smithy_binding.specs.Typed.{has_own_formats, is_codec_payload, is_placed_typed, is_shallow, is_shaped_payload}
pub use Rattle.smithy_binding.specs.Typed.{is_shaped_write, leaves_default, wants_default, writes_default}
pub use Rattle.smithy_binding.specs.views.Entries.{entry_pairs}
pub use Rattle.smithy_binding.specs.views.Gather.{labelled, pairs_of}
pub use Rattle.smithy_binding.specs.views.StoredTexts.{element_text, member_text}
pub use Rattle.smithy_document.proofs.NamedPairs.{BehindHave, EntriesHave, FieldsHave, entries_ordered, entries_paired, fields_paired}
pub use Rattle.smithy_document.proofs.NamedPairs.{give_gave, members_ordered, text_form, try_gave}
pub use Rattle.smithy_document.proofs.OrderedPairs.{Aligned, Ascends, Behind, Beside, Pairs, absent, all_ascend, all_put, known_by_names}
pub use Rattle.smithy_document.proofs.OrderedPairs.{last_ascending, look_ordered, looked, or_none, up_tail}
pub use Rattle.smithy_document.specs.ReadsBack.{Stands}
pub use Rattle.smithy_http.proofs.ValueLemmas.{lower_twice}
pub use Rattle.smithy_http.specs.Facts.{facts, is_question_mark, named_piece, query_pieces, values_at}
pub use Rattle.smithy_ids.proofs.KindLemmas.{one_format, one_kind}
pub use Rattle.smithy_ids.proofs.NameLemmas.{after_first-joined, before_first-joined, before_first-none}
pub use Rattle.smithy_ids.specs.Kinds.{is_scalar, same_kind}
pub use Rattle.smithy_ids.specs.declared.shape_type.ShapeType.{ShapeType}
pub use Rattle.smithy_ids.specs.declared.traits.TimestampFormat.{TimestampFormat}
pub use Rattle.smithy_schema.specs.Defining.{IsSound, is_member}
pub use Rattle.smithy_schema.specs.Nodes.{Binding, Http, Node, Schema, Table, at_place, binding_at, binding_of, element_of, is_bound}
pub use Rattle.smithy_schema.specs.Nodes.{is_outside_body, key_of, member_at, members_of, name_of, node_at, shape, to_body, to_header}
pub use Rattle.smithy_schema.specs.Nodes.{to_label, to_payload, to_prefix, to_query, to_query_map, value_of}
pub use Rattle.smithy_schema.specs.Templates.{Hole, Piece, Template, holes_of, pieces}
pub use Rattle.smithy_schema.specs.WellMade.{are_in_place, has_utf8, has_utf8_texts, has_utf8_traits, is_node_well_made, is_table_well_made}
pub use Rattle.smithy_schema.specs.WellMade.{is_well_made, is_whole}
pub use Rattle.smithy_serde.specs.DocumentOf.{DocumentFault, base64, doc_of, document_fault_text, document_of, elements_of, fields_of}
pub use Rattle.smithy_serde.specs.DocumentOf.{scalar_document}
pub use Rattle.smithy_serde.specs.Fits.{fits, fits_in_range, fits_member, is_null, kind_takes, scalar_kind, written_kind}
pub use Rattle.smithy_serde.specs.Held.{Held}
pub use Rattle.smithy_serde.specs.Lawful.{IsLawfulText, is_sound, max_nesting}
pub use Rattle.smithy_serde.specs.NormalBody.{entry_writes, field_of, in_key_order, last_named, map_value, own_label, settled}
pub use Rattle.smithy_serde.specs.NormalBody.{settled_behind, settled_elements, settled_entries, settled_fields, structure_value}
pub use Rattle.smithy_serde.specs.Ranges.{are_in_range, are_items_in_range, are_members_in_range, are_writes_in_range, is_before}
pub use Rattle.smithy_serde.specs.Ranges.{is_document_in_range, is_in_range, is_number_in_range, is_signed_within}
pub use Rattle.smithy_serde.specs.Shaped.{are_entries_shaped, are_fields_shaped, are_shaped, are_values_shaped, fields_at, fits_at}
pub use Rattle.smithy_serde.specs.Shaped.{has_distinct_fields, is_kind, is_named, is_shaped, named_member}
pub use Rattle.smithy_serde.specs.StoredValues.{no_label}
pub use Rattle.smithy_serde.specs.Values.{Label, Scalar, Value, Write, Writes, keys_of, label_of, list_of, no_writes, text_of_key}
pub use Rattle.smithy_serde.specs.Values.{write, writes_of}
pub use Rattle.smithy_serde.specs.Writes.{Resolved, all_resolved, first, firsts, firsts_from, has_seen, is_of, position_in}
pub use Rattle.std.specs.Bool.{then_some}
pub use Rattle.smithy_serde.specs.Writes.{resolve, resolved}
pub use Rattle.smithy_strings.proofs.AsciiTexts.{are_low, big_decimal-utf8, big_integer-utf8, is_low, utf8_from_low}
pub use Rattle.smithy_strings.proofs.EscapeLaws.{escape-injective}
pub use Rattle.smithy_strings.proofs.WireTexts.{ascii_utf8, wire_utf8}
pub use Rattle.smithy_strings.specs.Escapes.{AreBytes, escape_byte, is_unreserved}
unfoldable pub use Rattle.smithy_strings.specs.Escapes.{escape}
pub use Rattle.smithy_strings.specs.Lists.{IsTimeInRange, listed}
pub use Rattle.smithy_strings.specs.Wire.{time_format, wire}
pub use Rattle.smithy_strings.specs.declared.wire.Place.{Place}
pub use Rattle.smithy_strings.specs.declared.wire.Place.TheVariants.{Header}
pub use Rattle.smithy_types.specs.Documents.{Document, Members, is_canonical, items_of, list_of_members, nesting, number_of}
pub use Rattle.smithy_types.specs.Grammars.{before_query, is_header_value, is_query_byte, is_short_target, is_stem, is_target}
pub use Rattle.smithy_types.specs.Grammars.{is_token, is_token_byte}
pub use Rattle.smithy_types.specs.Results.{each, then_give, then_try, unless}
pub use Rattle.smithy_types.specs.Texts.{AreDistinct, are_distinct, found, has_byte, is_one_of, same_text}
pub use Rattle.smithy_unambiguity.specs.Laws.{FactsDecideView, SeesSame, ViewIsTyped, ViewSettles}
pub use Rattle.std.proofs.Common.{All, Bool, Err, IsTrue, IsUtf8, List, None, Ok, Option, Result, Some, [], ap, arith, codes, cond, decimal}
pub use Rattle.std.proofs.Common.{drop, eq-eqb, false, filter, filter_map, find, flat_map, if◌then◌else◌, inl, inr, is_none, is_some}
pub use Rattle.std.proofs.Common.{length, ltb-false, ltb-true, map, nat_eq, nat_le, nat_lt, ne_eqb, negsuc, not, option_and_then}
pub use Rattle.std.proofs.Common.{option_map, option_to_list, pos, refl, slice_get, subst, suc, sym, take, true, unwrap_or, zero, ℕ, ℤ}
pub use Rattle.std.proofs.Common.{⊎_elim, ◌&&◌, ◌++◌, ◌+◌, ◌<◌, ◌==◌, ◌^◌, ◌||◌, ◌∙◌, ◌∷◌, ◌≡◌, ◌≢◌, ◌≤◌, ◌⊎◌}
pub use Rattle.std.proofs.lemmas.Bool.{agree_below, agree_below_at, and_from, and_parts, and_right, cond_both, eqb-true, false_from_ne_true}
pub use Rattle.std.proofs.lemmas.Bool.{leb-true, lt-ltb, not-false, not-true, or_cases, or_left, or_parts, or_right}
pub use Rattle.std.proofs.lemmas.List.{append-nil, append_assoc, append_cancel_left, append_cancel_right, length-append, map-append}
pub use Rattle.std.proofs.lemmas.List.Folds.{flat_map-map, list_all-append, list_any-append}
pub use Rattle.std.specs.Cmp.{both_ways}
pub use Rattle.std.specs.Cmp.Lexicographic.{slice_cmp}
pub use Rattle.std.specs.List.{AllByRecursion, after_first, before_first, cons_option, ends_with, enumerate_from, join_with_byte, last_or}
pub use Rattle.std.specs.List.{list_all, list_any, onto_first, position_or_len, slice_split, starts_with}
pub use Rattle.std.specs.Option.{option_map_or, option_or}
pub use Rattle.std.specs.Result.{result_err, result_ok}
pub use Rattle.std.specs.Str.{is_utf8, str_to_ascii_lowercase}
