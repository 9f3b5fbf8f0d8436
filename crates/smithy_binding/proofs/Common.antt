-- The names that this crate's proofs cite, from one place.
pub use Rattle.smithy_binding.specs.Answer.{legal_request, place, request_at}
unfoldable pub use Rattle.smithy_binding.specs.Answer.{answer}
pub use Rattle.smithy_binding.specs.Bindings.{entries_of, inserted, inserted_at, kind_or_none, labelled_at, pairs_at, pairs_with, place_at}
unfoldable pub use Rattle.smithy_binding.specs.Bindings.{headers, labels, pairs}
pub use Rattle.smithy_binding.specs.Bindings.{query_names, texts}
pub use Rattle.smithy_binding.specs.Bodies.{Body, BodyParts, body_parts, bytes_by, document_by, form_in, has_unbound_member, is_codec}
unfoldable pub use Rattle.smithy_binding.specs.Bodies.{body, document_value}
pub use Rattle.smithy_binding.specs.Bodies.{is_payload, payload_kind, text_of_document}
pub use Rattle.smithy_binding.specs.Bodies.{is_codec_kind, is_raw_kind}
pub use Rattle.smithy_binding.specs.Broken.{Broken, are_label_holes, cut_rule, broken_header, by_member, by_members, by_schema, has_query_map_kind}
unfoldable pub use Rattle.smithy_binding.specs.Broken.{broken_input, broken_output}
pub use Rattle.smithy_binding.specs.Broken.{has_true_flag, has_true_hint, header_rule, hole_rule, http_rule, joint_rule, member_rule}
pub use Rattle.smithy_binding.specs.Broken.{method_rule, named_rule, path_rule, payload_rule, prefix_map_rule, prefix_rule}
pub use Rattle.smithy_binding.specs.Broken.{response_joint_rule, response_member_rule, template_rule}
pub use Rattle.smithy_binding.specs.Checked.{IsCheckedInput, has_at_most_one, has_bound_kind, has_defined_members, has_element}
unfoldable pub use Rattle.smithy_binding.specs.Checked.{checked_input}
pub use Rattle.smithy_binding.specs.Checked.{has_header_kind, has_label_kind, has_map_kind, has_named_members, has_plain_elements}
pub use Rattle.smithy_binding.specs.Checked.{has_prefix_kind, has_query_kind, has_sound_headers, has_sound_http, has_sound_maps}
pub use Rattle.smithy_binding.specs.Checked.{has_sound_names, has_sound_payload, has_true_flags, is_bound_once, is_header_kind}
pub use Rattle.smithy_binding.specs.Checked.{is_plain_list, is_plain_string, is_query_map, is_sound_member, is_text_map, is_writable}
pub use Rattle.smithy_binding.specs.Checked.{is_sound_payload, lower_header_names, member_names, members_with}
pub use Rattle.smithy_binding.specs.CheckedOutput.{IsCheckedOutput, has_code_kind, has_plain_header_elements, has_sound_response_payload}
unfoldable pub use Rattle.smithy_binding.specs.CheckedOutput.{checked_output}
pub use Rattle.smithy_binding.specs.CheckedOutput.{has_response_body_member, response_payload_kind}
pub use Rattle.smithy_binding.specs.CheckedOutput.{is_response_bound_once, is_sound_response_member}
pub use Rattle.smithy_binding.specs.Clear.{are_whole_segments, filled_by_a, has_whole_authority, holes_named, is_greedy_last}
unfoldable pub use Rattle.smithy_binding.specs.Clear.{is_clear}
pub use Rattle.smithy_binding.specs.Faults.{Fault, behind, bound_fault, custom, element_fault, ends_with_value, entry_fault, fault}
unfoldable pub use Rattle.smithy_binding.specs.Faults.{body_fault, legal_target, writes_fault}
pub use Rattle.smithy_binding.specs.Faults.{fault_of_document, filled_fault, is_placed_at, item_fault, key_fault, legal_fault, legal_or_fault}
pub use Rattle.smithy_binding.specs.Faults.{too_long, not_legal, missing_hole, nested_fault, no_member, no_year, pair_fault, pairs_fault, part_fault}
pub use Rattle.smithy_binding.specs.Faults.{resolved_fault_by, value_fault, wrong_header, wrong_item_kind, wrong_kind, writes_fault_by}
pub use Rattle.smithy_binding.specs.Directions.{directed_node, directed_schema, directed_table}
pub use Rattle.smithy_binding.specs.Filling.{fill, fill_rest, filled_by, keep_slashes}
unfoldable pub use Rattle.smithy_binding.specs.Messages.{message_fault, message_headers}
pub use Rattle.smithy_binding.specs.Outputs.{as_output}
unfoldable pub use Rattle.smithy_binding.specs.Outputs.{placed_output}
pub use Rattle.smithy_binding.specs.Placing.{OmitFlags, Protocol, adds_content_length, adds_content_type, all_headers, endpoint_or_slash}
unfoldable pub use Rattle.smithy_binding.specs.Placing.{target_of}
pub use Rattle.smithy_binding.specs.Placing.{method_of, pair_text, template_of, with_default, with_defaults, with_query}
pub use Rattle.smithy_binding.specs.Refusing.{Answers, TellsFault}
pub use Rattle.smithy_binding.specs.ResponseCodes.{code_write, is_label, status_value}
unfoldable pub use Rattle.smithy_binding.specs.ResponseCodes.{written_code}
pub use Rattle.smithy_binding.specs.declared.direction.Direction.{Direction}
pub use Rattle.smithy_binding.specs.declared.rules.Rule.{Rule}
pub use Rattle.smithy_schema.specs.declared.first_hole.CutHole.{CutHole}
pub use Rattle.smithy_binding.specs.views.Breaking.{broken_among, broken_of, broken_response_among, broken_shown, have_holes, http_rule_among}
pub use Rattle.smithy_binding.specs.views.Breaking.{broken_header_of, broken_prefix_of, cut_rule_for, hole_rule_for, lower_headers, member_rule_in, method_rule_among}
pub use Rattle.smithy_binding.specs.views.Breaking.{path_rule_for, template_rule_among, template_rule_for}
pub use Rattle.smithy_binding.specs.views.Checking.{are_sound, are_sound_response, count_of, have_sound_headers, have_sound_names}
unfoldable pub use Rattle.smithy_binding.specs.views.Checking.{payload_in, shown}
pub use Rattle.smithy_binding.specs.views.Checking.{is_bound_in, is_clear_among, is_sound_in, is_sound_prefix_of, lower_names, names_under}
pub use Rattle.smithy_binding.specs.views.Checking.{texts_shown}
pub use Rattle.smithy_binding.specs.views.ClearParts.{are_whole_behind, is_greedy_last_behind, once_mark, times_named}
unfoldable pub use Rattle.smithy_binding.specs.views.ClearParts.{is_marked_once}
pub use Rattle.smithy_binding.specs.views.CutTemplate.{behind_hole, behind_holes, hole_shown, literal_alone, template_shown}
pub use Rattle.smithy_binding.specs.views.Directed.{bound_fault_in, directed_of, status_fault_in}
pub use Rattle.smithy_binding.specs.views.Entries.{entry_pairs, pairs_at_place, text_at, unnamed}
unfoldable pub use Rattle.smithy_binding.specs.views.Entries.{has_key}
pub use Rattle.smithy_binding.specs.views.Gather.{Gathered, add_or_fault, added, fault_at, gather_resolved, is_seen, labelled, nothing_yet}
unfoldable pub use Rattle.smithy_binding.specs.views.Gather.{gather, gather_one}
pub use Rattle.smithy_binding.specs.views.Gather.{ok_unless, pairs_of, placed}
pub use Rattle.smithy_binding.specs.views.KeptWrites.{AreDefinedWrites, IsEmpty, IsKeptDefined, keep, keep_all, kept_at, kept_in, no_parts}
pub use Rattle.smithy_binding.specs.views.KeptWrites.{told, unbound_in, write_in}
pub use Rattle.smithy_binding.specs.views.LabelTexts.{is_text, long_fault, text_under}
unfoldable pub use Rattle.smithy_binding.specs.views.LabelTexts.{text_in_map}
pub use Rattle.smithy_binding.specs.views.Placed.{IsSingle, first_fault, has_placed_kind, is_list_binding, is_text_binding, placed_first}
pub use Rattle.smithy_binding.specs.views.Placed.{takes_map, write_of}
pub use Rattle.smithy_binding.specs.views.Resolving.{finds, found_at}
pub use Rattle.smithy_binding.specs.views.Seen.{gathered_of, label_pair}
pub use Rattle.smithy_binding.specs.views.StoredTexts.{element_text, member_text}
pub use Rattle.smithy_binding.specs.views.TargetParts.{is_close, is_open, queries, separator, target_behind, target_with, text_in}
pub use Rattle.smithy_http.specs.Headers.{put, put_all, without}
pub use Rattle.smithy_http.specs.Requests.{Request}
pub use Rattle.smithy_ids.specs.Kinds.{is_scalar, same_kind}
pub use Rattle.smithy_ids.specs.declared.shape_type.ShapeType.{ShapeType}
pub use Rattle.smithy_schema.specs.Nodes.{Binding, Http, Node, Schema, Table, at_place, binding_at, binding_of, cited, cites_nodes, element_of, is_bound}
pub use Rattle.smithy_schema.specs.Nodes.{is_outside_body, key_of, member_at, members_of, to_body, to_header, to_label, to_payload}
pub use Rattle.smithy_schema.specs.Nodes.{has_name, position_of_name, to_prefix, to_query, to_query_map, value_of}
pub use Rattle.smithy_schema.specs.References.{schema_of}
pub use Rattle.smithy_schema.specs.Templates.{Hole, Template, has_unclosed_brace, hole_of, holes_of, pieces_of_parts}
unfoldable pub use Rattle.smithy_schema.specs.Templates.{pieces}
pub use Rattle.smithy_serde.proofs.Calls.{call_rule, one_tells, tells_none, writes_rule}
pub use Rattle.smithy_serde.proofs.InOrder.{TellsInOrder, listed_in_order, one_as, tells_stored, told_all, told_end, told_more, told_next}
pub use Rattle.smithy_serde.proofs.InOrder.{told_stop, told_stop_in}
pub use Rattle.smithy_serde.specs.DocumentOf.{DocumentFault, document_fault, document_fault_text}
pub use Rattle.smithy_serde.specs.Finishing.{IsTextOf}
pub use Rattle.smithy_serde.specs.Fits.{fits, fits_member, is_null, kind_takes, written_kind}
pub use Rattle.smithy_serde.specs.Refusing.{IsFaultRefusal}
pub use Rattle.smithy_serde.specs.StoredValues.{AreListedDefined, HasNode, IsDefined, kept_writes, label_at, no_label, writes_in}
unfoldable pub use Rattle.smithy_serde.specs.StoredValues.{value_in}
pub use Rattle.smithy_serde.specs.StoredValues.{listed}
pub use Rattle.smithy_serde.specs.Told.{appended, empty_state}
pub use Rattle.smithy_serde.specs.Values.{Value, Write, Writes, label_of, list, list_of, no_writes, null, scalar, structure, text_of_key}
pub use Rattle.smithy_serde.specs.Values.{write, writes_of}
pub use Rattle.smithy_serde.specs.Writes.{Resolved, all_resolved, firsts, firsts_from, has_seen, resolve, resolved}
pub use Rattle.smithy_serde.specs.Writing.{Tells, label}
pub use Rattle.smithy_serde.specs.declared.error.SerdeError.{SerdeError}
pub use Rattle.smithy_serde.specs.declared.value.OneWrite.{OneWrite}
pub use Rattle.smithy_types.specs.Grammars.{is_header_value, is_header_value_byte, is_legal_target, is_short_target, is_target, is_token, is_token_byte}
pub use Rattle.smithy_types.specs.Results.{each, first_of_all, then_give, then_try, unless}
pub use Rattle.smithy_types.specs.Texts.{AreDistinct, are_distinct, found, has_byte, is_one_of, same_text}
pub use Rattle.std.proofs.Common.{All, Bool, Err, IfErr, IfOk, IfSome, IsErr, IsSome, IsTrue, List, MatchOption, None, Ok, Option, Result}
pub use Rattle.std.proofs.Common.{Some, [], ap, append_assoc, arith, codes, cond, count_by, decimal, drop, eq-eqb, false, filter}
pub use Rattle.std.proofs.Common.{filter_map, find, flat_map, get_or, get_or-set_other, get_or-set_same, if◌then◌else◌, is_none, is_some}
pub use Rattle.std.proofs.Common.{length, length-drop, lit<, ltb-false, ltb-true, map, nat_eq, nat_le, nat_lt, ne_eqb, not, option_and_then}
pub use Rattle.std.proofs.Common.{option_map, option_to_list, refl, rules, set, slice_get, slice_set, string_bytes, subst, suc, sym, take}
pub use Rattle.std.proofs.Common.{true, unwrap_or, zero, ℕ, ◌%◌, ◌&&◌, ◌*◌, ◌++◌, ◌+◌, ◌-◌, ◌/◌, ◌<◌, ◌==◌, ◌^◌, ◌||◌, ◌↔◌, ◌∙◌, ◌∷◌, ◌≡◌}
pub use Rattle.std.proofs.Common.{◌≢◌, ◌≤◌}
pub use Rattle.std.proofs.Math.ListN.{drop_of_length-le}
pub use Rattle.std.proofs.lemmas.Bool.{agree_below, agree_below_at, and_from, and_parts, eqb-true, le-leb, le-ltb, not-true, or_parts}
pub use Rattle.std.proofs.lemmas.Iterator.{YieldsList-from_slice, cases_from_all, cases_from_any}
pub use Rattle.std.proofs.lemmas.List.{append-nil, drop_more, get_or-replicate, length-append, length-map, length-replicate, length-set}
pub use Rattle.std.proofs.lemmas.List.{map-append, take-append-drop, take_all, take_more}
pub use Rattle.std.proofs.lemmas.List.Folds.{list_all-append, list_all-map, list_all_at, list_any-append}
pub use Rattle.std.proofs.lemmas.List.Sums.{AllPass-from_list_all, length-filter, list_all-from_AllPass, suffix_len_is, sum_by-append}
pub use Rattle.std.proofs.lemmas.Map.Text.{btree_map_updates_str}
pub use Rattle.std.proofs.lemmas.Result.{IfOk-weaker, on_ok_weaker}
pub use Rattle.std.proofs.lemmas.Str.Pattern.{IsSplitOnceResult, split_once_first, strip_prefix_char, strip_suffix_char}
pub use Rattle.std.specs.BTreeMap.{BTreeMap, UpdatesBy, get_by}
pub use Rattle.std.specs.Borrow.{Bor}
pub use Rattle.std.specs.Cmp.Lexicographic.{slice_cmp}
pub use Rattle.std.specs.List.{AllByRecursion, AllWithin, HoldsAt, after_first, after_last, before_first, cons_option, ends_with}
pub use Rattle.std.specs.List.{join_with_byte, list_all, list_any, onto_first, position_or_len, slice_split, starts_with, suffix_len}
pub use Rattle.std.specs.Option.{option_copied, option_map_or, option_or}
pub use Rattle.std.specs.Ordering.{nat_cmp}
pub use Rattle.std.specs.Result.{result_err, result_ok}
pub use Rattle.std.specs.Str.{bytes_eq, str_to_ascii_lowercase}
pub use borrow.Author.Tests.{tests}
