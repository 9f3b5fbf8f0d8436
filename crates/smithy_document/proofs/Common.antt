-- The names that this crate's proofs cite, from one place.
pub use Rattle.serde_json.specs.Data.{Data, Num, depth, items_depth, members_depth}
pub use Rattle.serde_json.specs.Written.{comma_if, compact_text, items_outline, items_text, members_outline, members_text, number_text}
pub use Rattle.serde_json.specs.Written.{outline}
pub use Rattle.smithy_document.specs.Building.{Building, built, discriminator_of, finished, is_structure, is_structure_group, items, put_in}
pub use Rattle.smithy_document.specs.Building.{put_named, refusal_in, second_value_text, start_in, started, state_refusal, texted, top}
pub use Rattle.smithy_document.specs.InOrder.{are_items_in_order, are_members_in_order, is_in_order, is_read}
pub use Rattle.smithy_document.specs.JsonText.{as_data, items_as_data, members_as_data, number_as_data}
unfoldable pub use Rattle.smithy_document.specs.JsonText.{json_text}
pub use Rattle.smithy_document.specs.OpenDocuments.{Opened, Part, frame_of, handed_out, kind_of_group, nameless, opens_as, parts_of}
pub use Rattle.smithy_document.specs.OpenDocuments.{reading, told_out}
pub use Rattle.smithy_document.specs.ReadsBack.{Follows, HasCanonicalDocument, HasDocument, NormalFormHasDocument, ReadsNormalForm}
pub use Rattle.smithy_document.specs.ReadsBack.{ReadsNormalStructure, ReadsWhatFits, RefusesTheRest, Stands, TellsApartNormalForms}
pub use Rattle.smithy_document.specs.ReadsBack.{TellsNormalForm}
pub use Rattle.smithy_document.specs.Refused.{IsRefusedFor}
pub use Rattle.smithy_document.specs.Scaling.{fraction_len, near, scaled, too_large, whole_part}
pub use Rattle.smithy_document.specs.SettingsReads.{Coerced, Coercions, ReadsBy, ReadsPlainly, ReadsWith, coercions, plain_coercions}
pub use Rattle.smithy_document.specs.declared.json_tree.Node.{Array, Node, Null, Object, Text, the_lemmas}
pub use Rattle.smithy_document.specs.declared.json_tree_cursor.TreeSpot.{TreeSpot}
pub use Rattle.smithy_document.specs.declared.spot.Spot.{Spot}
pub use Rattle.smithy_document.specs.views.BuildingView.{building_view}
pub use Rattle.smithy_document.specs.views.CursorView.{Advances, ClosesAt, ClosesBehind, IsOpen, StepsTo, StepsToMember, document_in}
pub use Rattle.smithy_document.specs.views.CursorView.{name_in, opened_in, seen, spot_list, spots_in}
pub use Rattle.smithy_document.specs.views.Frames.{ended_with, held_of}
pub use Rattle.smithy_document.specs.views.JsonHand.{hand_of, refusing, size_over}
pub use Rattle.smithy_document.specs.views.JsonTree.{Grows, IsFound, StaysIn, fields_view, is_tree_read, node_view, nodes_view, part_at}
pub use Rattle.smithy_document.specs.views.JsonTree.{part_name, text_at, tree_view}
pub use Rattle.smithy_document.specs.views.Paths.{Names, at_path, last_name, name_at, named, opened_at, part_in, rest_in, step_in}
pub use Rattle.smithy_document.specs.views.Printing.{Prints, document_tokens, item_tokens, member_tokens}
pub use Rattle.smithy_document.specs.views.Standing.{AreHeld, Holds, IsNextRefusal, StandsFor, Tries, WrongInDocument, all_held}
pub use Rattle.smithy_document.specs.views.Standing.{document_seen, kept_refusal, length-around, length-held, open_count}
pub use Rattle.smithy_document.specs.views.TreePaths.{document_at, opened_along, opened_by, part_behind, path_end, tree_seen}
pub use Rattle.smithy_json.proofs.OrderedPairs.{Ascends, Behind, Pairs, absent, all_ascend, all_put, known_by_names, last_ascending}
pub use Rattle.smithy_json.proofs.OrderedPairs.{last_of, look_ordered, looked, or_none, put_as_they_stand, same_self, up_tail}
pub use Rattle.smithy_json.specs.FromData.{items_of_data, number_of_data, of_data, pairs_of_data}
pub use Rattle.smithy_json.specs.JsonView.{Member}
pub use Rattle.smithy_schema.specs.Nodes.{Schema, Table, at_place, cited, element_of, has_name, key_of, member_at, member_named, node_at}
pub use Rattle.smithy_schema.specs.Nodes.{position_of_name, shape, value_of}
pub use Rattle.smithy_schema.specs.References.{schema_of}
pub use Rattle.smithy_serde.proofs.Calls.{first_kept, one_tells, told_same, writes_rule}
pub use Rattle.smithy_serde.specs.DocumentOf.{DocumentFault, base64, document_fault, document_fault_text, document_of, elements_of}
pub use Rattle.smithy_serde.specs.DocumentOf.{entries_behind, entries_of, field_name, fields_of, key_text, no_member_name, scalar_document}
pub use Rattle.smithy_serde.specs.DocumentReads.{big_decimal_of_text, big_integer_of_text, exponent_value, first_digits, integer_of_number}
pub use Rattle.smithy_serde.specs.DocumentReads.{is_negative, mismatch, or_document_refusal, scalar_of_document, truncated, whole_of_number}
pub use Rattle.smithy_serde.specs.DocumentReads.{whole_size, whole_text, without_zeros}
pub use Rattle.smithy_serde.specs.Fits.{fits, fits_in_range, kind_takes, width_kind, written_kind}
pub use Rattle.smithy_serde.specs.Held.{Answer, Held, IsAnswer, is_null_document, is_null_held, walked}
pub use Rattle.smithy_serde.specs.HeldReads.{known}
unfoldable pub use Rattle.smithy_serde.specs.HeldReads.{elements, entries, fields, read_scalar}
pub use Rattle.smithy_serde.specs.Lawful.{IsLawfulText, is_sound, max_nesting}
pub use Rattle.smithy_serde.specs.NormalBody.{entry_writes, field_of, in_key_order, last_named, own_label, settled, settled_behind}
pub use Rattle.smithy_serde.specs.NormalBody.{settled_elements, settled_entries, settled_fields}
pub use Rattle.smithy_serde.specs.Ranges.{are_bytes, are_items_in_range, are_members_in_range, is_before, is_document_in_range, is_in_range}
pub use Rattle.smithy_serde.specs.Ranges.{is_in_width, is_number_in_range, is_signed_within}
pub use Rattle.smithy_serde.specs.ReadCalls.{Advanced, Answered, AtHand, Closed, Gives, Halted, Hands, IsIn, IsMember, IsRefused}
pub use Rattle.smithy_serde.specs.ReadCalls.{IsRefusedAt, MemberAdvanced, NextElement, NextEntry, NextMember, NotOpened, OpensAt, Reads}
pub use Rattle.smithy_serde.specs.ReadCalls.{SettlesBy, TellsNull, read_at, scalar_of_read, type_of}
pub use Rattle.smithy_serde.specs.Refusals.{IsAgain, IsFirstAnswer, IsRefusal}
pub use Rattle.smithy_serde.specs.Shaped.{are_entries_shaped, are_fields_shaped, are_shaped, are_values_shaped, fields_at, fits_at}
pub use Rattle.smithy_serde.specs.Shaped.{has_distinct_fields, is_kind, is_named, is_shaped, named_member}
pub use Rattle.smithy_serde.specs.Steps.{Step, adds, after, closes, opens}
pub use Rattle.smithy_serde.specs.StoredValues.{no_label}
pub use Rattle.smithy_serde.specs.Told.{Open, State, appended, begun, empty_state, ended, grouped, one_write, written}
pub use Rattle.smithy_serde.specs.ValueRead.{all_read, entry_by, list_by, map_by, value_by_kind, value_of_structure, value_read, write_by}
pub use Rattle.smithy_serde.specs.Values.{Label, Scalar, Value, Width, Write, Writes, big_decimal, big_integer, byte, integer, keys_of}
pub use Rattle.smithy_serde.specs.Values.{label_of, list, list_of, long, no_writes, scalar, short, structure, text_of_key, write, writes_of}
pub use Rattle.std.specs.Bool.{then_some}
pub use Rattle.smithy_serde.specs.Writing.{Calls, IsByRule, label, scalar_of}
pub use Rattle.smithy_serde.specs.declared.error.SerdeError.{SerdeError}
pub use Rattle.smithy_serde.specs.declared.error.SerdeError.TheVariants.{Custom, InvalidInput, OutOfMemory}
pub use Rattle.smithy_serde.specs.declared.read_scalar.ReadScalar.{ReadScalar}
pub use Rattle.smithy_serde.specs.declared.scalar.Group.{Group}
pub use Rattle.smithy_types.proofs.Coefficients.{coefficient_in-parts, digit_at, is_digit-in_range, signed_digits-mantissa, value_append}
pub use Rattle.smithy_types.proofs.Coefficients.{value_grows}
pub use Rattle.smithy_types.proofs.Lookups.{seen_at}
pub use Rattle.smithy_types.specs.BigNumbers.{are_digits, coefficient, exponent_of, has_narrow_coefficient, is_big_decimal}
pub use Rattle.smithy_types.specs.BigNumbers.{is_big_decimal_in_range, is_big_integer_in_range, is_digit, is_exponent, is_exponent_mark}
pub use Rattle.smithy_types.specs.BigNumbers.{is_mantissa, is_sign, is_signed_digits, mantissa_of, unsigned}
pub use Rattle.smithy_types.specs.DocumentView.{items_view, members_view, view}
pub use Rattle.smithy_types.specs.Documents.{Document, Items, Members, Number, are_canonical_items, are_canonical_members, is_canonical}
pub use Rattle.smithy_types.specs.Documents.{is_canonical_number, item, items_nesting, items_of, items_snoc, list_of_items, list_of_members}
pub use Rattle.smithy_types.specs.Documents.{members_nesting, members_of, nesting, no_items, no_members, number_in, number_of, object_in}
pub use Rattle.smithy_types.specs.Documents.{put, put_all, string_in}
pub use Rattle.smithy_types.specs.Maps.{IsOrdered, with_value}
pub use Rattle.smithy_types.specs.Results.{then_give, then_try}
pub use Rattle.smithy_types.specs.Texts.{are_distinct, is_one_of, same_text}
pub use Rattle.std.proofs.Common.{Bool, Bor, Err, FitsSigned, Global, IsSome, IsTrue, IsUtf8, List, None, Ok, Option, Result, Some, Vec, []}
pub use Rattle.std.proofs.Common.{add-zero, ap, append_assoc, ap₂, arith, codes, cond, decimal, drop, false, filter_map, find, get_or, inl}
pub use Rattle.std.proofs.Common.{inr, int_le, int_lt, is_some, le-ltb, length, lt-ltb, map, max, min, nat_eq, nat_le, neg_ℤ, negsuc, not}
pub use Rattle.std.proofs.Common.{of_z, ok_or, option_and_then, option_map, pos, position, refl, replicate, rules, slice_get, slice_range}
pub use Rattle.std.proofs.Common.{string_bytes, subst, suc, sym, take, to_z, true, unsigned_abs, zero, ℕ, ℤ, ⊎_elim, ◌&&◌, ◌*◌, ◌++◌, ◌+ℤ◌}
pub use Rattle.std.proofs.Common.{◌+◌, ◌-ℤ◌, ◌-◌, ◌/◌, ◌<◌, ◌==◌, ◌^◌, ◌∙◌, ◌∷◌, ◌≡◌, ◌≢◌, ◌≤◌, ◌⊎◌}
pub use Rattle.std.proofs.Math.ListN.{drop_of_length-le}
pub use Rattle.std.proofs.lemmas.Bool.{and_from, and_parts, cases_Bool, cases_eq, cases_lt, eq-eqb, eqb-false, eqb-true, false≢true, le-leb}
pub use Rattle.std.proofs.lemmas.Bool.{leb-true, lt-leb, ltb-false, ltb-true, ne_eqb, not-true, or_parts}
pub use Rattle.std.proofs.lemmas.Cmp.{nat_list_cmp_total}
pub use Rattle.std.proofs.lemmas.Fmt.{decimal_is_IsNumeral, decimal_is_IsNumeral_wide, decimal_nonempty}
pub use Rattle.std.proofs.lemmas.Int.{ints, to_z-of_z}
pub use Rattle.std.proofs.lemmas.List.{append-nil, drop-append-le, drop_all, drop_more, length-append, length-drop, length-map, map-append}
pub use Rattle.std.proofs.lemmas.List.{take-append-drop, take-append-le, take_all, take_more}
pub use Rattle.std.proofs.lemmas.Option.{get_or_from_slice_get, slice_get-map, slice_get_cases, slice_get_past, slice_get_within}
pub use Rattle.std.proofs.lemmas.Str.{IsCharBoundary-at_seam, IsCharBoundary-end, IsCharBoundary-start, IsUtf8-append, IsUtf8-from_is_utf8}
pub use Rattle.std.proofs.lemmas.Str.{IsUtf8-nil, digit_value_digit, is_utf8-from_IsUtf8}
pub use Rattle.std.specs.Char.{digit_value}
pub use Rattle.std.specs.Cmp.Lexicographic.{slice_cmp}
pub use Rattle.std.specs.Fmt.{signed_decimal}
pub use Rattle.std.specs.Int.{IsInRange, w128, w64}
pub use Rattle.std.specs.List.{AllByRecursion, after_first, before_first, cons_option, fold, list_all, position_or_len, starts_with}
pub use Rattle.std.specs.Map.{lookup}
pub use Rattle.std.specs.Option.{option_copied, option_map_or, option_or, unwrap_or}
pub use Rattle.std.specs.Ordering.{is_eq, match_ordering, nat_cmp, ordering_reverse}
pub use Rattle.std.specs.Prelude.{IfSome, OnErr, flat_map, if◌then◌else◌, is_none, nat_lt, ⊤}
pub use Rattle.std.specs.Result.{result_err}
pub use Rattle.std.specs.Str.Parse.{AllDigits, digits_value, digits_value_after, signed_digits_value}
pub use Rattle.std.specs.declared.cmp.Ordering.{Ordering}
pub use Rattle.std.specs.declared.cmp.Ordering.TheVariants.{Equal, Greater, Less}
