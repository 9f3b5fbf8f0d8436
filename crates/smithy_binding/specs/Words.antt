-- The names of other crates that this crate's specs and clauses cite, from one place.
pub use Rattle.smithy_http.specs.Headers.{put_all, without}
pub use Rattle.smithy_http.specs.Requests.{Request}
pub use Rattle.smithy_ids.specs.Kinds.{is_scalar, is_structure_or_union, is_unwritable, kind_word, same_kind}
pub use Rattle.smithy_ids.specs.declared.shape_type.ShapeType.{ShapeType}
pub use Rattle.smithy_ids.specs.declared.traits.TimestampFormat.{TimestampFormat}
pub use Rattle.smithy_schema.specs.Nodes.{Binding, Http, Node, Schema, Table, Traits, at_place, binding_of, cites_nodes, element_of, is_bound}
pub use Rattle.smithy_schema.specs.Nodes.{is_response_bound, key_of, member_at, members_of, name_of, to_body, to_header, to_label}
pub use Rattle.smithy_schema.specs.Nodes.{position_of_name, to_payload, to_prefix, to_query, to_query_map, value_of}
pub use Rattle.smithy_schema.specs.References.{index_of, schema_of}
pub use Rattle.smithy_schema.specs.ShownBindings.{binding_shown}
pub use Rattle.smithy_schema.specs.Templates.{Hole, Piece, Template, has_unclosed_brace, hole_of, holes_of}
unfoldable pub use Rattle.smithy_schema.specs.Templates.{pieces}
pub use Rattle.smithy_schema.specs.declared.first_hole.CutHole.{CutHole}
pub use Rattle.smithy_schema.specs.declared.schema_ref.SchemaRef.{SchemaRef}
pub use Rattle.smithy_serde.specs.DocumentOf.{doc_of, document_fault, document_fault_text}
pub use Rattle.smithy_serde.specs.Finishing.{IsReady, IsTextOf}
pub use Rattle.smithy_serde.specs.Fits.{fits, fits_member, written_word}
pub use Rattle.smithy_serde.specs.Held.{Answer}
pub use Rattle.smithy_serde.specs.StoredValues.{AreDefined, HasNode, IsDefined, label_at, writes_in}
unfoldable pub use Rattle.smithy_serde.specs.StoredValues.{value_in}
pub use Rattle.smithy_serde.specs.Values.{Label, Value, Write, Writes, blob, keys_of, label_of, list, list_of, no_writes, scalar, structure}
pub use Rattle.smithy_serde.specs.Values.{text, text_of_key, write, writes_of}
pub use Rattle.smithy_serde.specs.Writes.{Resolved, all_resolved, first, firsts, has_seen, is_of, resolve, resolved, unbound}
pub use Rattle.smithy_serde.specs.declared.error.SerdeError.{SerdeError}
pub use Rattle.smithy_serde.specs.declared.value.ShapeValue.{ShapeValue}
pub use Rattle.smithy_serde.specs.declared.value.WriteList.{WriteList}
pub use Rattle.smithy_types.specs.Documents.{Document, nesting}
pub use Rattle.smithy_types.specs.Grammars.{before_query, is_header_value, is_legal_target, is_short_target, is_target, is_token}
pub use Rattle.smithy_types.specs.Grammars.{scheme_len}
pub use Rattle.smithy_types.specs.Results.{each, first_of_all, then_give, then_try, unless}
pub use Rattle.smithy_types.specs.Texts.{AreDistinct, are_distinct, found, has_byte, is_one_of, same_text}
pub use Rattle.std.specs.BTreeMap.{BTreeMap, get_by}
pub use Rattle.std.specs.Borrow.{Bor}
pub use Rattle.std.specs.Cmp.Lexicographic.{slice_cmp}
pub use Rattle.std.specs.Cow.{cow_str_bytes}
pub use Rattle.std.specs.List.{AllByRecursion, after_first, after_last, before_first, concat, ends_with, enumerate_from, join_with_byte}
pub use Rattle.std.specs.List.{last_or, list_all, list_any, slice_split, starts_with}
pub use Rattle.std.specs.Option.{option_copied, option_eq, option_map_or, option_or}
pub use Rattle.std.specs.Ordering.{nat_cmp}
pub use Rattle.std.specs.Str.{str_to_ascii_lowercase}
