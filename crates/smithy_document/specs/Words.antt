-- The names of other crates that this crate's specs and clauses cite, from one place.
pub use Rattle.smithy_ids.specs.declared.shape_type.ShapeType.{ShapeType}
pub use Rattle.smithy_schema.specs.Nodes.{Schema, shape}
pub use Rattle.smithy_schema.specs.References.{schema_of}
pub use Rattle.smithy_serde.specs.DocumentOf.{DocumentFault, base64, document_fault, document_fault_text, document_of, key_is_no_text}
pub use Rattle.smithy_serde.specs.DocumentOf.{key_text, no_member_name, scalar_document, unmatched_key}
pub use Rattle.smithy_serde.specs.DocumentReads.{big_decimal_of_text, big_integer_of_text, exponent_value, integer_of_number, is_negative}
pub use Rattle.smithy_serde.specs.DocumentReads.{mismatch, number_text, scalar_of_document, truncated, whole_text}
pub use Rattle.smithy_serde.specs.Held.{Answer, Held, is_null_document}
pub use Rattle.smithy_serde.specs.HeldReads.{known}
unfoldable pub use Rattle.smithy_serde.specs.HeldReads.{read_scalar}
pub use Rattle.smithy_serde.specs.Ranges.{is_before, is_in_width}
pub use Rattle.smithy_serde.specs.ReadCalls.{AtHand, Begins, Frame, Gives, IsIn, IsMember, NextElement, NextEntry, NextMember, OpensAt}
pub use Rattle.smithy_serde.specs.ReadCalls.{is_of_kind, scalar_of_read, type_of}
pub use Rattle.smithy_serde.specs.Refusals.{IsRefusal, refusal_of_document}
pub use Rattle.smithy_serde.specs.Requests.{document_word, word_of_document}
pub use Rattle.smithy_serde.specs.Steps.{Faults, Step, adds, after, closes, moved, opens}
pub use Rattle.smithy_serde.specs.Told.{Open, State, all_written, begun, empty_state, grouped, written}
pub use Rattle.smithy_serde.specs.Values.{Label, Scalar, Value, Width, Writes, integer, label_of, no_writes, scalar, structure, write}
pub use Rattle.smithy_serde.specs.Values.{whole}
pub use Rattle.std.specs.Bool.{then_some}
pub use Rattle.smithy_serde.specs.Writing.{Carries, IsByRule, Seen, TellsOne, label, scalar_of}
pub use Rattle.smithy_serde.specs.declared.error.SerdeError.{SerdeError}
pub use Rattle.smithy_serde.specs.declared.error.SerdeError.TheVariants.{Custom, InvalidInput, NumericCoercionOverflow, OutOfMemory}
pub use Rattle.smithy_serde.specs.declared.read_scalar.ReadScalar.{ReadScalar}
pub use Rattle.smithy_serde.specs.declared.read_scalar.ScalarKind.{ScalarKind}
pub use Rattle.smithy_serde.specs.declared.scalar.Group.{Group}
pub use Rattle.smithy_types.specs.BigNumbers.{coefficient, exponent_of, is_big_decimal_in_range, is_big_integer_in_range, is_digit}
pub use Rattle.smithy_types.specs.BigNumbers.{is_exponent, is_exponent_mark, is_signed_digits, mantissa_of, unsigned}
pub use Rattle.smithy_types.specs.DocumentView.{items_view, members_view, number_view, view}
pub use Rattle.smithy_types.specs.Documents.{Document, Items, Members, Number, array_in, is_canonical, items_snoc, list_of_items}
pub use Rattle.smithy_types.specs.Documents.{list_of_members, nesting, no_items, no_members, number_of, object_in, put, string_in}
pub use Rattle.smithy_types.specs.Settings.{Discriminated, plain_text_timestamp}
unfoldable pub use Rattle.smithy_types.specs.Settings.{plain_blob, plain_number_timestamp}
pub use Rattle.smithy_types.specs.declared.settings.DocumentSettings.{Ghosts}
pub use Rattle.std.specs.Borrow.{Bor}
pub use Rattle.std.specs.List.{after_first, before_first, fold, list_all, position_or_len}
pub use Rattle.std.specs.Option.{SomeIff, option_and_then, option_copied, option_map_or, option_or, unwrap_or}
