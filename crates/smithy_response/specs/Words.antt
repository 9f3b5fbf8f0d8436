-- The names of other crates that this crate's specs and clauses cite, from one place.
pub use Rattle.smithy_http.specs.Responses.{Response}
pub use Rattle.smithy_http.specs.declared.non_utf8.NonUtf8HeaderHandling.{NonUtf8HeaderHandling}
pub use Rattle.smithy_ids.specs.declared.shape_type.ShapeType.{ShapeType}
pub use Rattle.smithy_schema.specs.Nodes.{Schema, Table, at_place, is_response_bound, member_named, members_of, name_of}
pub use Rattle.smithy_schema.specs.References.{schema_of}
pub use Rattle.smithy_schema.specs.declared.schema_ref.SchemaRef.{SchemaRef}
pub use Rattle.smithy_serde.specs.HeaderReads.{decoded_text, elements_of_header, has_dates, header_format, item_of_text, no_value, one_of}
pub use Rattle.smithy_serde.specs.HeaderReads.{one_token, or_parse_refusal, parse_refusal, scalar_of_date, scalar_of_element}
pub use Rattle.smithy_serde.specs.HeaderReads.{scalar_of_header, text_of_header, time_of_header}
pub use Rattle.smithy_serde.specs.Held.{Answer, Held, IsAnswer, Prefixed, is_empty_text, levels_of}
pub use Rattle.smithy_serde.specs.Listings.{Listing, Slot, all_of, as_it_is, at_element, at_key, at_member, contents, contents_at}
pub use Rattle.smithy_serde.specs.Listings.{listing_of, told_at}
pub use Rattle.smithy_serde.specs.ReadCalls.{AtHand, Begins, Frame, Gives, IsIn, IsMember, NextElement, NextEntry, NextMember, NotOpened}
pub use Rattle.smithy_serde.specs.ReadCalls.{Opened, OpensAt, Reads, Skips, TellsNull, is_of_kind, read_at, scalar_of_read, type_of}
pub use Rattle.smithy_serde.specs.declared.deserializer.ShapeDeserializer.{Ghosts}
pub use Rattle.smithy_serde.specs.declared.error.SerdeError.{SerdeError}
pub use Rattle.smithy_serde.specs.declared.error.SerdeError.TheVariants.{InvalidInput, OutOfMemory}
pub use Rattle.smithy_serde.specs.declared.read_scalar.ReadScalar.{ReadScalar}
pub use Rattle.smithy_serde.specs.declared.read_scalar.ScalarKind.{ScalarKind}
pub use Rattle.smithy_serde.specs.declared.scalar.Group.{Group}
pub use Rattle.std.specs.List.{list_all, list_any, starts_with}
pub use Rattle.std.specs.Option.{option_copied, option_map_or}
pub use Rattle.std.specs.Str.{is_utf8, str_to_ascii_lowercase}
