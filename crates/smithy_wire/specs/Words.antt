-- The names of other crates that this crate's specs and clauses cite, from one place.
pub use Rattle.json.specs.Json.{Json}
pub use Rattle.smithy_ids.specs.Kinds.{kind_word}
pub use Rattle.smithy_ids.specs.declared.shape_type.ShapeType.{ShapeType}
pub use Rattle.smithy_ids.specs.declared.traits.TimestampFormat.{TimestampFormat}
pub use Rattle.smithy_schema.specs.Nodes.{Schema, Table, at_place, element_of, is_bound, is_response_bound, member_at, member_named, members_of, name_of}
pub use Rattle.smithy_schema.specs.Nodes.{shape, time_format, value_of}
pub use Rattle.smithy_schema.specs.References.{schema_of}
pub use Rattle.smithy_serde.specs.DocumentReads.{integer_of_number, number_text}
pub use Rattle.smithy_serde.specs.Held.{Held}
pub use Rattle.smithy_serde.specs.Ranges.{is_number_in_range}
pub use Rattle.smithy_serde.specs.declared.error.SerdeError.{SerdeError}
pub use Rattle.smithy_serde.specs.declared.error.SerdeError.TheVariants.{InvalidInput}
pub use Rattle.smithy_types.specs.Documents.{Document, Number, number_of}
pub use Rattle.smithy_types.specs.Results.{then_give, then_try}
pub use Rattle.smithy_types.specs.Texts.{are_distinct, is_one_of, same_text}
pub use Rattle.std.specs.Borrow.{Bor}
pub use Rattle.std.specs.List.{list_all}
pub use Rattle.std.specs.Option.{option_map_or, option_or, unwrap_or}
