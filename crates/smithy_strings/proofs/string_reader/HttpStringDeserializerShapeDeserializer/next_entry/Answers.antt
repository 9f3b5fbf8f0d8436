use Rattle.std.proofs.Common.{refl, inl}
use Rattle.smithy_strings.proofs.string_reader.HttpStringDeserializerShapeDeserializer.next_entry.Goals as goal

pub returns : goal.returns
returns c = record { still = λ top below at. (top, at, refl); refused = λ top below at. inl refl }
