-- What a request has of a label member (Smithy, HTTP protocol bindings, httpLabel).
use Rattle.std.specs.Prelude.{ℕ, List, Option, Some, option_map, option_and_then}
use Rattle.smithy_types.specs.Texts.{found}
use Rattle.smithy_schema.specs.Nodes.{Schema, name_of}
use Rattle.smithy_serde.specs.Values.{Value}
use Rattle.smithy_strings.specs.declared.wire.Place.TheVariants.{Label}
use Rattle.smithy_recovery.specs.HeaderParts.{text_value}

-- the value of a label member by the texts of the path
abbrev pub label_part : Schema → List (List ℕ × List ℕ) → Option (Option Value)
label_part m texts = option_map (λ v. Some v) (option_and_then (text_value m Label) (found (name_of m) texts))
