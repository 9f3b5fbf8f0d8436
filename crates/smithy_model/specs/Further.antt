-- Traits that have no field of their own (Smithy, applying traits).
use Rattle.std.specs.Prelude.{ℕ, List, [], ◌∷◌, length, Bool, not, ◌&&◌, ◌==◌, Option, Some, None, if◌then◌else◌}
use Rattle.std.specs.Option.{option_map_or}
use Rattle.serde_json.specs.Data.{Data}
use Rattle.smithy_ids.specs.ShapeIds.{has_hash}
use Rattle.smithy_types.specs.Maps.{with_value}
use Rattle.smithy_schema.specs.Nodes.{TraitValue, document_trait}
use Rattle.smithy_json.specs.FromData.{of_data}
use Rattle.smithy_model.specs.Json.{members_in}
use Rattle.smithy_model.specs.Traits.{is_named_trait}

-- further traits, by their names
abbrev pub Further : Type 0
Further = List (List ℕ × TraitValue)

-- a full name of a trait that has no field
abbrev pub is_further : List ℕ → Bool
is_further name = not (is_named_trait name) && has_hash name

-- the traits with this one, by its document; one with a float is left out
abbrev pub with_further : Further → List ℕ × Data → Further
with_further traits entry =
    if is_further entry.0
    then option_map_or (λ d. with_value entry.0 (document_trait d) traits) (of_data entry.1) traits
    else traits

abbrev pub further_in : Further → List (List ℕ × Data) → Further
further_in traits [] = traits
further_in traits (entry ∷ entries) = further_in (with_further traits entry) entries

abbrev pub unless_none : Further → Option Further
unless_none traits = if length traits == 0 then None else Some traits

-- those of an object, in byte order of their names; none where there is no such trait
abbrev pub further_traits : Data → Option Further
further_traits d = option_map_or (λ entries. unless_none (further_in [] entries)) (members_in d) None
