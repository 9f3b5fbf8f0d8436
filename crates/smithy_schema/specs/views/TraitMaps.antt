-- A map of traits as its entries: names with what is held under them, in byte order of the names.
use Rattle.std.specs.Prelude.{◌≡◌, ℕ, List, map, String, string_bytes, Option, option_map}
use Rattle.std.specs.Global.{Global}
use Rattle.std.specs.List.{AllByRecursion}
use Rattle.std.specs.Map.{lookup}
use Rattle.smithy_types.specs.Texts.{same_text}
use Rattle.smithy_schema.specs.declared.owned_trait.Trait.{Trait}
use Rattle.smithy_schema.specs.Nodes.{TraitValue}
use Rattle.smithy_schema.specs.views.OwnedTraits.{name_of, value_of}

-- the entry of this name, if one has it
abbrev pub entry_named : List ℕ → List (List ℕ × TraitValue) → Option (List ℕ × TraitValue)
entry_named name entries = option_map (λ v. (name, v)) (lookup (same_text name) entries)

-- the entries of a map as the code keeps them
abbrev pub entries_kept : List (String Global × Trait) → List (List ℕ × TraitValue)
entries_kept es = map (λ e. (string_bytes e.0, value_of e.1)) es

-- each trait stands under its own name
abbrev pub AreUnderTheirNames : List (String Global × Trait) → Type 0
AreUnderTheirNames es = AllByRecursion (λ e. name_of e.1 ≡ string_bytes e.0) es
