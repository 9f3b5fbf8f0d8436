-- A trait that owns its name: the name, and what it holds.
use Rattle.std.specs.Prelude.{ℕ, List}
use Rattle.smithy_schema.specs.declared.owned_trait.Trait.{Trait}
use Rattle.smithy_schema.specs.declared.owned_trait.Trait.TheVariants as held
use Rattle.smithy_schema.specs.Nodes.{TraitValue, annotation, string_trait, document_trait}

abbrev pub name_of : Trait → List ℕ
name_of (held.Annotation name) = name
name_of (held.String t) = t.0
name_of (held.Document t) = t.0

abbrev pub value_of : Trait → TraitValue
value_of (held.Annotation name) = annotation
value_of (held.String t) = string_trait t.1
value_of (held.Document t) = document_trait t.1

-- its name with what it holds
abbrev pub entry_of : Trait → List ℕ × TraitValue
entry_of t = (name_of t, value_of t)
