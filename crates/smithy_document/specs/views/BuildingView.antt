-- What the parts of a document serializer stand for.
use Rattle.std.specs.Prelude.{ℕ, Bool, List, Option, Result, option_map}
use Rattle.smithy_document.specs.Words.{Bor, option_copied, view, items_view, members_view}
use Rattle.smithy_types.specs.declared.document.Document.{Document}
use Rattle.smithy_document.specs.declared.building.Building as declared
use Rattle.smithy_document.specs.declared.building.Building.TheVariants as code
use Rattle.smithy_document.specs.declared.building.Whole as declared_whole
use Rattle.smithy_document.specs.Building.{Whole, Building, top, items, fields, entries, put_named}

-- the value at the top
abbrev pub whole_view : declared_whole.Whole → Whole
whole_view w = record { document = view w.document; discriminator = w.discriminator }

-- what a list of writes has come to
abbrev pub building_view : declared.Building → Building
building_view (code.Top w) = top (option_map whole_view w)
building_view (code.Items ds) = items (items_view ds)
building_view (code.Fields ms) = fields (members_view ms)
building_view (code.Entries ms key) = entries (members_view ms) key

-- a document ends in it, under a node of this member name and full name
abbrev pub put_view : Option (Bor (List ℕ)) → List ℕ → Bool → Document → declared.Building → Result Building (List ℕ)
put_view name full_name of_structure d b = put_named (option_copied name) full_name of_structure (view d) (building_view b)
