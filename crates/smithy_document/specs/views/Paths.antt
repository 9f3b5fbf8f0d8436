-- Paths into a document.
use Rattle.std.specs.Prelude.{ℕ, ◌+◌, ◌-◌, List, [], ◌∷◌, drop, slice_get, Option, Some, None, option_map}
use Rattle.smithy_document.specs.Words.{option_map_or, option_and_then, unwrap_or, fold, Document, array_in, object_in, list_of_items, list_of_members}
use Rattle.std.specs.Global.{Vec}
use Rattle.std.specs.Map.{lookup}
use Rattle.smithy_types.specs.Texts.{same_text}
use Rattle.smithy_document.specs.declared.spot.Spot.{Spot}
use Rattle.smithy_document.specs.OpenDocuments.{Part, nameless, Opened}
use Rattle.smithy_document.specs.views.Ways.{last_handed, opened_on}

-- the names by which an object is asked; an array has none
abbrev pub Names : Type 0
Names = Option (Vec (List ℕ))

abbrev pub name_at : Names → ℕ → List ℕ
name_at None i = []
name_at (Some names) i = unwrap_or (slice_get names.items i) []

-- the part at a position
abbrev pub part_in : Document → Names → ℕ → Option Document
part_in d None i = option_and_then (λ ds. slice_get (list_of_items ds) i) (array_in d)
part_in d (Some names) i = option_and_then (λ ms. option_and_then (λ name. lookup (same_text name) (list_of_members ms)) (slice_get names.items i)) (object_in d)

-- the position behind the next part of an open container, where there is one
abbrev pub position_behind : Document → Spot → Option ℕ
position_behind d p = option_map (λ _. p.next + 1) (part_in d p.names p.next)

-- the parts with these names, in this order, up to a name that is missing
abbrev pub named : List Part → List (List ℕ) → List Part
named ps [] = []
named ps (name ∷ names) = option_map_or (λ d. (name, d) ∷ named ps names) (lookup (same_text name) ps) []

-- the parts from a position on
abbrev pub rest_in : Document → Names → ℕ → List Part
rest_in d None i = option_map_or (λ ds. drop i (nameless ds)) (array_in d) []
rest_in d (Some names) i = option_map_or (λ ms. named (list_of_members ms) (drop i names.items)) (object_in d) []

-- the part that was handed out last, the container itself where none was
abbrev pub step_in : Document → Spot → Document
step_in d p = last_handed (part_in d p.names) p.next d

-- the document at the end of a path
abbrev pub at_path : Document → List Spot → Document
at_path d ps = fold step_in d ps

abbrev pub opened_at : Document → Spot → Opened
opened_at d p = record { form = p.form; container = d; rest = rest_in d p.names p.next }

-- the open containers along a path, the innermost first
abbrev pub opened_along : Document → List Spot → List Opened
opened_along d ps = opened_on step_in opened_at d ps

-- the name of the part that was handed out last in the innermost container
abbrev pub last_name : Spot → List ℕ
last_name p = name_at p.names (p.next - 1)
