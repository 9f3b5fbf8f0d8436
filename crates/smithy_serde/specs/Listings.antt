-- The items that opening a held thing hands out.
use Rattle.std.specs.Prelude.{◌≡◌, ℕ, List, [], map, Option, Some, None, option_map, Result, Ok, Err}
use Rattle.std.proofs.Common.{ap}
use Rattle.smithy_schema.specs.Nodes.{Schema}
use Rattle.smithy_serde.specs.declared.error.SerdeError.{SerdeError}
use Rattle.smithy_serde.specs.declared.scalar.Group.{Group}
use Rattle.smithy_serde.specs.declared.scalar.Group.TheVariants as group
use Rattle.smithy_serde.specs.Held.{Held, Answer}
use Rattle.smithy_serde.specs.HeldReads.{elements, entries, fields}

-- what an item is called in its container
pub data Slot : Type 0 where
  at_member : Schema → Slot
  at_element : Slot
  at_key : List ℕ → Slot

-- The items that a container hands out, the refusal that ends them, if any, and what `settle` answers for a consumer's refusal at one of them.
pub record Listing : Type 0 where
  pub items : List (Slot × Held)
  pub ends : Option SerdeError
  pub settled : Slot → SerdeError → Answer

-- a consumer's refusal is answered as it is
abbrev pub as_it_is : Slot → SerdeError → Answer
as_it_is slot e = Err e

abbrev pub all_of : List (Slot × Held) → Listing
all_of items = record { items = items; ends = None; settled = as_it_is }

abbrev pub none_but : SerdeError → Listing
none_but e = record { items = []; ends = Some e; settled = as_it_is }

abbrev pub listing_of : {A : Type 0} → (A → Slot × Held) → Result (List A) SerdeError → Listing
listing_of named (Ok xs) = all_of (map named xs)
listing_of named (Err e) = none_but e

-- what opening a held thing in each way hands out
abbrev pub contents : Group → Schema → Held → Listing
contents group.Structure node h = listing_of (λ m. (at_member m.0, m.1)) (fields node h)
contents group.List node h = listing_of (λ x. (at_element, x)) (elements node h)
contents group.Map node h = listing_of (λ e. (at_key e.0, e.1)) (entries node h)

-- The node that the next item is asked for by: a structure's items are asked for by a node, since a reader keeps none.
abbrev pub asked : Group → Schema → Option Schema
asked group.Structure node = Some node
asked _ node = None

-- what opening a held thing hands out, where it is told
abbrev pub contents_at : Option Held → Group → Schema → Option Listing
contents_at held g node = option_map (contents g node) held

pub told_at : (held : Option Held) (g : Group) (node : Schema) (h : Held) → held ≡ Some h → contents_at held g node ≡ Some (contents g node h)
told_at held g node h e = ap (option_map (contents g node)) e
