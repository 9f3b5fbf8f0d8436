-- A reader of documents, with the containers that are open.
use Rattle.std.specs.Prelude.{ℕ, Bool, true, false, List, [], ◌∷◌, map, flat_map, length, Option, Some, None, option_map, Ok, Err}
use Rattle.smithy_document.specs.Words.{Document, Items, nesting, list_of_members, ShapeType, Schema, Group, Held, known, Frame, AtHand, then_some}
use Rattle.smithy_types.specs.Documents as doc
use Rattle.smithy_ids.specs.declared.shape_type.ShapeType.TheVariants as kind
use Rattle.smithy_serde.specs.declared.scalar.Group.TheVariants as group
use Rattle.smithy_serde.specs.Held as held
use Rattle.smithy_serde.specs.Listings.{Listing, at_member, at_element, at_key, listing_of, contents_at, told_at}

-- an item of an array or an object, with its name; an item of an array has the empty one
abbrev pub Part : Type 0
Part = List ℕ × Document

abbrev pub nameless : Items → List Part
nameless doc.no_items = []
nameless (doc.item d ds) = ([], d) ∷ nameless ds

-- the parts of an array or an object, in order
abbrev pub parts_of : Document → List Part
parts_of (doc.array ds) = nameless ds
parts_of (doc.object ms) = list_of_members ms
parts_of _ = []

-- an array opens as a list, an object as a map or a structure
abbrev pub opens_as : Group → Document → Bool
opens_as group.List (doc.array ds) = true
opens_as group.Map (doc.object ms) = true
opens_as group.Structure (doc.object ms) = true
opens_as _ _ = false

-- the kind that is asked for by opening
abbrev pub kind_of_group : Group → ShapeType
kind_of_group group.List = kind.List
kind_of_group group.Map = kind.Map
kind_of_group group.Structure = kind.Structure

-- an open container with its parts that are still to come
pub record Opened : Type 0 where
  pub form : Group
  pub container : Document
  pub rest : List Part

-- what is still handed out
abbrev pub handed_out : Group → List Part → Option Schema → Option Listing
handed_out group.Structure ps by = option_map (λ node. listing_of {A = Schema × Held} (λ m. (at_member m.0, m.1)) (Ok (flat_map (known node) ps))) by
handed_out group.List ps by = Some (listing_of {A = Held} (λ x. (at_element, x)) (Ok (map (λ p. held.document p.1) ps)))
handed_out group.Map ps by = Some (listing_of {A = List ℕ × Held} (λ e. (at_key e.0, e.1)) (Ok (map (λ p. (p.0, held.document p.1)) ps)))

-- the same, where the reader tells what it holds
abbrev pub told_out : Bool → Group → List Part → Option Schema → Option Listing
told_out true g ps by = handed_out g ps by
told_out false g ps by = None

abbrev pub frame_of : Bool → Opened → Frame
frame_of tells o = record {
  form = o.form;
  container = then_some tells (held.document o.container);
  depth = nesting o.container;
  to_come = told_out tells o.form o.rest;
  left = λ by. length o.rest;
  settled = Some (λ e. Err e);
}

-- a reader with this document at hand inside these containers, the innermost first
abbrev pub reading : Bool → Document → List Opened → AtHand
reading tells d os =
    let h = then_some tells (held.document d) in
    record {
      held = h;
      levels = nesting d;
      listing = contents_at h;
      size = λ g node. length (parts_of d);
      opened = map (frame_of tells) os;
      told = told_at h;
    }
