-- What a cursor stands for over a root, and how it moves.
use Rattle.std.specs.Prelude.{◌≡◌, ◌<◌, ℕ, ◌-◌, slice_get, Bool, true, false, List, [], ◌∷◌, length, flat_map, Option, Some, None, Result}
use Rattle.smithy_document.specs.Words.{option_map_or, view, Document, nesting, Schema, known, AtHand, IsMember, OpensAt, SerdeError, Group}
use Rattle.std.specs.Global.{Vec}
use Rattle.smithy_types.specs.declared.document.Document as code
use Rattle.smithy_serde.specs.Held as held
use Rattle.smithy_document.specs.declared.spot.Spot.{Spot}
use Rattle.smithy_document.specs.declared.cursor.Cursor.{Cursor}
use Rattle.smithy_document.specs.OpenDocuments.{Part, Opened, reading}
use Rattle.smithy_document.specs.views.Paths.{at_path, opened_along, last_name}

abbrev pub spots_in : Option (Vec Spot) → List Spot
spots_in None = []
spots_in (Some ps) = ps.items

abbrev pub spot_list : Cursor → List Spot
spot_list c = spots_in c.spots

abbrev pub document_in : Document → Cursor → Document
document_in root c = at_path root (spot_list c)

-- the name of the part at hand
abbrev pub name_in : Cursor → List ℕ
name_in c = option_map_or last_name (slice_get (spot_list c) (length (spot_list c) - 1)) []

abbrev pub opened_in : Document → Cursor → List Opened
opened_in root c = opened_along root (spot_list c)

-- what is seen of a reader that stands there, and tells what it holds or not
abbrev pub seen : Bool → Document → Cursor → AtHand
seen tells root c = reading tells (document_in root c) (opened_in root c)

-- the document at hand is opened, by whatever node
abbrev pub Opens : {U : Type 0} → Group → Result U SerdeError → AtHand → AtHand → Type 0
Opens g result old new = (node : Schema) → OpensAt g node old new result

-- the call does this to what is seen over the root, whether the reader tells what it holds or not
abbrev pub Does : (AtHand → AtHand → Type 0) → code.Document → Cursor → Cursor → Type 0
Does this root old new = (tells : Bool) → this (seen tells (view root) old) (seen tells (view root) new)

-- a container is open
abbrev pub IsOpen : Cursor → Type 0
IsOpen c = 0 < length (spot_list c)

-- the innermost container was closed and is at hand again
pub record ClosesAt (before : List Opened) (d : Document) (after : List Opened) : Type 0 where
  pub top : Opened
  pub was : before ≡ top ∷ after
  pub none_left : top.rest ≡ []
  pub again : d ≡ top.container

-- its next part came to hand
pub record StepsTo (name : List ℕ) (before : List Opened) (d : Document) (after : List Opened) : Type 0 where
  pub top : Opened
  pub below : List Opened
  pub more : List Part
  pub was : before ≡ top ∷ below
  pub now_is : after ≡ record top { rest = more } ∷ below
  pub part : top.rest ≡ (name, d) ∷ more
  pub within : nesting d < nesting top.container

abbrev pub Advances : Document → Cursor → Cursor → Bool → Type 0
Advances root old new false = ClosesAt (opened_in root old) (document_in root new) (opened_in root new)
Advances root old new true = IsOpen new × StepsTo (name_in new) (opened_in root old) (document_in root new) (opened_in root new)

-- no part was left whose name is a member's
pub record ClosesBehind (node : Schema) (before : List Opened) (d : Document) (after : List Opened) : Type 0 where
  pub top : Opened
  pub was : before ≡ top ∷ after
  pub none_left : flat_map (known node) top.rest ≡ []
  pub again : d ≡ top.container

-- the next part whose name is a member's came to hand
pub record StepsToMember (node m : Schema) (before : List Opened) (d : Document) (after : List Opened) : Type 0 where
  pub top : Opened
  pub below : List Opened
  pub more : List Part
  pub was : before ≡ top ∷ below
  pub now_is : after ≡ record top { rest = more } ∷ below
  pub field : flat_map (known node) top.rest ≡ (m, held.document d) ∷ flat_map (known node) more
  pub falls : length more < length top.rest
  pub within : nesting d < nesting top.container
  pub is_member : IsMember node m

abbrev pub AdvancesTo : Document → Schema → Cursor → Cursor → Option Schema → Type 0
AdvancesTo root node old new None = ClosesBehind node (opened_in root old) (document_in root new) (opened_in root new)
AdvancesTo root node old new (Some m) = StepsToMember node m (opened_in root old) (document_in root new) (opened_in root new)
