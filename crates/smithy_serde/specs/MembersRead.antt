-- How the members that a reader hands out are read as one structure.
use Rattle.std.specs.Prelude.{◌≡◌, ℕ, List, [], ◌∷◌, Option, Some, None, option_map, Result, Ok, Err, IfOk}
use Rattle.smithy_types.specs.Results.{then_give}
use Rattle.smithy_schema.specs.Nodes.{Table, Schema}
use Rattle.smithy_serde.specs.Values.{Value, Write, structure, writes_of}
use Rattle.smithy_serde.specs.declared.error.SerdeError.{SerdeError}
use Rattle.smithy_serde.specs.declared.error.SerdeError.TheVariants.{OutOfMemory}
use Rattle.smithy_serde.specs.declared.scalar.Group.TheVariants as group
use Rattle.smithy_serde.specs.declared.value.WriteList.{WriteList}
use Rattle.smithy_serde.specs.views.Handing.{Leaves}
use Rattle.smithy_serde.specs.Held.{Held, Answer}
use Rattle.smithy_serde.specs.IndexOrder.{in_order}
use Rattle.smithy_serde.specs.Listings.{Slot, at_member, Listing}
use Rattle.smithy_serde.specs.ReadCalls.{AtHand, Gives}
use Rattle.smithy_serde.specs.StoredValues.{writes_in, AreDefined}
use Rattle.smithy_serde.specs.ValueRead.{value_read, value_of_structure, write_by, IsPlaced}

abbrev pub with_answer : Answer → Result (List Write) SerdeError → Result (List Write) SerdeError
with_answer (Ok x) rest = rest
with_answer (Err e) rest = Err e

-- the value of one more member, or the answer for its refusal; a hidden one leaves the member out
abbrev pub with_value : Result Value SerdeError → (SerdeError → Answer) → Schema → Result (List Write) SerdeError → Result (List Write) SerdeError
with_value (Ok v) settled m rest = then_give rest (λ ws. write_by m v ∷ ws)
with_value (Err e) settled m rest = with_answer (settled e) rest

abbrev pub at_end : Option SerdeError → Result (List Write) SerdeError
at_end None = Ok []
at_end (Some e) = Err e

abbrev pub values_in : (Slot → SerdeError → Answer) → Option SerdeError → List (Slot × Held) → Result (List Write) SerdeError
values_in settled ends [] = at_end ends
values_in settled ends ((at_member m, h) ∷ items) =
    with_value (value_read m h) (settled (at_member m)) m (values_in settled ends items)
values_in settled ends (i ∷ items) = values_in settled ends items

-- the writes of all members that a listing hands out, in its order, or the first refusal that is not hidden
unfoldable pub values_of_listing : Listing → Result (List Write) SerdeError
values_of_listing listing = values_in listing.settled listing.ends listing.items

-- and as one structure, its writes in index order
abbrev pub structure_listed : Listing → Result Value SerdeError
structure_listed xs = then_give (values_of_listing xs) (λ ws. structure (writes_of (in_order ws)))

-- each item is a member of the table
abbrev pub ArePlaced : Table → List (Slot × Held) → Type 0
ArePlaced table [] = Unit {0}
ArePlaced table ((at_member m, h) ∷ items) = IsPlaced table m × ArePlaced table items
ArePlaced table (i ∷ items) = ⊥

-- want of memory is passed on
abbrev pub PassesMemory : (Slot → SerdeError → Answer) → Type 0
PassesMemory settled = (slot : Slot) → settled slot OutOfMemory ≡ Err OutOfMemory

-- stored writes, as a structure
abbrev pub structure_in : Table → WriteList → Value
structure_in table ws = structure (writes_in table ws)

-- what opening the structure by the node hands out, read as one, where that is told
abbrev pub ReadsListed : Table → Schema → AtHand → Result WriteList SerdeError → Type 0
ReadsListed table node old result =
    (xs : Listing) → old.listing group.Structure node ≡ Some xs → ArePlaced table xs.items → PassesMemory xs.settled
    → Gives (structure_in table) (Some (structure_listed xs)) result

-- the structure at hand is read by the node's own members
pub record ReadsStruct (table : Table) (node : Schema) (old new : AtHand) (result : Result WriteList SerdeError) : Type 0 where
  pub listed : ReadsListed table node old result
  pub gives : Gives (structure_in table) (option_map (value_of_structure value_read node) old.held) result
  pub defined : IfOk result (λ ws. AreDefined table ws)
  pub leaves : Leaves old new result
