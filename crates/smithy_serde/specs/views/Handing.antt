-- How the items of a container go to a consumer.
use Rattle.std.specs.Prelude.{◌≡◌, ◌++◌, ℕ, List, [], ◌∷◌, Option, Some, None, option_map, Result, Ok, Err, IfSome, ◌⊎◌, MatchResult}
use Rattle.std.proofs.Common.{refl, ◌∙◌}
use Rattle.smithy_schema.specs.Nodes.{Schema}
use Rattle.smithy_schema.specs.References.{schema_of}
use Rattle.smithy_schema.specs.declared.schema_ref.SchemaRef.{SchemaRef}
use Rattle.smithy_serde.specs.declared.error.SerdeError.{SerdeError}
use Rattle.smithy_serde.specs.declared.error.SerdeError.TheVariants.{OutOfMemory}
use Rattle.smithy_serde.specs.declared.scalar.Group.{Group}
use Rattle.smithy_serde.specs.declared.scalar.Group.TheVariants as group
use Rattle.smithy_serde.specs.Held.{Held, Answer, IsAnswer, walked}
use Rattle.smithy_serde.specs.Listings.{Slot, at_member, at_element, at_key, Listing, as_it_is}
use Rattle.smithy_serde.specs.ReadCalls.{Frame, AtHand}

-- the answer at the end of the items
abbrev pub ending : Option SerdeError → Answer
ending None = Ok tt
ending (Some e) = Err e

-- what is answered for a consumer's answer, after `settle`
abbrev pub settled_by : (SerdeError → Answer) → Answer → Answer
settled_by settled (Ok x) = Ok tt
settled_by settled (Err e) = settled e

-- `takes` joins the states along the items, in order, each item once, up to the first refusal that
-- `settled` lets through; memory may run out before any item
abbrev pub HandsOut : {S : Type 0} → (S → Slot → Held → S → Answer → Type 0) → (Slot → SerdeError → Answer) → Option SerdeError → List (Slot × Held) → S → S → Answer → Type 0
HandsOut {S} takes settled ends [] old new answer = (new ≡ old) × IsAnswer (ending ends) answer
HandsOut {S} takes settled ends (i ∷ is) old new answer =
    ((new ≡ old) × (answer ≡ Err OutOfMemory))
    ⊎ ((mid : S) × (given : Answer) × takes old i.0 i.1 mid given
    × (((new ≡ mid) × (answer ≡ Err OutOfMemory))
    ⊎ MatchResult (settled_by (settled i.0) given)
    (λ _. HandsOut takes settled ends is mid new answer)
    (λ e. (new ≡ mid) × (answer ≡ Err e))))

-- a consumer of members takes members alone, and so on
abbrev pub at_members : {S : Type 0} → (S → Schema → Held → S → Answer → Type 0) → S → Slot → Held → S → Answer → Type 0
at_members {S} takes old (at_member node) held new answer = takes old node held new answer
at_members {S} takes old _ held new answer = ⊥

abbrev pub at_elements : {S : Type 0} → (S → Held → S → Answer → Type 0) → S → Slot → Held → S → Answer → Type 0
at_elements {S} takes old at_element held new answer = takes old held new answer
at_elements {S} takes old _ held new answer = ⊥

abbrev pub at_entries : {S : Type 0} → (S → List ℕ → Held → S → Answer → Type 0) → S → Slot → Held → S → Answer → Type 0
at_entries {S} takes old (at_key key) held new answer = takes old key held new answer
at_entries {S} takes old _ held new answer = ⊥

-- those containers are still open, below what was opened since
abbrev pub IsAbove : AtHand → AtHand → Type 0
IsAbove old new = (more : List Frame) × (new.opened ≡ more ++ old.opened)

-- where a consumer leaves the reader
abbrev pub Leaves : {U : Type 0} → AtHand → AtHand → Result U SerdeError → Type 0
Leaves old new (Ok x) = new.opened ≡ old.opened
Leaves old new (Err e) = IsAbove old new

-- what is kept over no calls, and over calls in turn
pub record IsKept {S : Type 0} (keeps : S → S → Type 0) : Type 0 where
  pub by_none : (s : S) → keeps s s
  pub by_both : (r s t : S) → keeps r s → keeps s t → keeps r t

-- what f tells of a state is kept
abbrev pub Same : {S X : Type 0} → (S → X) → S → S → Type 0
Same f old new = f new ≡ f old

pub same_kept : {S X : Type 0} (f : S → X) → IsKept (Same f)
same_kept f = record { by_none = λ s. refl; by_both = λ r s t p q. q ∙ p }

-- nothing is kept
abbrev pub KeepsNone : {S : Type 0} → S → S → Type 0
KeepsNone old new = Unit {0}

pub none_kept : {S : Type 0} → IsKept (KeepsNone {S = S})
none_kept = record { by_none = λ s. tt; by_both = λ r s t p q. tt }

-- a consumer takes an item, and keeps what it keeps also where the value at hand isn't told
pub record Takes {S : Type 0} (takes : S → Slot → Held → S → Answer → Type 0) (keeps : S → S → Type 0) (slot : Slot) (start last : S) (old new : AtHand) (answer : Answer) : Type 0 where
  pub taken : IfSome old.held (λ h. takes start slot h last answer)
  pub kept : keeps start last
  pub leaves : Leaves old new answer

-- a call of a consumer, by which item it takes
abbrev pub MemberTaken : {S D : Type 0} → (S → Schema → Held → S → Answer → Type 0) → (S → S → Type 0) → (D → AtHand) → SchemaRef → S → S → D → D → Answer → Type 0
MemberTaken takes keeps at schema start last old new answer = Takes (at_members takes) keeps (at_member (schema_of schema)) start last (at old) (at new) answer

abbrev pub ElementTaken : {S D : Type 0} → (S → Held → S → Answer → Type 0) → (S → S → Type 0) → (D → AtHand) → S → S → D → D → Answer → Type 0
ElementTaken takes keeps at start last old new answer = Takes (at_elements takes) keeps at_element start last (at old) (at new) answer

abbrev pub EntryTaken : {S D : Type 0} → (S → List ℕ → Held → S → Answer → Type 0) → (S → S → Type 0) → (D → AtHand) → List ℕ → S → S → D → D → Answer → Type 0
EntryTaken takes keeps at key start last old new answer = Takes (at_entries takes) keeps (at_key key) start last (at old) (at new) answer

-- the container is closed, and at hand again
pub record Again (old new : AtHand) : Type 0 where
  pub opened : new.opened ≡ old.opened
  pub held : new.held ≡ option_map walked old.held
  pub levels : new.levels ≡ old.levels

abbrev pub LeavesAll : {U : Type 0} → AtHand → AtHand → Result U SerdeError → Type 0
LeavesAll old new (Ok x) = Again old new
LeavesAll old new (Err e) = IsAbove old new

-- a refusal at an item of a structure is settled, any other is answered as it is
abbrev pub settled_in : Group → Listing → Slot → SerdeError → Answer
settled_in group.Structure xs = xs.settled
settled_in _ xs = as_it_is

abbrev pub AllHanded : {S : Type 0} → (S → Slot → Held → S → Answer → Type 0) → Group → Option Listing → S → S → Answer → Type 0
AllHanded {S} takes g listing start last answer = IfSome listing (λ xs. HandsOut takes (settled_in g xs) xs.ends xs.items start last answer)

-- the members that opening the value at hand by the schema hands out go to a consumer, and so on
abbrev pub HandsMembers : {S : Type 0} → (S → Schema → Held → S → Answer → Type 0) → AtHand → SchemaRef → S → S → Answer → Type 0
HandsMembers takes seen schema start last answer = AllHanded (at_members takes) group.Structure (seen.listing group.Structure (schema_of schema)) start last answer

abbrev pub HandsElements : {S : Type 0} → (S → Held → S → Answer → Type 0) → AtHand → SchemaRef → S → S → Answer → Type 0
HandsElements takes seen schema start last answer = AllHanded (at_elements takes) group.List (seen.listing group.List (schema_of schema)) start last answer

abbrev pub HandsEntries : {S : Type 0} → (S → List ℕ → Held → S → Answer → Type 0) → AtHand → SchemaRef → S → S → Answer → Type 0
HandsEntries takes seen schema start last answer = AllHanded (at_entries takes) group.Map (seen.listing group.Map (schema_of schema)) start last answer

-- a container is opened, and its items go to a consumer
pub record HandsAll {S : Type 0} (takes : S → Slot → Held → S → Answer → Type 0) (keeps : S → S → Type 0) (g : Group) (node : Schema) (start last : S) (old new : AtHand) (answer : Answer) : Type 0 where
  pub handed : AllHanded takes g (old.listing g node) start last answer
  pub kept : keeps start last
  pub leaves : LeavesAll old new answer
