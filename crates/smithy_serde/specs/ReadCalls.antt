-- What is seen of a reader, and how its calls change it.
use Rattle.std.specs.Prelude.{◌≡◌, ◌<◌, ◌≤◌, ◌⊎◌, ℕ, Bool, true, false, IsTrue, List, [], ◌∷◌, ◌++◌, Option, Some, None, option_map, IfSome, Result, Ok, Err, IfOk}
use Rattle.smithy_ids.specs.declared.shape_type.ShapeType.{ShapeType}
use Rattle.smithy_ids.specs.declared.shape_type.ShapeType.TheVariants as kind
use Rattle.smithy_types.specs.DocumentView.{view}
use Rattle.smithy_types.specs.declared.document.Document.{Document}
use Rattle.smithy_schema.specs.Nodes.{Schema, member_at}
use Rattle.smithy_schema.specs.References.{schema_of}
use Rattle.smithy_schema.specs.declared.schema_ref.SchemaRef.{SchemaRef}
use Rattle.smithy_types.specs.Documents.{is_canonical}
use Rattle.smithy_serde.specs.Values as value
use Rattle.smithy_serde.specs.Values.{Scalar, byte, short, integer, long}
use Rattle.smithy_serde.specs.declared.error.SerdeError.{SerdeError}
use Rattle.smithy_serde.specs.declared.error.SerdeError.TheVariants.{OutOfMemory}
use Rattle.smithy_serde.specs.declared.scalar.Group.{Group}
use Rattle.smithy_serde.specs.declared.scalar.Group.TheVariants as group
use Rattle.smithy_serde.specs.declared.read_scalar.ScalarKind.{ScalarKind}
use Rattle.smithy_serde.specs.declared.read_scalar.ScalarKind.TheVariants as of
use Rattle.smithy_serde.specs.declared.read_scalar.ReadScalar.{ReadScalar}
use Rattle.smithy_serde.specs.declared.read_scalar.ReadScalar.TheVariants as given
use Rattle.smithy_serde.specs.Held.{Held, Answer, IsAnswer, is_null_held, walked}
use Rattle.smithy_serde.specs.HeldReads.{read_scalar}
use Rattle.smithy_serde.specs.Listings.{Slot, at_member, at_element, at_key, Listing, contents, asked}

-- an open container
pub record Frame : Type 0 where
  pub form : Group
  -- what is at hand again once it is closed, and its levels
  pub container : Option Held
  pub depth : ℕ
  -- the items still to come, where they are told, and a number that falls with each
  pub to_come : Option Schema → Option Listing
  pub left : Option Schema → ℕ
  -- what `settle` answers for a refusal at the item at hand
  pub settled : Option (SerdeError → Answer)

-- what is seen of a reader
pub record AtHand : Type 0 where
  -- the value at hand, where it is told, and how many containers of it can be opened, one inside the other, at most
  pub held : Option Held
  pub levels : ℕ
  -- what opening it hands out, where that is told, and how many items at most
  pub listing : Group → Schema → Option Listing
  pub size : Group → Schema → ℕ
  -- the open containers, the innermost first
  pub opened : List Frame
  -- where the value at hand is told, so is what opening it hands out
  pub told : (g : Group) (node : Schema) (h : Held) → held ≡ Some h → listing g node ≡ Some (contents g node h)

-- A reader that begins: this is at hand, where it is told, and nothing is open.
pub record Begins (held : Option Held) (seen : AtHand) : Type 0 where
  pub has : seen.held ≡ held
  pub none_open : seen.opened ≡ []

-- the innermost open container was opened in this way
abbrev pub IsIn : Group → AtHand → Type 0
IsIn g seen = IsInnermost g seen.opened
  where
    IsInnermost : Group → List Frame → Type 0
    IsInnermost g [] = ⊥
    IsInnermost g (o ∷ os) = o.form ≡ g

-- the kind of shape that is read
abbrev pub type_of : ScalarKind → ShapeType
type_of of.Boolean = kind.Boolean
type_of of.Byte = kind.Byte
type_of of.Short = kind.Short
type_of of.Integer = kind.Integer
type_of of.Long = kind.Long
type_of of.BigInteger = kind.BigInteger
type_of of.BigDecimal = kind.BigDecimal
type_of of.String = kind.String
type_of of.Blob = kind.Blob
type_of of.Timestamp = kind.Timestamp
type_of of.Document = kind.Document

-- what was read
abbrev pub scalar_of_read : ReadScalar → Scalar
scalar_of_read (given.Boolean b) = value.boolean b
scalar_of_read (given.Byte n) = value.whole byte n
scalar_of_read (given.Short n) = value.whole short n
scalar_of_read (given.Integer n) = value.whole integer n
scalar_of_read (given.Long n) = value.whole long n
scalar_of_read (given.BigInteger t) = value.big_integer t
scalar_of_read (given.BigDecimal t) = value.big_decimal t
scalar_of_read (given.String t) = value.text t
scalar_of_read (given.Blob bytes) = value.blob bytes
scalar_of_read (given.Timestamp seconds) = value.timestamp seconds
scalar_of_read (given.Document d) = value.document (view d)

-- a document
abbrev pub tree : Document → Scalar
tree d = value.document (view d)

-- a value of the kind; a document is canonical
abbrev pub is_of_kind : ScalarKind → Scalar → Bool
is_of_kind of.Boolean (value.boolean b) = true
is_of_kind of.Byte (value.whole byte n) = true
is_of_kind of.Short (value.whole short n) = true
is_of_kind of.Integer (value.whole integer n) = true
is_of_kind of.Long (value.whole long n) = true
is_of_kind of.BigInteger (value.big_integer t) = true
is_of_kind of.BigDecimal (value.big_decimal t) = true
is_of_kind of.String (value.text t) = true
is_of_kind of.Blob (value.blob bytes) = true
is_of_kind of.Timestamp (value.timestamp seconds) = true
is_of_kind of.Document (value.document d) = is_canonical d
is_of_kind _ _ = false

-- what reading a scalar of the kind gives, where the value at hand is told
abbrev pub read_at : ScalarKind → Schema → Option Held → Option (Result Scalar SerdeError)
read_at k node held = option_map (read_scalar (type_of k) node) held

-- the answer, seen by `f`, is that one, or memory was wanted
abbrev pub Gives : {A V : Type 0} → (A → V) → Option (Result V SerdeError) → Result A SerdeError → Type 0
Gives f None given = Unit {0}
Gives f (Some (Ok v)) (Ok a) = f a ≡ v
Gives f (Some (Ok v)) (Err e) = e ≡ OutOfMemory
Gives f (Some (Err x)) (Ok a) = ⊥
Gives f (Some (Err x)) (Err e) = (e ≡ x) ⊎ (e ≡ OutOfMemory)

-- a scalar of the kind is read: what is open stays open
pub record Reads {A : Type 0} (f : A → Scalar) (k : ScalarKind) (node : Schema) (old new : AtHand) (result : Result A SerdeError) : Type 0 where
  pub opened : new.opened ≡ old.opened
  pub levels : new.levels ≡ old.levels
  pub of_kind : IfOk result (λ a. IsTrue (is_of_kind k (f a)))
  pub gives : Gives f (read_at k node old.held) result

-- the value at hand is passed over
pub record Skips {A : Type 0} (old new : AtHand) (result : Result A SerdeError) : Type 0 where
  pub opened : new.opened ≡ old.opened
  pub levels : new.levels ≡ old.levels

-- nothing was handed out: want of memory, or the refusal that ends the items
pub record IsRefusedAt (listing : Listing) (e : SerdeError) : Type 0 where
  pub none_left : listing.items ≡ []
  pub ended : listing.ends ≡ Some e

abbrev pub IsRefused : Option Listing → SerdeError → Type 0
IsRefused listing e = (e ≡ OutOfMemory) ⊎ IfSome listing (λ xs. IsRefusedAt xs e)

-- the container at hand was opened
pub record Opened (g : Group) (node : Schema) (old new : AtHand) : Type 0 where
  pub frame : Frame
  pub now_is : new.opened ≡ frame ∷ old.opened
  pub form : frame.form ≡ g
  pub container : frame.container ≡ option_map walked old.held
  pub depth : frame.depth ≡ old.levels
  pub within : frame.left (asked g node) ≤ old.size g node
  pub to_come : frame.to_come (asked g node) ≡ old.listing g node

-- it was not
pub record NotOpened (g : Group) (node : Schema) (old new : AtHand) (e : SerdeError) : Type 0 where
  pub opened : new.opened ≡ old.opened
  pub levels : new.levels ≡ old.levels
  pub refused : IsRefused (old.listing g node) e

abbrev pub OpensAt : {U : Type 0} → Group → Schema → AtHand → AtHand → Result U SerdeError → Type 0
OpensAt g node old new (Ok _) = Opened g node old new
OpensAt g node old new (Err e) = NotOpened g node old new e

-- an item is handed out: the first of the listing, where that is told
abbrev pub Hands : Option Listing → Slot → Option Held → Option Listing → Type 0
Hands None slot held after = Unit {0}
Hands (Some xs) slot held after =
    (x : Held) × (more : List (Slot × Held))
    × (xs.items ≡ (slot, x) ∷ more) × (held ≡ Some x) × (after ≡ Some (record xs { items = more }))

-- what `settle` answers at the item at hand is what the listing says
abbrev pub SettlesBy : Option Listing → Slot → Option (SerdeError → Answer) → Type 0
SettlesBy None slot settled = Unit {0}
SettlesBy (Some xs) slot settled = (f : SerdeError → Answer) × (settled ≡ Some f) × ((e : SerdeError) → f e ≡ xs.settled slot e)

-- the next item came to hand
pub record Advanced (by : Option Schema) (slot : Slot) (old new : AtHand) : Type 0 where
  pub top : Frame
  pub next : Frame
  pub below : List Frame
  pub was : old.opened ≡ top ∷ below
  pub now_is : new.opened ≡ next ∷ below
  pub form : next.form ≡ top.form
  pub container : next.container ≡ top.container
  pub depth : next.depth ≡ top.depth
  pub falls : next.left by < top.left by
  pub lower : new.levels < top.depth
  pub hands : Hands (top.to_come by) slot new.held (next.to_come by)
  pub settles : SettlesBy (top.to_come by) slot next.settled

-- the innermost container was closed and is at hand again
pub record Closed (by : Option Schema) (old new : AtHand) : Type 0 where
  pub top : Frame
  pub was : old.opened ≡ top ∷ new.opened
  pub held : new.held ≡ top.container
  pub levels : new.levels ≡ top.depth
  pub none_left : IfSome (top.to_come by) (λ xs. xs.items ≡ [])
  pub not_refused : IfSome (top.to_come by) (λ xs. xs.ends ≡ None)

-- no item came to hand; what is open around the container is as it was, and so are the levels of the container
pub record Halted (by : Option Schema) (old new : AtHand) (e : SerdeError) : Type 0 where
  pub still : (top : Frame) (below : List Frame) → old.opened ≡ top ∷ below → (next : Frame) × (new.opened ≡ next ∷ below) × (next.depth ≡ top.depth)
  pub refused : (top : Frame) (below : List Frame) → old.opened ≡ top ∷ below → IsRefused (top.to_come by) e

-- one of the schema's members
abbrev pub IsMember : Schema → Schema → Type 0
IsMember node m = (position : ℕ) × (member_at node position ≡ Some m)

-- a member of the schema came to hand
pub record MemberAdvanced (node m : Schema) (old new : AtHand) : Type 0 where
  pub advanced : Advanced (Some node) (at_member m) old new
  pub is_member : IsMember node m

abbrev pub NextMember : Schema → AtHand → AtHand → Result (Option SchemaRef) SerdeError → Type 0
NextMember node old new (Ok None) = Closed (Some node) old new
NextMember node old new (Ok (Some m)) = MemberAdvanced node (schema_of m) old new
NextMember node old new (Err e) = Halted (Some node) old new e

abbrev pub NextElement : AtHand → AtHand → Result Bool SerdeError → Type 0
NextElement old new (Ok false) = Closed None old new
NextElement old new (Ok true) = Advanced None at_element old new
NextElement old new (Err e) = Halted None old new e

abbrev pub NextEntry : AtHand → AtHand → Result (Option (List ℕ)) SerdeError → Type 0
NextEntry old new (Ok None) = Closed None old new
NextEntry old new (Ok (Some key)) = Advanced None (at_key key) old new
NextEntry old new (Err e) = Halted None old new e

-- a consumer's refusal is hidden: what was opened since the member came to hand is closed
abbrev pub Hidden : SerdeError → AtHand → AtHand → Type 0
Hidden refusal old new =
    (above below : List Frame) (frame : Frame) → frame.form ≡ group.Structure → old.opened ≡ above ++ (frame ∷ below)
    → (new.opened ≡ frame ∷ below) × IfSome frame.settled (λ f. f refusal ≡ Ok tt)

-- or answered
pub record Answered (refusal : SerdeError) (old new : AtHand) (e : SerdeError) : Type 0 where
  pub opened : new.opened ≡ old.opened
  pub settled : (above below : List Frame) (frame : Frame) → frame.form ≡ group.Structure → old.opened ≡ above ++ (frame ∷ below)
      → IfSome frame.settled (λ f. IsAnswer (f refusal) (Err e))

abbrev pub Settles : {U : Type 0} → SerdeError → AtHand → AtHand → Result U SerdeError → Type 0
Settles refusal old new (Ok _) = Hidden refusal old new
Settles refusal old new (Err e) = Answered refusal old new e

-- whether the value at hand is the null
abbrev pub TellsNull : AtHand → Bool → Type 0
TellsNull seen result = IfSome seen.held (λ h. result ≡ is_null_held h)
