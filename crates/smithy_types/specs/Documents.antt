-- What a document is: an object has each name once, in byte order.
use Rattle.std.specs.Prelude.{ℕ, suc, max, Bool, true, false, ◌&&◌, List, [], ◌∷◌, Option, Some, None, ℤ, pos, negsuc}
use Rattle.std.specs.Ordering.{nat_cmp, match_ordering}
use Rattle.std.specs.Cmp.Lexicographic.{slice_cmp}

pub data Number : Type 0 where
  positive : ℕ → Number
  negative : ℤ → Number

mutual
  pub data Document : Type 0 where
    null : Document
    boolean : Bool → Document
    number : Number → Document
    string : List ℕ → Document
    array : Items → Document
    object : Members → Document

  pub data Items : Type 0 where
    no_items : Items
    item : Document → Items → Items

  pub data Members : Type 0 where
    no_members : Members
    member : List ℕ → Document → Members → Members

-- a number that is not negative is `positive`
abbrev pub number_of : ℤ → Number
number_of (pos n) = positive n
number_of (negsuc n) = negative (negsuc n)

-- the members with d at k
abbrev pub put : List ℕ → Document → Members → Members
put k d no_members = member k d no_members
put k d (member l e ms) =
    match_ordering (slice_cmp nat_cmp k l) (member k d (member l e ms)) (member l d ms) (member l e (put k d ms))

-- the items in order
abbrev pub items_of : List Document → Items
items_of [] = no_items
items_of (d ∷ ds) = item d (items_of ds)

-- The object of these pairs. At a name that stands more than once it has the last one's document.
abbrev pub put_all : List (List ℕ × Document) → Members → Members
put_all [] ms = ms
put_all (p ∷ ps) ms = put_all ps (put p.0 p.1 ms)

abbrev pub members_of : List (List ℕ × Document) → Members
members_of pairs = put_all pairs no_members

-- the nesting of arrays and objects: one more than the greatest of the items', and 0 of other documents
abbrev mutual
  pub nesting : Document → ℕ
  nesting null = 0
  nesting (boolean b) = 0
  nesting (number n) = 0
  nesting (string s) = 0
  nesting (array ds) = suc (items_nesting ds)
  nesting (object ms) = suc (members_nesting ms)

  pub items_nesting : Items → ℕ
  items_nesting no_items = 0
  items_nesting (item d ds) = max (nesting d) (items_nesting ds)

  pub members_nesting : Members → ℕ
  members_nesting no_members = 0
  members_nesting (member k d ms) = max (nesting d) (members_nesting ms)

-- one more item at the end
abbrev pub items_snoc : Items → Document → Items
items_snoc no_items d = item d no_items
items_snoc (item e ds) d = item e (items_snoc ds d)

-- the items as a list
abbrev pub list_of_items : Items → List Document
list_of_items no_items = []
list_of_items (item d ds) = d ∷ list_of_items ds

-- the members as a list of names with their documents, in byte order of the names
abbrev pub list_of_members : Members → List (List ℕ × Document)
list_of_members no_members = []
list_of_members (member k d ms) = (k, d) ∷ list_of_members ms

-- what a document holds, if it is of the kind
abbrev pub boolean_in : Document → Option Bool
boolean_in (boolean b) = Some b
boolean_in _ = None

abbrev pub number_in : Document → Option Number
number_in (number n) = Some n
number_in _ = None

abbrev pub string_in : Document → Option (List ℕ)
string_in (string s) = Some s
string_in _ = None

abbrev pub array_in : Document → Option Items
array_in (array ds) = Some ds
array_in _ = None

abbrev pub object_in : Document → Option Members
object_in (object ms) = Some ms
object_in _ = None

-- a number that is given as negative is negative
abbrev pub is_canonical_number : Number → Bool
is_canonical_number (positive n) = true
is_canonical_number (negative (pos n)) = false
is_canonical_number (negative (negsuc n)) = true

-- each number of the document is so
abbrev mutual
  pub is_canonical : Document → Bool
  is_canonical null = true
  is_canonical (boolean b) = true
  is_canonical (number n) = is_canonical_number n
  is_canonical (string s) = true
  is_canonical (array ds) = are_canonical_items ds
  is_canonical (object ms) = are_canonical_members ms

  pub are_canonical_items : Items → Bool
  are_canonical_items no_items = true
  are_canonical_items (item d ds) = is_canonical d && are_canonical_items ds

  pub are_canonical_members : Members → Bool
  are_canonical_members no_members = true
  are_canonical_members (member k d ms) = is_canonical d && are_canonical_members ms
