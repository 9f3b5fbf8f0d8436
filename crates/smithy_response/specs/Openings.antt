-- How a header and the headers behind a prefix are opened.
use Rattle.std.specs.Prelude.{◌≡◌, ◌+◌, ◌++◌, ◌<◌, ◌≤◌, ℕ, Bool, List, length, Option, Some, None, Result, Ok, Err, MatchBool}
use Rattle.smithy_response.specs.Words.{ShapeType, Response, Schema, SerdeError, Group, Prefixed, Answer, ScalarKind, ReadScalar, Frame, scalar_of_read, Reads, Opened, NotOpened, OpensAt, NextElement, NextEntry}
use Rattle.smithy_ids.specs.declared.shape_type.ShapeType.TheVariants as kind
use Rattle.smithy_serde.specs.declared.scalar.Group.TheVariants as group
use Rattle.smithy_response.specs.declared.parts.OpenMap.{OpenMap}
use Rattle.smithy_response.specs.declared.parts.OpenList.{OpenList}
use Rattle.smithy_response.specs.declared.parts.HeaderAtHand.{HeaderAtHand}
use Rattle.smithy_response.specs.PrefixedHeaders.{prefixed_in}
use Rattle.smithy_response.specs.views.Transporting.{items_of, header_of, header_reader, header_at_hand, prefix_at_hand}

-- a header, or the element of it at hand, is read as a scalar, whatever is open around it
abbrev pub ReadsHeader : Response → HeaderAtHand → ScalarKind → Schema → Result ReadScalar SerdeError → Type 0
ReadsHeader response h k node result =
    (below : List Frame) → Reads scalar_of_read k node (header_at_hand response below h) (header_at_hand response below h) result

-- it is opened
abbrev pub OpensHeader : Response → Group → Schema → HeaderAtHand → HeaderAtHand → Answer → Type 0
OpensHeader response g node old new result =
    (below : List Frame) → OpensAt g node (header_at_hand response below old) (header_at_hand response below new) result

-- its next element comes to hand, if one is left
abbrev pub NextOfHeader : HeaderAtHand → HeaderAtHand → Bool → Type 0
NextOfHeader old new more =
    (response : Response) (below : List Frame) → NextElement (header_at_hand response below old) (header_at_hand response below new) (Ok more)

-- the place is one further, if an element is left
abbrev pub IsAdvanced : OpenList → OpenList → Bool → Type 0
IsAdvanced old new more =
    MatchBool more ((old.place < length (items_of old.items)) × (new.place ≡ old.place + 1)) (length (items_of old.items) ≤ old.place)

-- the headers behind a prefix, or one of them, are read as a scalar
abbrev pub ReadsEntries : Response → Option OpenMap → ScalarKind → Schema → Result ReadScalar SerdeError → Type 0
ReadsEntries response entries k node result =
    (ps : List Prefixed) → Reads scalar_of_read k node (prefix_at_hand response ps entries) (prefix_at_hand response ps entries) result

-- the next of them comes to hand, if one is left
abbrev pub NextOfEntries : Option OpenMap → Option OpenMap → Result (Option (List ℕ)) SerdeError → Type 0
NextOfEntries old new result =
    (response : Response) (ps : List Prefixed) → NextEntry (prefix_at_hand response ps old) (prefix_at_hand response ps new) result

-- the header of an entry, of which nothing is open
abbrev pub IsEntry : List ℕ → List ℕ → HeaderAtHand → Type 0
IsEntry lower key h = (h.name ≡ lower ++ key) × (h.list ≡ None)

-- the kind of shape that is opened
abbrev pub opened_kind : Group → ShapeType
opened_kind group.List = kind.List
opened_kind group.Map = kind.Map
opened_kind group.Structure = kind.Structure

-- the list of a header is opened, whatever is open around it
abbrev pub OpensList : Response → List ℕ → Group → Schema → Result OpenList SerdeError → Type 0
OpensList response name g node (Ok l) =
    (below : List Frame) → Opened g node (header_reader (header_of response name) below None) (header_reader (header_of response name) below (Some l))
OpensList response name g node (Err e) =
    (below : List Frame) → NotOpened g node (header_reader (header_of response name) below None) (header_reader (header_of response name) below None) e

-- the headers behind a prefix are open, and no list of one is
abbrev pub IsAtEntries : Option OpenMap → Type 0
IsAtEntries None = ⊥
IsAtEntries (Some m) = m.entry.list ≡ None

-- the map of the headers behind a prefix is opened
abbrev pub OpensEntries : Response → List Prefixed → Group → Schema → Result OpenMap SerdeError → Type 0
OpensEntries response ps g node (Ok m) = Opened g node (prefix_at_hand response ps None) (prefix_at_hand response ps (Some m))
OpensEntries response ps g node (Err e) = NotOpened g node (prefix_at_hand response ps None) (prefix_at_hand response ps None) e

-- the same of those that a response has
abbrev pub OpensPrefix : Response → List ℕ → Group → Schema → Result OpenMap SerdeError → Type 0
OpensPrefix response prefix g node result = OpensEntries response (prefixed_in prefix response.headers) g node result
