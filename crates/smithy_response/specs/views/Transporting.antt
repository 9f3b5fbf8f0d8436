-- What the part of a response that needs no reader of its body has at hand, and what it hands out next.
use Rattle.std.specs.Prelude.{◌≡◌, ◌<◌, ◌≤◌, ◌⊎◌, ℕ, codes, ◌-◌, Bool, true, false, List, [], ◌∷◌, ◌++◌, map, filter_map, drop, length, slice_get, Option, Some, None, option_map, Result, Ok, Err, IfOk}
use Rattle.smithy_response.specs.Words.{option_map_or, Response, Schema, at_place, name_of, schema_of, SerdeError, InvalidInput, OutOfMemory, Group, Held, Prefixed, Answer, levels_of, Slot, at_member, at_element, at_key, all_of, contents, contents_at, told_at, ScalarKind, ReadScalar, Frame, AtHand, Gives, scalar_of_read, Reads, OpensAt, IsMember, NonUtf8HeaderHandling}
use Rattle.smithy_serde.specs.declared.scalar.Group.TheVariants as group
use Rattle.smithy_serde.specs.Held as held
use Rattle.smithy_response.specs.declared.parts.BoundMember.{BoundMember}
use Rattle.smithy_response.specs.declared.parts.BoundMember.TheVariants as bound
use Rattle.smithy_response.specs.declared.parts.HeaderAtHand.{HeaderAtHand}
use Rattle.smithy_response.specs.declared.parts.OpenMap.{OpenMap}
use Rattle.smithy_response.specs.declared.parts.ListItems.{ListItems}
use Rattle.smithy_response.specs.declared.parts.ListItems.TheVariants as items
use Rattle.smithy_response.specs.declared.parts.OpenList.{OpenList}
use Rattle.smithy_response.specs.declared.transport.Transport.{Transport}
use Rattle.smithy_response.specs.declared.transport.Turn.{Turn}
use Rattle.smithy_response.specs.declared.transport.Turn.TheVariants as turn
use Rattle.smithy_response.specs.PrefixedHeaders.{values_named, prefixed_in}
use Rattle.smithy_response.specs.Routes.{Source, in_header, in_prefix, Route, passed_over, handed_out, handed_body, refused, route_at}
use Rattle.smithy_response.specs.Settling.{settled, settled_at}
use Rattle.smithy_response.specs.Handed.{Ended, routed, before_rest}

abbrev pub response_of : Transport → Response
response_of t = t.response

-- a header by the name that messages show
abbrev pub header_of : Response → List ℕ → Held
header_of response name = held.header name (values_named name response.headers)

abbrev pub items_of : ListItems → List Held
items_of (items.Texts words) = map (λ text. held.element text) words
items_of (items.Dates seconds) = map (λ s. held.date s) seconds

-- the element at hand
abbrev pub element_at : OpenList → Option Held
element_at l = slice_get (items_of l.items) (l.place - 1)

abbrev pub levels_at : Option Held → ℕ
levels_at held = option_map_or levels_of held 0

-- an open container of what is told, with the items still to come
abbrev pub told_frame : Group → Held → List (Slot × Held) → Frame
told_frame g container items = record {
  form = g;
  container = Some container;
  depth = levels_of container;
  to_come = λ by. Some (all_of items);
  left = λ by. length items;
  settled = Some (λ e. Err e);
}

-- a reader whose value at hand is this
abbrev pub told_reader : Option Held → List Frame → AtHand
told_reader held frames = record {
  held = held;
  levels = levels_at held;
  listing = contents_at held;
  size = λ g node. option_map_or (λ h. length (contents g node h).items) held 0;
  opened = frames;
  told = told_at held;
}

abbrev pub elements_left : OpenList → List (Slot × Held)
elements_left l = map (λ x. (at_element, x)) (drop l.place (items_of l.items))

-- a header at hand, with what is open around it
abbrev pub header_reader : Held → List Frame → Option OpenList → AtHand
header_reader whole below None = told_reader (Some whole) below
header_reader whole below (Some l) = told_reader (element_at l) (told_frame group.List whole (elements_left l) ∷ below)

abbrev pub header_at_hand : Response → List Frame → HeaderAtHand → AtHand
header_at_hand response below h = header_reader (header_of response h.name) below h.list

abbrev pub entries_left : Response → OpenMap → List (Slot × Held)
entries_left response m = map {B = Slot × Held} (λ key. (at_key key, header_of response (m.lower ++ key))) (drop m.place m.keys)

-- the headers behind a prefix at hand, and one of them
abbrev pub prefix_at_hand : Response → List Prefixed → Option OpenMap → AtHand
prefix_at_hand response ps None = told_reader (Some (held.prefixed ps)) []
prefix_at_hand response ps (Some m) = header_at_hand response (told_frame group.Map (held.prefixed ps) (entries_left response m) ∷ []) m.entry

-- The member at hand, and what is open of it. What the body's reader has is not told here.
abbrev pub member_at_hand : Response → BoundMember → AtHand
member_at_hand response bound.Nothing = told_reader None []
member_at_hand response (bound.Header member h) = header_at_hand response [] h
member_at_hand response (bound.Prefix member prefix entries) = prefix_at_hand response (prefixed_in prefix response.headers) entries
member_at_hand response bound.Status = told_reader (Some (held.status response.status)) []
member_at_hand response bound.Raw = told_reader (option_map held.raw response.body) []
member_at_hand response bound.Body = told_reader None []

abbrev pub transport_at_hand : Transport → AtHand
transport_at_hand t = member_at_hand t.response t.member

-- what `settle` answers at the member at hand
abbrev pub member_settled : NonUtf8HeaderHandling → Response → BoundMember → SerdeError → Answer
member_settled policy response (bound.Header member h) e = settled_at (in_header h.name) policy response member e
member_settled policy response (bound.Prefix member prefix entries) e = settled_at (in_prefix prefix) policy response member e
member_settled policy response _ e = Err e

-- what is at hand is read as a scalar
abbrev pub ReadsBound : Transport → ScalarKind → Schema → Result ReadScalar SerdeError → Type 0
ReadsBound t k node result = Reads scalar_of_read k node (transport_at_hand t) (transport_at_hand t) result

-- no member is at hand
abbrev pub is_nothing : BoundMember → Bool
is_nothing bound.Nothing = true
is_nothing (bound.Header member h) = false
is_nothing (bound.Prefix member prefix entries) = false
is_nothing bound.Status = false
is_nothing bound.Raw = false
is_nothing bound.Body = false

-- the refusal of a read there
abbrev pub nothing_at_hand : SerdeError
nothing_at_hand = InvalidInput (codes "no value is at hand")

abbrev pub RefusesNothing : Bool → Result ReadScalar SerdeError → Type 0
RefusesNothing none result = none ≡ true → Gives scalar_of_read (Some (Err nothing_at_hand)) result

-- it is opened
abbrev pub OpensBound : Group → Schema → Transport → Transport → Answer → Type 0
OpensBound g node old new result = OpensAt g node (transport_at_hand old) (transport_at_hand new) result

-- what is answered for a refusal at a member that stands there
abbrev pub settled_from : Transport → Source → List ℕ → SerdeError → Answer
settled_from t source member e = settled_at source t.policy t.response member e

-- what is made of a member by its route
abbrev pub IsTaken : Response → Route → BoundMember → Type 0
IsTaken response passed_over taken = taken ≡ bound.Nothing
IsTaken response (handed_out h) taken = (member_at_hand response taken).held ≡ Some h
IsTaken response handed_body taken = taken ≡ bound.Body
IsTaken response (refused e) taken = ⊥

-- what the response has for a member where that stands came to hand, if it has any
pub record IsTakenAt (response : Response) (source : Source) (m : Schema) (taken : BoundMember) : Type 0 where
  pub route : IsTaken response (route_at source m response) taken
  pub closed : (member_at_hand response taken).opened ≡ []
  pub low : (member_at_hand response taken).levels ≤ 2
  pub settles : (taken ≡ bound.Nothing → ⊥) → (policy : NonUtf8HeaderHandling) (e : SerdeError)
      → member_settled policy response taken e ≡ settled_at source policy response (name_of m) e

-- the headers behind a prefix come to hand of any response
abbrev pub TakesPrefix : {E : Type 0} → List ℕ → Schema → Result BoundMember E → Type 0
TakesPrefix prefix m result = (response : Response) → IfOk result (IsTakenAt response (in_prefix prefix) m)

-- or the member's refusal, or want of memory
abbrev pub TakesAt : Response → Source → Schema → Result BoundMember SerdeError → Type 0
TakesAt response source m (Ok taken) = IsTakenAt response source m taken
TakesAt response source m (Err e) = (e ≡ OutOfMemory) ⊎ (route_at source m response ≡ refused e)

abbrev pub transport_settled : Transport → SerdeError → Answer
transport_settled t e = member_settled t.policy t.response t.member e

-- the members from a position on
abbrev pub members_from : Schema → ℕ → List Schema
members_from schema place = filter_map (at_place schema.table) (drop place schema.node.members)

-- what the response still hands out, and then the rest
abbrev pub still_routed : Transport → Schema → (Option Held → Ended) → Option Held → Ended
still_routed t schema rest body = routed t.response rest body (members_from schema t.place)

-- the same response, read alike
pub record IsSameResponse (old new : Transport) : Type 0 where
  pub response : new.response ≡ old.response
  pub is_error : new.is_error ≡ old.is_error
  pub policy : new.policy ≡ old.policy

-- and the same member of it
pub record IsSameTurn (old new : Transport) : Type 0 where
  pub response : IsSameResponse old new
  pub place : new.place ≡ old.place
  pub settled : transport_settled new ≡ transport_settled old

-- a body that was handed out is none
abbrev pub IsLeft : Bool → Option Held → Type 0
IsLeft is_given body = is_given ≡ true → body ≡ None

-- members of the schema that are still to come
abbrev pub places_left : Schema → Transport → ℕ
places_left schema t = length schema.node.members - t.place

-- a member was handed out, and what is left follows it
pub record HandsMember (schema m : Schema) (is_given : Bool) (old new : Transport) : Type 0 where
  pub is_member : IsMember schema m
  pub held : Held
  pub at_hand : (transport_at_hand new).held ≡ Some held
  pub follows : (rest : Option Held → Ended) (body : Option Held) → IsLeft is_given body
      → still_routed old schema rest body ≡ before_rest (at_member m) held (still_routed new schema rest body)
  pub settles : (e : SerdeError) → transport_settled new e ≡ settled new.policy new.response (at_member m) e
  pub falls : places_left schema new < places_left schema old
  pub low : (transport_at_hand new).levels ≤ 2

-- the body was handed out
pub record HandsBody (schema m : Schema) (is_given : Bool) (old new : Transport) : Type 0 where
  pub is_member : IsMember schema m
  pub was_left : is_given ≡ false
  pub follows : (rest : Option Held → Ended) (body : Held)
      → still_routed old schema rest (Some body) ≡ before_rest (at_member m) body (still_routed new schema rest None)
  pub settles : (e : SerdeError) → settled new.policy new.response (at_member m) e ≡ Err e
  pub settles_now : (e : SerdeError) → transport_settled new e ≡ Err e
  pub falls : places_left schema new < places_left schema old

-- no bound member is left
pub record HandsNoMember (schema : Schema) (is_given : Bool) (old new : Transport) : Type 0 where
  pub follows : (rest : Option Held → Ended) (body : Option Held) → IsLeft is_given body
      → still_routed old schema rest body ≡ rest body

-- the refusal of a member, or want of memory
abbrev pub RefusesMember : Schema → Bool → Transport → SerdeError → Type 0
RefusesMember schema is_given old e =
    (rest : Option Held → Ended) (body : Option Held) → IsLeft is_given body
    → (e ≡ OutOfMemory) ⊎ (still_routed old schema rest body ≡ record { items = []; ends = Some e })

abbrev pub NextBound : Schema → Bool → Transport → Transport → Result Turn SerdeError → Type 0
NextBound schema is_given old new (Ok (turn.Member m)) = HandsMember schema (schema_of m) is_given old new
NextBound schema is_given old new (Ok (turn.Payload m)) = HandsBody schema (schema_of m) is_given old new
NextBound schema is_given old new (Ok turn.Done) = HandsNoMember schema is_given old new
NextBound schema is_given old new (Err e) = RefusesMember schema is_given old e
