-- What is seen of a response's reader, told by what is seen of its body's reader.
use Rattle.std.specs.Prelude.{◌≡◌, ℕ, suc, ◌+◌, ◌-◌, Bool, true, false, List, [], ◌∷◌, ◌++◌, map, filter, length, Option, Some, None, option_map, MatchOption, Result, Ok, Err}
use Rattle.std.proofs.Common.{ap, refl, subst, ◌∙◌}
use Rattle.smithy_response.specs.Words.{Schema, SerdeError, Group, Held, Answer, Slot, at_member, at_element, at_key, Listing, listing_of, as_it_is, contents, Frame, AtHand, Response, NonUtf8HeaderHandling}
use Rattle.smithy_serde.specs.declared.scalar.Group.TheVariants as group
use Rattle.smithy_serde.specs.HeldReads.{elements, entries, fields}
use Rattle.smithy_response.specs.declared.stage.Stage.{Stage}
use Rattle.smithy_response.specs.declared.stage.Stage.TheVariants as stage
use Rattle.smithy_response.specs.declared.transport.Transport.{Transport}
use Rattle.smithy_response.specs.Handed.{is_unbound, routed, body_part, handed}
use Rattle.smithy_response.specs.Settling.{settled}
use Rattle.smithy_response.specs.views.Transporting.{transport_at_hand, transport_settled, members_from}

-- the listing with other answers of `settle`
abbrev pub resettled : (Slot → SerdeError → Answer) → Listing → Listing
resettled settle xs = record xs { settled = settle }

-- refusals are answered as they are
abbrev pub plainly : Listing → Listing
plainly = resettled as_it_is

abbrev pub plain : Frame → Frame
plain o = record o { to_come = λ by. option_map plainly (o.to_come by); settled = Some (λ e. Err e) }

-- a container of the body where no structure was opened: nothing of it is told
abbrev pub untold : Frame → Frame
untold o = record o { container = None; depth = 3 + o.depth; to_come = λ by. None; settled = None }

-- what is listed, without the body's copies of bound members
abbrev pub unbound_items : Listing → Listing
unbound_items xs = record xs { items = filter (λ i. is_unbound i.0) xs.items }

abbrev pub unbound_frame : Frame → Frame
unbound_frame o = record o { to_come = λ by. option_map unbound_items (o.to_come by) }

abbrev pub without_copies : AtHand → AtHand
without_copies b = record b { opened = map unbound_frame b.opened }

-- the levels of the body's value once all that is open of it is closed
abbrev pub levels_under : List Frame → ℕ → ℕ
levels_under [] levels = levels
levels_under (o ∷ os) levels = levels_under os o.depth

-- what is still to come of a response from a position on, where this is left of the body
abbrev pub handed_from : Response → Bool → NonUtf8HeaderHandling → ℕ → Schema → Option Held → Listing
handed_from response is_error policy place node body =
    let given = routed response (body_part node response is_error) body (members_from node place) in
    record { items = given.items; ends = given.ends; settled = settled policy response }

abbrev pub still_handed : Transport → Schema → Option Held → Listing
still_handed t node body = handed_from t.response t.is_error t.policy t.place node body

-- the body that is left to be handed out, where it is told
abbrev pub body_left : Bool → Option Held → Option (Option Held)
body_left true held = Some None
body_left false held = option_map (λ h. Some h) held

abbrev pub structure_to_come : (Schema → Option Held → Listing) → Option (Option Held) → Option Schema → Option Listing
structure_to_come handed left None = None
structure_to_come handed left (Some node) = option_map (handed node) left

-- one more than the body's fields, until the body was handed out
abbrev pub body_size : Bool → ℕ → ℕ
body_size true size = 0
body_size false size = suc size

abbrev pub structure_left : ℕ → (Schema → ℕ) → Option Schema → ℕ
structure_left place behind None = 0
structure_left place behind (Some node) = (length node.node.members - place) + behind node

abbrev pub structure_at : (Schema → Option Held → Listing) → ℕ → Option (Option Held) → (Schema → ℕ) → (SerdeError → Answer) → ℕ → Frame
structure_at handed place left behind settle levels = record {
  form = group.Structure;
  container = None;
  depth = 3 + levels;
  to_come = structure_to_come handed left;
  left = structure_left place behind;
  settled = Some settle;
}

-- the response's structure while its bound members are handed out
abbrev pub structure_frame : Transport → Bool → (SerdeError → Answer) → AtHand → Frame
structure_frame t is_given settle b =
    structure_at (still_handed t) t.place (body_left is_given b.held) (λ node. body_size is_given (b.size group.Structure node)) settle (levels_under b.opened b.levels)

-- the same while the body's fields are handed out
abbrev pub body_frame : Transport → Frame → Frame
body_frame t o = record {
  form = o.form;
  container = None;
  depth = 3 + o.depth;
  to_come = λ by. option_map (resettled (settled t.policy t.response)) ((unbound_frame o).to_come by);
  left = o.left;
  settled = Some (λ e. Err e);
}

-- the outermost container of the body is then the structure
abbrev pub body_frames : Transport → List Frame → List Frame
body_frames t [] = []
body_frames t (o ∷ []) = body_frame t o ∷ []
body_frames t (o ∷ p ∷ os) = plain o ∷ body_frames t (p ∷ os)

pub plain_listing : {A : Type 0} → (named : A → Slot × Held) (r : Result (List A) SerdeError) → plainly (listing_of named r) ≡ listing_of named r
plain_listing named (Ok xs) = refl
plain_listing named (Err e) = refl

pub plain_contents : (g : Group) (node : Schema) (h : Held) → plainly (contents g node h) ≡ contents g node h
plain_contents group.Structure node h = plain_listing (λ (m : Schema × Held). (at_member m.0, m.1)) (fields node h)
plain_contents group.List node h = plain_listing (λ (x : Held). (at_element, x)) (elements node h)
plain_contents group.Map node h = plain_listing (λ (e : List ℕ × Held). (at_key e.0, e.1)) (entries node h)

-- a value of the body inside the response's structure, with these open containers
abbrev pub within : List Frame → AtHand → AtHand
within opened b = record b {
  listing = λ g node. option_map plainly (b.listing g node);
  opened = opened;
  told = λ g node h e. ap (option_map plainly) (b.told g node h e) ∙ ap (λ l. Some l) (plain_contents g node h);
}

-- what opening hands out where no structure was opened: the response's members, while nothing is open
abbrev pub top_listing : Transport → List Frame → Option Held → Group → Schema → Option Listing
top_listing t [] held group.Structure node = option_map (λ body. handed node t.response body t.is_error t.policy) held
top_listing t opened held g node = None

abbrev pub top_size : (Group → Schema → ℕ) → Group → Schema → ℕ
top_size size group.Structure node = length node.node.members + suc (size group.Structure node)
top_size size g node = size g node

pub no_path : {A : Type 0} {B : Type 0} (x : A) → None ≡ Some x → B
no_path {A} {B} x e = absurd (subst (λ (o : Option A). MatchOption o (Unit {0}) (λ _. ⊥)) e tt)

abbrev pub at_top : Transport → AtHand → AtHand
at_top t b = record {
  held = None;
  levels = 3 + b.levels;
  listing = top_listing t b.opened b.held;
  size = top_size b.size;
  opened = map untold b.opened;
  told = λ g node h e. no_path h e;
}

-- a value of the response's own half inside its structure
abbrev pub at_bound : Transport → Bool → AtHand → AtHand
at_bound t is_given b = record (transport_at_hand t) { opened = (transport_at_hand t).opened ++ (structure_frame t is_given (transport_settled t) b ∷ []) }

-- the structure alone, with a value of the body at hand
abbrev pub at_structure : Transport → Bool → AtHand → AtHand
at_structure t is_given b = within (structure_frame t is_given (λ e. Err e) b ∷ []) b

abbrev pub at_payload : Transport → AtHand → AtHand
at_payload t b = within (map plain b.opened ++ (structure_frame t true (λ e. Err e) b ∷ [])) b

abbrev pub at_body : Transport → AtHand → AtHand
at_body t b = within (body_frames t b.opened) b

-- what is seen of the reader of a response
abbrev pub composite_at_hand : Stage → Transport → AtHand → AtHand
composite_at_hand stage.Top t b = at_top t b
composite_at_hand (stage.Bound is_given) t b = at_bound t is_given b
composite_at_hand stage.Payload t b = at_payload t b
composite_at_hand stage.Body t b = at_body t b
