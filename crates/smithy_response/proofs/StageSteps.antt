-- How the body's reader and the response's own half are shown in each stage.
use Rattle.std.specs.Prelude.{Bool, true}
use Rattle.smithy_response.proofs.Common.{◌≡◌, ◌≤◌, ◌≢◌, ℕ, ◌+◌, List, [], ◌∷◌, ◌++◌, map, length, Option, Some, None, Err, inr, refl, sym, ap, ◌∙◌, arith, Schema, Group, Held, Slot, as_it_is, Frame, AtHand, IsIn, Opened, Advanced, Closed, Transport, transport_at_hand, transport_settled, IsSameTurn, plain, untold, levels_under, handed_from, still_handed, body_left, body_size, structure_at, structure_frame, body_frames, at_top, at_bound, at_payload, at_body, top_listing, top_size}
use Rattle.smithy_serde.specs.declared.scalar.Group.TheVariants as group
use Rattle.smithy_response.proofs.Presenting.{untold_shows, same_shows, plain_shows, shown_opened, shown_advanced, shown_closed, shown_halted, refused_resettled, Steps, Openings}

-- the innermost of the containers that are open
pub first_of : (old : AtHand) (g : Group) → IsIn g old → (top : Frame) × (below : List Frame) × (old.opened ≡ top ∷ below)
first_of old g i = go old.opened i
  where
    go : (os : List Frame) → IsIn g (record old { opened = os }) → (top : Frame) × (below : List Frame) × (os ≡ top ∷ below)
    go [] i = absurd i
    go (o ∷ os) i = (o, os, refl)

-- before a structure was opened
module _ (t : Transport) (b c : AtHand) where
  is_in_top : (g : Group) → IsIn g (at_top t b) → IsIn g b
  is_in_top g i = go b.opened i
    where
      go : (os : List Frame) → IsIn g (at_top t (record b { opened = os })) → IsIn g (record b { opened = os })
      go [] i = i
      go (o ∷ os) i = i

  pub top_steps : (g : Group) → IsIn g (at_top t b) → Steps b c (at_top t b) (at_top t c)
  top_steps g i =
      let first = first_of b g (is_in_top g i) in
      record {
        advanced = λ by slot a. shown_advanced untold_shows (map untold a.below) a (ap (map untold) a.was) (ap (map untold) a.now_is) refl refl;
        closed = λ by a. shown_closed untold_shows a (ap (map untold) a.was) refl refl;
        halted = λ by e h. shown_halted untold_shows first.0 first.1 (map untold first.1) h first.2 (ap (map untold) first.2) (λ next is depth. ap (map untold) is);
      }

  top_within : (g : Group) (node : Schema) → b.size g node ≤ top_size b.size g node
  top_within group.Structure node = omega arith
  top_within group.List node = omega arith
  top_within group.Map node = omega arith

  pub top_openings : (g : Group) (node : Schema) → top_listing t b.opened b.held g node ≡ None → Openings g node b c (at_top t b) (at_top t c)
  top_openings g node e = record {
    opened = λ a. shown_opened untold_shows a (ap (map untold) a.now_is) refl refl (top_within g node) (sym e);
    not_opened = λ refusal n. record { opened = ap (map untold) n.opened; levels = ap (λ d. 3 + d) n.levels; refused = rw e (inr tt) };
  }

pub none_listed : (t : Transport) (os : List Frame) (held : Option Held) (g : Group) (node : Schema) → length os ≢ 0 → top_listing t os held g node ≡ None
none_listed t [] held g node n = absurd (n refl)
none_listed t (o ∷ os) held g node n = refl

pub not_structure : (t : Transport) (os : List Frame) (held : Option Held) (g : Group) (node : Schema) → g ≢ group.Structure → top_listing t os held g node ≡ None
not_structure t os held group.Structure node n = absurd (n refl)
not_structure t [] held group.List node n = refl
not_structure t [] held group.Map node n = refl
not_structure t (o ∷ os) held group.List node n = refl
not_structure t (o ∷ os) held group.Map node n = refl

-- the levels below what is open are kept
module _ (b c : AtHand) where
  under_advanced : {by : Option Schema} {slot : Slot} → Advanced by slot b c → levels_under c.opened c.levels ≡ levels_under b.opened b.levels
  under_advanced a = rw (a.was, a.now_is) (ap (levels_under a.below) a.depth)

  under_closed : {by : Option Schema} → Closed by b c → levels_under c.opened c.levels ≡ levels_under b.opened b.levels
  under_closed a = rw a.was (ap (levels_under c.opened) a.levels)

  under_opened : {g : Group} {node : Schema} → Opened g node b c → levels_under c.opened c.levels ≡ levels_under b.opened b.levels
  under_opened a = rw a.now_is (ap (levels_under b.opened) a.depth)

  under_halted : (top next : Frame) (below : List Frame) → b.opened ≡ top ∷ below → c.opened ≡ next ∷ below → next.depth ≡ top.depth → levels_under c.opened c.levels ≡ levels_under b.opened b.levels
  under_halted top next below was now_is depth = rw (was, now_is) (ap (levels_under below) depth)

  under_same : c.opened ≡ b.opened → c.levels ≡ b.levels → levels_under c.opened c.levels ≡ levels_under b.opened b.levels
  under_same opened levels = rw (opened, levels) refl

-- while the body is given to a member
module _ (t : Transport) (b c : AtHand) where
  abbrev given_frame : AtHand → Frame
  given_frame a = structure_frame t true (λ e. Err e) a

  same_given : levels_under c.opened c.levels ≡ levels_under b.opened b.levels → given_frame c ≡ given_frame b
  same_given e = ap (λ levels. structure_at (still_handed t) t.place (Some None) (λ node. 0) (λ e. Err e) levels) e

  -- the containers of the body, shown over one structure or the other
  abbrev over : List Frame → Frame → List Frame
  over os own = map plain os ++ (own ∷ [])

  is_in_payload : (g : Group) → IsIn g (at_payload t b) → (g ≡ group.Structure → length b.opened ≢ 0) → IsIn g b
  is_in_payload g i n = go b.opened i n
    where
      go : (os : List Frame) → IsIn g (record (at_payload t b) { opened = over os (given_frame b) }) → (g ≡ group.Structure → length os ≢ 0) → IsIn g (record b { opened = os })
      go [] i n = absurd (n (sym i) refl)
      go (o ∷ os) i n = i

  pub payload_steps : (g : Group) → IsIn g (at_payload t b) → (g ≡ group.Structure → length b.opened ≢ 0) → Steps b c (at_payload t b) (at_payload t c)
  payload_steps g i n =
      let first = first_of b g (is_in_payload g i n) in
      record {
        advanced = λ by slot a. shown_advanced plain_shows (over a.below (given_frame b)) a (ap (λ os. over os (given_frame b)) a.was)
            (ap (λ os. over os (given_frame c)) a.now_is ∙ ap (λ f. plain a.next ∷ over a.below f) (same_given (under_advanced b c a))) refl refl;
        closed = λ by a. shown_closed plain_shows a (ap (λ os. over os (given_frame b)) a.was ∙ ap (λ f. plain a.top ∷ over c.opened f) (sym (same_given (under_closed b c a)))) refl refl;
        halted = λ by e h. shown_halted plain_shows first.0 first.1 (over first.1 (given_frame b)) h first.2 (ap (λ os. over os (given_frame b)) first.2)
            (λ next is depth. ap (λ os. over os (given_frame c)) is ∙ ap (λ f. plain next ∷ over first.1 f) (same_given (under_halted b c first.0 next first.1 first.2 is depth)));
      }

  same_over : c.opened ≡ b.opened → c.levels ≡ b.levels → over c.opened (given_frame c) ≡ over b.opened (given_frame b)
  same_over opened levels = ap (λ os. over os (given_frame c)) opened ∙ ap (over b.opened) (same_given (under_same b c opened levels))

  pub payload_openings : (g : Group) (node : Schema) → Openings g node b c (at_payload t b) (at_payload t c)
  payload_openings g node = record {
    opened = λ a. shown_opened plain_shows a (ap (λ os. over os (given_frame c)) a.now_is ∙ ap (λ f. plain a.frame ∷ over b.opened f) (same_given (under_opened b c a)))
        a.container refl (omega arith) refl;
    not_opened = λ e n. record { opened = same_over n.opened n.levels; levels = n.levels; refused = refused_resettled as_it_is (b.listing g node) e n.refused };
  }

-- more than one container is open
pub record IsInner (opened : List Frame) : Type 0 where
  pub inner : Frame
  pub outer : Frame
  pub below : List Frame
  pub shape : opened ≡ inner ∷ outer ∷ below

above : (t : Transport) (o p : Frame) (below os : List Frame) → below ≡ p ∷ os → body_frames t (o ∷ below) ≡ plain o ∷ body_frames t below
above t o p below os e = rw e refl

above_some : (t : Transport) (f : Frame) (os : List Frame) → length os ≢ 0 → body_frames t (f ∷ os) ≡ plain f ∷ body_frames t os
above_some t f [] n = absurd (n refl)
above_some t f (o ∷ os) n = refl

-- while the body's fields are handed out
module _ (t : Transport) (b c : AtHand) where
  is_inner : (g : Group) → IsIn g (at_body t b) → length b.opened ≢ 1 → IsInner b.opened
  is_inner g i n = go b.opened i n
    where
      go : (os : List Frame) → IsIn g (record (at_body t b) { opened = body_frames t os }) → length os ≢ 1 → IsInner os
      go [] i n = absurd i
      go (o ∷ []) i n = absurd (n refl)
      go (o ∷ p ∷ os) i n = record { inner = o; outer = p; below = os; shape = refl }

  pub body_steps : (g : Group) → IsIn g (at_body t b) → length b.opened ≢ 1 → Steps b c (at_body t b) (at_body t c)
  body_steps g shown n =
      let i = is_inner g shown n in
      record {
        advanced = λ by slot a.
            let both : a.top ∷ a.below ≡ i.inner ∷ i.outer ∷ i.below = sym a.was ∙ i.shape in
            let more : a.below ≡ i.outer ∷ i.below = cc in
            shown_advanced plain_shows (body_frames t a.below) a (ap (body_frames t) a.was ∙ above t a.top i.outer a.below i.below more)
            (ap (body_frames t) a.now_is ∙ above t a.next i.outer a.below i.below more) refl refl;
        closed = λ by a.
            let both : a.top ∷ c.opened ≡ i.inner ∷ i.outer ∷ i.below = sym a.was ∙ i.shape in
            let more : c.opened ≡ i.outer ∷ i.below = cc in
            shown_closed plain_shows a (ap (body_frames t) a.was ∙ above t a.top i.outer c.opened i.below more) refl refl;
        halted = λ by e h. shown_halted plain_shows i.inner (i.outer ∷ i.below) (body_frames t (i.outer ∷ i.below)) h i.shape (ap (body_frames t) i.shape) (λ next is depth. ap (body_frames t) is);
      }

  pub body_openings : (g : Group) (node : Schema) → length b.opened ≢ 0 → Openings g node b c (at_body t b) (at_body t c)
  body_openings g node n = record {
    opened = λ a. shown_opened plain_shows a (ap (body_frames t) a.now_is ∙ above_some t a.frame b.opened n) a.container refl (omega arith) refl;
    not_opened = λ e r. record { opened = ap (body_frames t) r.opened; levels = r.levels; refused = refused_resettled as_it_is (b.listing g node) e r.refused };
  }

-- the structure is the same in the same turn
same_structure : (t u : Transport) → IsSameTurn t u → (left : Option (Option Held)) (behind : Schema → ℕ) (levels : ℕ)
    → structure_at (still_handed u) u.place left behind (transport_settled u) levels ≡ structure_at (still_handed t) t.place left behind (transport_settled t) levels
same_structure t u same left behind levels =
    ap (λ r. structure_at (handed_from r u.is_error u.policy u.place) u.place left behind (transport_settled u) levels) same.response.response
    ∙ ap (λ e. structure_at (handed_from t.response e u.policy u.place) u.place left behind (transport_settled u) levels) same.response.is_error
    ∙ ap (λ p. structure_at (handed_from t.response t.is_error p u.place) u.place left behind (transport_settled u) levels) same.response.policy
    ∙ ap (λ n. structure_at (handed_from t.response t.is_error t.policy n) n left behind (transport_settled u) levels) same.place
    ∙ ap (λ s. structure_at (still_handed t) t.place left behind s levels) same.settled

-- while bound members are handed out
module _ (t u : Transport) (is_given : Bool) (b : AtHand) (same : IsSameTurn t u) where
  abbrev bound_frame : Transport → Frame
  bound_frame v = structure_frame v is_given (transport_settled v) b

  pub same_bound : bound_frame u ≡ bound_frame t
  same_bound = same_structure t u same (body_left is_given b.held) (λ node. body_size is_given (b.size group.Structure node)) (levels_under b.opened b.levels)

  abbrev over_own : List Frame → Frame → List Frame
  over_own os own = os ++ (own ∷ [])

  is_in_bound : (g : Group) → IsIn g (at_bound t is_given b) → (g ≡ group.Structure → ⊥) → IsIn g (transport_at_hand t)
  is_in_bound g i n = go (transport_at_hand t).opened i
    where
      go : (os : List Frame) → IsIn g (record (at_bound t is_given b) { opened = over_own os (bound_frame t) }) → IsIn g (record (transport_at_hand t) { opened = os })
      go [] i = absurd (n (sym i))
      go (o ∷ os) i = i

  pub bound_steps : (g : Group) → IsIn g (at_bound t is_given b) → (g ≡ group.Structure → ⊥) → Steps (transport_at_hand t) (transport_at_hand u) (at_bound t is_given b) (at_bound u is_given b)
  bound_steps g i n =
      let first = first_of (transport_at_hand t) g (is_in_bound g i n) in
      record {
        advanced = λ by slot a. shown_advanced same_shows (over_own a.below (bound_frame t)) a (ap (λ os. over_own os (bound_frame t)) a.was)
            (ap (λ os. over_own os (bound_frame u)) a.now_is ∙ ap (λ f. a.next ∷ over_own a.below f) same_bound) refl refl;
        closed = λ by a. shown_closed same_shows a (ap (λ os. over_own os (bound_frame t)) a.was ∙ ap (λ f. a.top ∷ over_own (transport_at_hand u).opened f) (sym same_bound)) refl refl;
        halted = λ by e h. shown_halted same_shows first.0 first.1 (over_own first.1 (bound_frame t)) h first.2 (ap (λ os. over_own os (bound_frame t)) first.2)
            (λ next is depth. ap (λ os. over_own os (bound_frame u)) is ∙ ap (λ f. next ∷ over_own first.1 f) same_bound);
      }

  pub bound_openings : (g : Group) (node : Schema) → Openings g node (transport_at_hand t) (transport_at_hand u) (at_bound t is_given b) (at_bound u is_given b)
  bound_openings g node = record {
    opened = λ a. shown_opened same_shows a (ap (λ os. over_own os (bound_frame u)) a.now_is ∙ ap (λ f. a.frame ∷ over_own (transport_at_hand t).opened f) same_bound) a.container refl (omega arith) refl;
    not_opened = λ e n. record { opened = ap (λ os. over_own os (bound_frame u)) n.opened ∙ ap (over_own (transport_at_hand t).opened) same_bound; levels = n.levels; refused = n.refused };
  }
