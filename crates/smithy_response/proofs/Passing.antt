-- How the members of a response are passed over, until one is handed out.
use Rattle.smithy_response.proofs.Common.{◌≡◌, ◌<◌, ◌≤◌, inl, inr, ◌+◌, Bool, true, false, length, Option, Some, None, Err, refl, sym, ap, ◌∙◌, arith, cons_option, Response, Schema, member_at, is_response_bound, SerdeError, Held, BoundMember, Transport, Ended, routed, with_route, Route, passed_over, handed_out, handed_body, refused, route, route_at, source_of, member_at_hand, members_from, still_routed, IsLeft, IsSameResponse, IsTaken, IsTakenAt, TakesAt, HandsMember, HandsBody, HandsNoMember, RefusesMember}
use Rattle.smithy_binding.proofs.MemberSteps.{members_from-more}
use Rattle.smithy_response.specs.declared.parts.BoundMember.TheVariants as bound
use Rattle.smithy_response.proofs.BodyOnlyItems.{stands_in_body}
use Rattle.smithy_response.proofs.Members.{from-end}
use Rattle.std.proofs.Common.{zero, suc, ℕ, ◌-◌, nat_le}
use Rattle.std.proofs.lemmas.Bool.{leb-true, leb-false}
use Rattle.std.specs.Option.{option_map_or}
use Rattle.smithy_response.specs.views.BoundPositions.{IsNextBound, is_bound_position}

taken_nothing : (response : Response) (r : Route) → IsTaken response r bound.Nothing → r ≡ passed_over
taken_nothing response passed_over t = refl
taken_nothing response (handed_out h) t = cc
taken_nothing response handed_body t = cc
taken_nothing response (refused e) t = absurd t

taken_body : (response : Response) (r : Route) → IsTaken response r bound.Body → r ≡ handed_body
taken_body response passed_over t = cc
taken_body response (handed_out h) t = cc
taken_body response handed_body t = refl
taken_body response (refused e) t = absurd t

taken_other : (response : Response) (r : Route) (taken : BoundMember) → (taken ≡ bound.Nothing → ⊥) → (taken ≡ bound.Body → ⊥) → IsTaken response r taken
    → (h : Held) × (r ≡ handed_out h) × ((member_at_hand response taken).held ≡ Some h)
taken_other response passed_over taken a b t = absurd (a t)
taken_other response (handed_out h) taken a b t = (h, refl, t)
taken_other response handed_body taken a b t = absurd (b t)
taken_other response (refused e) taken a b t = absurd t

-- the members so far were passed over
pub record Passing (schema : Schema) (is_given : Bool) (start now : Transport) : Type 0 where
  pub same : IsSameResponse start now
  pub none : now.member ≡ bound.Nothing
  pub later : start.place ≤ now.place
  pub follows : (rest : Option Held → Ended) (body : Option Held) → IsLeft is_given body → still_routed start schema rest body ≡ still_routed now schema rest body

pub begins : (schema : Schema) (is_given : Bool) (start : Transport) → Passing schema is_given start (record start { member = bound.Nothing })
begins schema is_given start = record {
  same = record { response = refl; is_error = refl; policy = refl };
  none = refl;
  later = omega arith;
  follows = λ rest body left. refl;
}

pub ends : (schema : Schema) (is_given : Bool) (start t : Transport) → Passing schema is_given start t → length schema.node.members ≤ t.place → HandsNoMember schema is_given start t
ends schema is_given start t p h = record {
  follows = λ rest body left. p.follows rest body left ∙ ap (λ ms. routed t.response rest body ms) (from-end schema t.place h);
}

module _ (schema : Schema) (is_given : Bool) (start t : Transport) (p : Passing schema is_given start t) (h : t.place < length schema.node.members) where
  -- what is left behind this position
  abbrev after : (Option Held → Ended) → Option Held → Ended
  after rest body = routed t.response rest body (members_from schema (t.place + 1))

  here : (rest : Option Held → Ended) (body : Option Held) (found : Option Schema) → found ≡ member_at schema t.place
      → still_routed t schema rest body ≡ routed t.response rest body (cons_option found (members_from schema (t.place + 1)))
  here rest body found e =
      ap (λ ms. routed t.response rest body ms) (members_from-more schema t.place ∙ ap (λ o. cons_option o (members_from schema (t.place + 1))) (sym e))

  -- one more is passed over
  passed : ((rest : Option Held → Ended) (body : Option Held) → IsLeft is_given body → still_routed start schema rest body ≡ after rest body) → Passing schema is_given start (record t { place = t.place + 1 })
  passed follows = record {
    same = record { response = p.same.response; is_error = p.same.is_error; policy = p.same.policy };
    none = p.none;
    later = (let before : start.place ≤ t.place = p.later in omega (arith, before));
    follows = follows;
  }

  pub passes_hole : None ≡ member_at schema t.place → Passing schema is_given start (record t { place = t.place + 1 })
  passes_hole hole = passed (λ rest body left. p.follows rest body left ∙ here rest body None hole)

  module _ (m : Schema) (found : Some m ≡ member_at schema t.place) where
    by_route : (r : Route) → route m t.response ≡ r → (rest : Option Held → Ended) (body : Option Held) → IsLeft is_given body
        → still_routed start schema rest body ≡ with_route r m body (after rest body) (after rest None)
    by_route r is rest body left =
        p.follows rest body left ∙ here rest body (Some m) found ∙ ap (λ x. with_route x m body (after rest body) (after rest None)) is

    pub passes_member : IsTakenAt t.response (source_of m) m bound.Nothing → Passing schema is_given start (record t { place = t.place + 1 })
    passes_member taken = passed (by_route passed_over (taken_nothing t.response (route m t.response) taken.route))

    -- no part of the response but the body has it
    pub passes_unbound : is_response_bound m ≡ false → Passing schema is_given start (record t { place = t.place + 1 })
    passes_unbound unbound = passed (by_route passed_over (ap (λ s. route_at s m t.response) (stands_in_body m unbound).0))

    -- the body was handed out before
    pub passes_body : is_given ≡ true → IsTakenAt t.response (source_of m) m bound.Body → Passing schema is_given start (record t { place = t.place + 1 })
    passes_body given taken = passed (λ rest body left.
        by_route handed_body (taken_body t.response (route m t.response) taken.route) rest body left
        ∙ ap (λ b. with_route handed_body m b (after rest body) (after rest None)) (left given))

    pub hands_body : is_given ≡ false → IsTakenAt t.response (source_of m) m bound.Body
        → HandsBody schema m is_given start (record t { place = t.place + 1; member = bound.Body })
    hands_body given taken = record {
      is_member = (t.place, sym found);
      was_left = given;
      follows = λ rest body. by_route handed_body (taken_body t.response (route m t.response) taken.route) rest (Some body) (λ e. (let bad : false ≡ true = sym given ∙ e in cc));
      settles = λ e. sym (taken.settles (λ bad. cc) t.policy e);
      settles_now = λ e. refl;
      falls = (let before : start.place ≤ t.place = p.later in omega (arith, before, h));
    }

    module _ (got : BoundMember) (some : got ≡ bound.Nothing → ⊥) (other : got ≡ bound.Body → ⊥) (taken : IsTakenAt t.response (source_of m) m got) where
      held : (h : Held) × (route m t.response ≡ handed_out h) × ((member_at_hand t.response got).held ≡ Some h)
      held = taken_other t.response (route m t.response) got some other taken.route

      pub hands_member : HandsMember schema m is_given start (record t { place = t.place + 1; member = got })
      hands_member = record {
        is_member = (t.place, sym found);
        held = held.0;
        at_hand = held.2;
        follows = λ rest body left. by_route (handed_out held.0) held.1 rest body left;
        settles = λ e. taken.settles some t.policy e;
        falls = (let before : start.place ≤ t.place = p.later in omega (arith, before, h));
        low = taken.low;
      }

    pub refuses_member : (e : SerdeError) → TakesAt t.response (source_of m) m (Err e) → RefusesMember schema is_given start e
    refuses_member e (inl memory) = λ rest body left. inl memory
    refuses_member e (inr is) = λ rest body left. inr (by_route (refused e) is rest body left)

-- members that are not bound, one by one
passes_one : (schema : Schema) (is_given : Bool) (start t : Transport) → Passing schema is_given start t → t.place < length schema.node.members → is_bound_position schema t.place ≡ false → Passing schema is_given start (record t { place = t.place + 1 })
passes_one schema is_given start t p h unbound = go (member_at schema t.place) refl
  where
    go : (found : Option Schema) → found ≡ member_at schema t.place → Passing schema is_given start (record t { place = t.place + 1 })
    go None e = passes_hole schema is_given start t p h e
    go (Some m) e = passes_unbound schema is_given start t p h m e (ap (λ (o : Option Schema). option_map_or is_response_bound o false) e ∙ unbound)

passes_many : (schema : Schema) (is_given : Bool) (n : ℕ) (start t : Transport) → Passing schema is_given start t → t.place + n ≤ length schema.node.members → ((i : ℕ) → t.place ≤ i → i < t.place + n → is_bound_position schema i ≡ false)
    → Passing schema is_given start (record t { place = t.place + n })
passes_many schema is_given zero start t p within unbound = let same : t.place + 0 ≡ t.place = omega arith in rw same p
passes_many schema is_given (suc n) start t p within unbound =
    let next : t.place + suc n ≡ t.place + 1 + n = omega arith in
    let one = passes_one schema is_given start t p (omega (arith, within)) (unbound t.place (omega arith) (omega arith)) in
    rw next (passes_many schema is_given n start (record t { place = t.place + 1 }) one (omega (arith, within)) (λ i low high. unbound i (omega (arith, low)) (omega (arith, high))))

-- up to the next bound one
passes_to : (schema : Schema) (is_given : Bool) (start t : Transport) (to : ℕ) → Passing schema is_given start t → t.place ≤ to → to ≤ length schema.node.members → ((i : ℕ) → t.place ≤ i → i < to → is_bound_position schema i ≡ false)
    → Passing schema is_given start (record t { place = to })
passes_to schema is_given start t to p later within unbound =
    let same : t.place + (to - t.place) ≡ to = omega (arith, later) in
    rw (← same) (passes_many schema is_given (to - t.place) start t p (omega (arith, later, within)) (λ i low high. unbound i low (omega (arith, later, high))))

pub to_bound : (schema : Schema) (is_given : Bool) (start t : Transport) (to : ℕ) → Passing schema is_given start t → IsNextBound schema t.place (Some to) → Passing schema is_given start (record t { place = to })
to_bound schema is_given start t to p (later, within, unbound) = passes_to schema is_given start t to p later (omega (arith, within)) unbound

-- and to the end, where none is left
pub ends_unbound : (schema : Schema) (is_given : Bool) (start t : Transport) → Passing schema is_given start t → ((i : ℕ) → t.place ≤ i → is_bound_position schema i ≡ false) → HandsNoMember schema is_given start t
ends_unbound schema is_given start t p unbound = go (nat_le (length schema.node.members) t.place) refl
  where
    go : (b : Bool) → nat_le (length schema.node.members) t.place ≡ b → HandsNoMember schema is_given start t
    go true e = ends schema is_given start t p (leb-true (length schema.node.members) t.place e)
    go false e =
        let before : t.place < length schema.node.members = leb-false (length schema.node.members) t.place e in
        let last = passes_to schema is_given start t (length schema.node.members) p (omega (arith, before)) (omega arith) (λ i low high. unbound i low) in
        record { follows = (ends schema is_given start (record t { place = length schema.node.members }) last (omega arith)).follows }
