-- How a loop passes over the body's copies of bound members.
use Rattle.smithy_response.proofs.Common.{◌≡◌, ◌<◌, ◌≤◌, Bool, false, List, [], ◌∷◌, map, filter, Option, Some, None, option_map, IfSome, inl, inr, refl, sym, ap, subst, ◌∙◌, arith, Schema, is_response_bound, SerdeError, Held, Answer, Slot, at_member, Listing, Frame, AtHand, IsIn, Hands, SettlesBy, MemberAdvanced, Closed, Halted, IsRefused, is_unbound, unbound_items, unbound_frame, without_copies}
use Rattle.smithy_serde.specs.declared.scalar.Group.TheVariants as group

abbrev stays : Slot × Held → Bool
stays i = is_unbound i.0

filter_in : (items : List (Slot × Held)) (m : Schema) (x : Held) (more : List (Slot × Held)) → items ≡ (at_member m, x) ∷ more → is_response_bound m ≡ false → filter stays items ≡ (at_member m, x) ∷ filter stays more
filter_in items m x more e b = rw e (rw b refl)

-- what is told at the start is told now
abbrev pub Keeps : Option Listing → Option Listing → Type 0
Keeps start now = IfSome start (λ xs. now ≡ Some xs)

pub keeps_all : (start : Option Listing) → Keeps start start
keeps_all None = tt
keeps_all (Some xs) = refl

-- what holds of what is told now, holds of what was told at the start
pub carried : (P : Option Listing → Type 0) → P None → (start now : Option Listing) → Keeps start now → P now → P start
carried P none None now k p = none
carried P none (Some xs) now k p = subst P k p

hands_unbound : (now after : Option Listing) (m : Schema) (held : Option Held) → Hands now (at_member m) held after → is_response_bound m ≡ false → Hands (option_map unbound_items now) (at_member m) held (option_map unbound_items after)
hands_unbound None after m held h b = tt
hands_unbound (Some xs) after m held h b = (h.0, filter stays h.1, filter_in xs.items m h.0 h.1 h.2 b, h.3, ap (option_map unbound_items) h.4)

settles_unbound : (now : Option Listing) (slot : Slot) (settled : Option (SerdeError → Answer)) → SettlesBy now slot settled → SettlesBy (option_map unbound_items now) slot settled
settles_unbound None slot settled s = tt
settles_unbound (Some xs) slot settled s = s

none_unbound : (now : Option Listing) → IfSome now (λ xs. xs.items ≡ []) → IfSome (option_map unbound_items now) (λ xs. xs.items ≡ [])
none_unbound None e = tt
none_unbound (Some xs) e = ap (filter stays) e

ends_unbound : (now : Option Listing) → IfSome now (λ xs. xs.ends ≡ None) → IfSome (option_map unbound_items now) (λ xs. xs.ends ≡ None)
ends_unbound None e = tt
ends_unbound (Some xs) e = e

pub refused_unbound : (now : Option Listing) (e : SerdeError) → IsRefused now e → IsRefused (option_map unbound_items now) e
refused_unbound now e (inl m) = inl m
refused_unbound None e (inr r) = inr tt
refused_unbound (Some xs) e (inr r) = inr (record { none_left = ap (filter stays) r.none_left; ended = r.ended })

abbrev unbound_by : Schema → Frame → Option Listing
unbound_by node o = option_map unbound_items (o.to_come (Some node))

-- the fields so far were copies of bound members
pub record Skimmed (node : Schema) (start now : AtHand) : Type 0 where
  pub top : Frame
  pub frame : Frame
  pub below : List Frame
  pub was : start.opened ≡ top ∷ below
  pub stack : now.opened ≡ frame ∷ below
  pub form : frame.form ≡ top.form
  pub in_form : top.form ≡ group.Structure
  pub container : frame.container ≡ top.container
  pub depth : frame.depth ≡ top.depth
  pub fewer : frame.left (Some node) ≤ top.left (Some node)
  pub listed : Keeps (unbound_by node top) (unbound_by node frame)

pub is_in : (node : Schema) (start now : AtHand) → Skimmed node start now → IsIn group.Structure now
is_in node start now w = rw w.stack (w.form ∙ w.in_form)

module _ {node : Schema} {start now : AtHand} (w : Skimmed node start now) where
  same_listed : (top : Frame) → top ≡ w.frame → Keeps (unbound_by node w.top) (unbound_by node top)
  same_listed top e = subst (λ (o : Frame). Keeps (unbound_by node w.top) (unbound_by node o)) (sym e) w.listed

  pub finds : {m : Schema} {mid : AtHand} → MemberAdvanced node m now mid → is_response_bound m ≡ false → MemberAdvanced node m (without_copies start) (without_copies mid)
  finds {m} {mid} found b =
      let a = found.advanced in
      let both : a.top ∷ a.below ≡ w.frame ∷ w.below = sym a.was ∙ w.stack in
      let same_top : a.top ≡ w.frame = cc in
      let same_below : a.below ≡ w.below = cc in
      let fewer : w.frame.left (Some node) ≤ w.top.left (Some node) = w.fewer in
      let less : a.next.left (Some node) < w.frame.left (Some node) = subst (λ (o : Frame). a.next.left (Some node) < o.left (Some node)) same_top a.falls in
      record {
        advanced = record {
          top = unbound_frame w.top;
          next = unbound_frame a.next;
          below = map unbound_frame w.below;
          was = ap (map unbound_frame) w.was;
          now_is = ap (map unbound_frame) (a.now_is ∙ ap (λ b. a.next ∷ b) same_below);
          form = a.form ∙ ap (λ (o : Frame). o.form) same_top ∙ w.form;
          container = a.container ∙ ap (λ (o : Frame). o.container) same_top ∙ w.container;
          depth = a.depth ∙ ap (λ (o : Frame). o.depth) same_top ∙ w.depth;
          falls = omega (arith, fewer, less);
          lower = subst (λ d. mid.levels < d) (ap (λ (o : Frame). o.depth) same_top ∙ w.depth) a.lower;
          hands = carried (λ l. Hands l (at_member m) mid.held (unbound_by node a.next)) tt (unbound_by node w.top) (unbound_by node a.top) (same_listed a.top same_top)
              (hands_unbound (a.top.to_come (Some node)) (a.next.to_come (Some node)) m mid.held a.hands b);
          settles = carried (λ l. SettlesBy l (at_member m) a.next.settled) tt (unbound_by node w.top) (unbound_by node a.top) (same_listed a.top same_top)
              (settles_unbound (a.top.to_come (Some node)) (at_member m) a.next.settled a.settles);
        };
        is_member = found.is_member;
      }

  pub ends : {mid : AtHand} → Closed (Some node) now mid → Closed (Some node) (without_copies start) (without_copies mid)
  ends {mid} a =
      let both : a.top ∷ mid.opened ≡ w.frame ∷ w.below = sym a.was ∙ w.stack in
      let same_top : a.top ≡ w.frame = cc in
      let same_below : mid.opened ≡ w.below = cc in
      record {
        top = unbound_frame w.top;
        was = ap (map unbound_frame) (w.was ∙ ap (λ b. w.top ∷ b) (sym same_below));
        held = a.held ∙ ap (λ (o : Frame). o.container) same_top ∙ w.container;
        levels = a.levels ∙ ap (λ (o : Frame). o.depth) same_top ∙ w.depth;
        none_left = carried (λ l. IfSome l (λ xs. xs.items ≡ [])) tt (unbound_by node w.top) (unbound_by node a.top) (same_listed a.top same_top) (none_unbound (a.top.to_come (Some node)) a.none_left);
        not_refused = carried (λ l. IfSome l (λ xs. xs.ends ≡ None)) tt (unbound_by node w.top) (unbound_by node a.top) (same_listed a.top same_top) (ends_unbound (a.top.to_come (Some node)) a.not_refused);
      }

  pub stops : {mid : AtHand} {e : SerdeError} → Halted (Some node) now mid e → Halted (Some node) (without_copies start) (without_copies mid) e
  stops {mid} {e} h =
      let s = h.still w.frame w.below w.stack in
      let was : (without_copies start).opened ≡ unbound_frame w.top ∷ map unbound_frame w.below = ap (map unbound_frame) w.was in
      let refused : IsRefused (unbound_by node w.top) e = carried (λ l. IsRefused l e) (inr tt) (unbound_by node w.top) (unbound_by node w.frame) w.listed
      (refused_unbound (w.frame.to_come (Some node)) e (h.refused w.frame w.below w.stack)) in
      record {
        still = λ top below is.
            let both : top ∷ below ≡ unbound_frame w.top ∷ map unbound_frame w.below = sym is ∙ was in
            let same_below : below ≡ map unbound_frame w.below = cc in
            let same_top : top ≡ unbound_frame w.top = cc in
            (unbound_frame s.0, ap (map unbound_frame) s.1 ∙ ap (λ b. unbound_frame s.0 ∷ b) (sym same_below), s.2 ∙ w.depth ∙ ap (λ (o : Frame). o.depth) (sym same_top));
        refused = λ top below is.
            let both : top ∷ below ≡ unbound_frame w.top ∷ map unbound_frame w.below = sym is ∙ was in
            let same_top : top ≡ unbound_frame w.top = cc in
            subst (λ (o : Frame). IsRefused (o.to_come (Some node)) e) (sym same_top) refused;
      }
