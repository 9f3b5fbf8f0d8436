-- How what a body's reader does is shown by the reader of a response.
use Rattle.std.specs.Prelude.{Bool, true, false}
use Rattle.smithy_response.proofs.Common.{◌≡◌, ◌<◌, ◌≤◌, ℕ, ◌+◌, List, [], ◌∷◌, Option, Some, None, option_map, IfSome, Result, Ok, Err, inl, inr, refl, sym, ap, ◌∙◌, arith, Schema, SchemaRef, SerdeError, Group, Held, Answer, walked, Slot, Listing, asked, as_it_is, Frame, AtHand, Hands, SettlesBy, Opened, NotOpened, OpensAt, Advanced, Closed, Halted, NextMember, NextElement, NextEntry, IsRefused, resettled, plainly, plain, untold}

-- a way of showing containers, and what is told of them
pub record Shows (frame_by : Frame → Frame) (told : Option Listing → Option Listing) (seen : Option Held → Option Held) (lift : ℕ → ℕ) : Type 0 where
  pub form : (o : Frame) → (frame_by o).form ≡ o.form
  pub container : (o : Frame) → (frame_by o).container ≡ seen o.container
  pub depth : (o : Frame) → (frame_by o).depth ≡ lift o.depth
  pub rises : (a b : ℕ) → a < b → lift a < lift b
  pub to_come : (o : Frame) (by : Option Schema) → (frame_by o).to_come by ≡ told (o.to_come by)
  pub left : (o : Frame) (by : Option Schema) → (frame_by o).left by ≡ o.left by
  pub hands : (now after : Option Listing) (slot : Slot) (held : Option Held) → Hands now slot held after → Hands (told now) slot (seen held) (told after)
  pub settles : (o : Frame) (now : Option Listing) (slot : Slot) → SettlesBy now slot o.settled → SettlesBy (told now) slot (frame_by o).settled
  pub none_left : (now : Option Listing) → IfSome now (λ xs. xs.items ≡ []) → IfSome (told now) (λ xs. xs.items ≡ [])
  pub not_refused : (now : Option Listing) → IfSome now (λ xs. xs.ends ≡ None) → IfSome (told now) (λ xs. xs.ends ≡ None)
  pub refused : (now : Option Listing) (e : SerdeError) → IsRefused now e → IsRefused (told now) e

pub untold_shows : Shows untold (λ l. None) (λ h. None) (λ d. 3 + d)
untold_shows = record {
  form = λ o. refl;
  container = λ o. refl;
  depth = λ o. refl;
  rises = λ a b h. omega (arith, h);
  to_come = λ o by. refl;
  left = λ o by. refl;
  hands = λ now after slot held h. tt;
  settles = λ o now slot s. tt;
  none_left = λ now h. tt;
  not_refused = λ now h. tt;
  refused = λ now e r. inr tt;
}

pub same_shows : Shows (λ o. o) (λ l. l) (λ h. h) (λ d. d)
same_shows = record {
  form = λ o. refl;
  container = λ o. refl;
  depth = λ o. refl;
  rises = λ a b h. h;
  to_come = λ o by. refl;
  left = λ o by. refl;
  hands = λ now after slot held h. h;
  settles = λ o now slot s. s;
  none_left = λ now h. h;
  not_refused = λ now h. h;
  refused = λ now e r. r;
}

pub hands_resettled : (f : Slot → SerdeError → Answer) (now after : Option Listing) (slot : Slot) (held : Option Held) → Hands now slot held after → Hands (option_map (resettled f) now) slot held (option_map (resettled f) after)
hands_resettled f None after slot held h = tt
hands_resettled f (Some xs) after slot held h = (h.0, h.1, h.2, h.3, ap (option_map (resettled f)) h.4)

settles_plain : (now : Option Listing) (slot : Slot) → SettlesBy (option_map plainly now) slot (Some (λ e. Err e))
settles_plain None slot = tt
settles_plain (Some xs) slot = ((λ e. Err e), refl, λ e. refl)

pub none_resettled : (f : Slot → SerdeError → Answer) (now : Option Listing) → IfSome now (λ xs. xs.items ≡ []) → IfSome (option_map (resettled f) now) (λ xs. xs.items ≡ [])
none_resettled f None h = tt
none_resettled f (Some xs) h = h

pub ends_resettled : (f : Slot → SerdeError → Answer) (now : Option Listing) → IfSome now (λ xs. xs.ends ≡ None) → IfSome (option_map (resettled f) now) (λ xs. xs.ends ≡ None)
ends_resettled f None h = tt
ends_resettled f (Some xs) h = h

pub refused_resettled : (f : Slot → SerdeError → Answer) (now : Option Listing) (e : SerdeError) → IsRefused now e → IsRefused (option_map (resettled f) now) e
refused_resettled f now e (inl m) = inl m
refused_resettled f None e (inr r) = inr tt
refused_resettled f (Some xs) e (inr r) = inr (record { none_left = r.none_left; ended = r.ended })

pub plain_shows : Shows plain (option_map plainly) (λ h. h) (λ d. d)
plain_shows = record {
  form = λ o. refl;
  container = λ o. refl;
  depth = λ o. refl;
  rises = λ a b h. h;
  to_come = λ o by. refl;
  left = λ o by. refl;
  hands = λ now after slot held h. hands_resettled as_it_is now after slot held h;
  settles = λ o now slot s. settles_plain now slot;
  none_left = λ now h. none_resettled as_it_is now h;
  not_refused = λ now h. ends_resettled as_it_is now h;
  refused = λ now e r. refused_resettled as_it_is now e r;
}

-- what the readers do is shown so
module _ {frame_by : Frame → Frame} {told : Option Listing → Option Listing} {seen : Option Held → Option Held} {lift : ℕ → ℕ} (shows : Shows frame_by told seen lift) where
  pub shown_opened : {g : Group} {node : Schema} {old new old_shown new_shown : AtHand} → (a : Opened g node old new) → new_shown.opened ≡ frame_by a.frame ∷ old_shown.opened
      → seen a.frame.container ≡ option_map walked old_shown.held → lift old.levels ≡ old_shown.levels → old.size g node ≤ old_shown.size g node → told (old.listing g node) ≡ old_shown.listing g node → Opened g node old_shown new_shown
  shown_opened {g} {node} a now_is held levels size listing =
      let within : a.frame.left (asked g node) ≤ _ = a.within in
      record {
        frame = frame_by a.frame;
        now_is = now_is;
        form = shows.form a.frame ∙ a.form;
        container = shows.container a.frame ∙ held;
        depth = shows.depth a.frame ∙ ap lift a.depth ∙ levels;
        within = rw (shows.left a.frame (asked g node)) (omega (arith, within, size));
        to_come = shows.to_come a.frame (asked g node) ∙ ap told a.to_come ∙ listing;
      }

  pub shown_advanced : {by : Option Schema} {slot : Slot} {old new old_shown new_shown : AtHand} (rest : List Frame) (a : Advanced by slot old new)
      → old_shown.opened ≡ frame_by a.top ∷ rest → new_shown.opened ≡ frame_by a.next ∷ rest → seen new.held ≡ new_shown.held → lift new.levels ≡ new_shown.levels → Advanced by slot old_shown new_shown
  shown_advanced {by} {slot} {old} {new} rest a was now_is held levels =
      let falls : a.next.left by < a.top.left by = a.falls in
      record {
        top = frame_by a.top;
        next = frame_by a.next;
        below = rest;
        was = was;
        now_is = now_is;
        form = shows.form a.next ∙ a.form ∙ sym (shows.form a.top);
        container = shows.container a.next ∙ ap seen a.container ∙ sym (shows.container a.top);
        depth = shows.depth a.next ∙ ap lift a.depth ∙ sym (shows.depth a.top);
        falls = rw (shows.left a.next by, shows.left a.top by) falls;
        lower = rw (sym levels, shows.depth a.top) (shows.rises new.levels a.top.depth a.lower);
        hands = rw (shows.to_come a.top by, shows.to_come a.next by, sym held) (shows.hands (a.top.to_come by) (a.next.to_come by) slot new.held a.hands);
        settles = rw (shows.to_come a.top by) (shows.settles a.next (a.top.to_come by) slot a.settles);
      }

  pub shown_closed : {by : Option Schema} {old new old_shown new_shown : AtHand} (a : Closed by old new)
      → old_shown.opened ≡ frame_by a.top ∷ new_shown.opened → seen new.held ≡ new_shown.held → lift new.levels ≡ new_shown.levels → Closed by old_shown new_shown
  shown_closed {by} a was held levels = record {
    top = frame_by a.top;
    was = was;
    held = sym held ∙ ap seen a.held ∙ sym (shows.container a.top);
    levels = sym levels ∙ ap lift a.levels ∙ sym (shows.depth a.top);
    none_left = rw (shows.to_come a.top by) (shows.none_left (a.top.to_come by) a.none_left);
    not_refused = rw (shows.to_come a.top by) (shows.not_refused (a.top.to_come by) a.not_refused);
  }

  pub shown_halted : {by : Option Schema} {e : SerdeError} {old new old_shown new_shown : AtHand} (top : Frame) (below rest : List Frame) → Halted by old new e → old.opened ≡ top ∷ below
      → old_shown.opened ≡ frame_by top ∷ rest → ((next : Frame) → new.opened ≡ next ∷ below → next.depth ≡ top.depth → new_shown.opened ≡ frame_by next ∷ rest) → Halted by old_shown new_shown e
  shown_halted {by} {e} top below rest h is was now_is =
      let s = h.still top below is in
      record {
        still = λ o os shape.
            let both : o ∷ os ≡ frame_by top ∷ rest = sym shape ∙ was in
            let same : os ≡ rest = cc in
            let same_top : o ≡ frame_by top = cc in
            (frame_by s.0, now_is s.0 s.1 s.2 ∙ ap (λ b. frame_by s.0 ∷ b) (sym same), shows.depth s.0 ∙ ap lift s.2 ∙ sym (shows.depth top) ∙ ap (λ (f : Frame). f.depth) (sym same_top));
        refused = λ o os shape.
            let both : o ∷ os ≡ frame_by top ∷ rest = sym shape ∙ was in
            let same : o ≡ frame_by top = cc in
            rw (same, shows.to_come top by) (shows.refused (top.to_come by) e (h.refused top below is));
      }

-- what goes on in a container goes on so in what is shown of it
pub record Steps (old new old_shown new_shown : AtHand) : Type 0 where
  pub advanced : (by : Option Schema) (slot : Slot) → Advanced by slot old new → Advanced by slot old_shown new_shown
  pub closed : (by : Option Schema) → Closed by old new → Closed by old_shown new_shown
  pub halted : (by : Option Schema) (e : SerdeError) → Halted by old new e → Halted by old_shown new_shown e

module _ {old new old_shown new_shown : AtHand} (steps : Steps old new old_shown new_shown) where
  pub shown_member : (node : Schema) (result : Result (Option SchemaRef) SerdeError) → NextMember node old new result → NextMember node old_shown new_shown result
  shown_member node (Ok None) n = steps.closed (Some node) n
  shown_member node (Ok (Some m)) n = record { advanced = steps.advanced (Some node) _ n.advanced; is_member = n.is_member }
  shown_member node (Err e) n = steps.halted (Some node) e n

  pub shown_element : (result : Result Bool SerdeError) → NextElement old new result → NextElement old_shown new_shown result
  shown_element (Ok false) n = steps.closed None n
  shown_element (Ok true) n = steps.advanced None _ n
  shown_element (Err e) n = steps.halted None e n

  pub shown_entry : (result : Result (Option (List ℕ)) SerdeError) → NextEntry old new result → NextEntry old_shown new_shown result
  shown_entry (Ok None) n = steps.closed None n
  shown_entry (Ok (Some key)) n = steps.advanced None _ n
  shown_entry (Err e) n = steps.halted None e n

-- a container is opened so in what is shown of it
pub record Openings (g : Group) (node : Schema) (old new old_shown new_shown : AtHand) : Type 0 where
  pub opened : Opened g node old new → Opened g node old_shown new_shown
  pub not_opened : (e : SerdeError) → NotOpened g node old new e → NotOpened g node old_shown new_shown e

pub shown_opening : {g : Group} {node : Schema} {old new old_shown new_shown : AtHand} → Openings g node old new old_shown new_shown → {U : Type 0} (result : Result U SerdeError) → OpensAt g node old new result
    → OpensAt g node old_shown new_shown result
shown_opening openings (Ok x) o = openings.opened o
shown_opening openings (Err e) o = openings.not_opened e o
