-- How far a loop over the items of a container has come.
use Rattle.std.proofs.Common.{◌≡◌, ℕ, List, [], ◌∷◌, ◌++◌, Option, Some, None, option_map, Ok, Err, IfSome, ◌⊎◌, inl, inr, refl, sym, ap, subst, ◌∙◌, append_assoc}
use Rattle.smithy_schema.specs.Nodes.{Schema}
use Rattle.smithy_serde.specs.declared.error.SerdeError.{SerdeError}
use Rattle.smithy_serde.specs.declared.error.SerdeError.TheVariants.{OutOfMemory}
use Rattle.smithy_serde.specs.declared.scalar.Group.{Group}
use Rattle.smithy_serde.specs.declared.scalar.Group.TheVariants as group
use Rattle.smithy_serde.specs.views.Handing.{IsKept, HandsOut, settled_by, settled_in, AllHanded, HandsAll, Takes, IsAbove}
use Rattle.smithy_serde.specs.Held.{Held, Answer, IsAnswer, walked}
use Rattle.smithy_serde.specs.Listings.{Slot, Listing, asked}
use Rattle.smithy_serde.specs.ReadCalls.{Frame, AtHand, Hands, SettlesBy, Opened, NotOpened, Advanced, Closed, Halted, Hidden, Answered, IsRefused, IsRefusedAt}

-- what was handed out so far and then what is left, is all that the listing has
abbrev pub Follows : {S : Type 0} → (S → Slot → Held → S → Answer → Type 0) → Group → Option Listing → Option Listing → S → S → Type 0
Follows {S} takes g None now start state = Unit {0}
Follows {S} takes g (Some xs) now start state =
    (more : List (Slot × Held)) × (now ≡ Some (record xs { items = more }))
    × ((last : S) (answer : Answer) → HandsOut takes (settled_in g xs) xs.ends more state last answer → HandsOut takes (settled_in g xs) xs.ends xs.items start last answer)

pub record Walking {S : Type 0} (takes : S → Slot → Held → S → Answer → Type 0) (keeps : S → S → Type 0) (g : Group) (node : Schema) (start state : S) (before now : AtHand) : Type 0 where
  pub frame : Frame
  pub stack : now.opened ≡ frame ∷ before.opened
  pub form : frame.form ≡ g
  pub container : frame.container ≡ option_map walked before.held
  pub depth : frame.depth ≡ before.levels
  pub follows : Follows takes g (before.listing g node) (frame.to_come (asked g node)) start state
  pub kept : keeps start state

-- what falls with each item of the innermost container
abbrev pub still_left : Group → Schema → AtHand → ℕ
still_left g node now = left_of (asked g node) now.opened
  where
    left_of : Option Schema → List Frame → ℕ
    left_of by [] = 0
    left_of by (o ∷ os) = o.left by

module _ (S : Type 0) (takes : S → Slot → Held → S → Answer → Type 0) where
  no_memory : (own : Slot → SerdeError → Answer) (ends : Option SerdeError) (items : List (Slot × Held)) (s : S) (e : SerdeError) → e ≡ OutOfMemory → HandsOut takes own ends items s s (Err e)
  no_memory own ends [] s e m = (refl, inr (ap Err m))
  no_memory own ends (i ∷ is) s e m = inl (refl, ap Err m)

  refused_here : (own : Slot → SerdeError → Answer) (xs : Listing) (s : S) (e : SerdeError) → (e ≡ OutOfMemory) ⊎ IsRefusedAt xs e → HandsOut takes own xs.ends xs.items s s (Err e)
  refused_here own xs s e (inl m) = no_memory own xs.ends xs.items s e m
  refused_here own xs s e (inr r) = rw (r.none_left, r.ended) (refl, inl refl)

module _ (S : Type 0) (takes : S → Slot → Held → S → Answer → Type 0) (g : Group) where
  refused_all : (listing : Option Listing) (s : S) (e : SerdeError) → IsRefused listing e → AllHanded takes g listing s s (Err e)
  refused_all None s e r = tt
  refused_all (Some xs) s e r = refused_here S takes (settled_in g xs) xs s e r

  follows_all : (listing : Option Listing) (s : S) → Follows takes g listing listing s s
  follows_all None s = tt
  follows_all (Some xs) s = (xs.items, refl, λ last answer h. h)

  follows_refused : (listing now : Option Listing) (start state : S) (e : SerdeError) → Follows takes g listing now start state → IsRefused now e → AllHanded takes g listing start state (Err e)
  follows_refused None now start state e f r = tt
  follows_refused (Some xs) now start state e f r =
      f.2 state (Err e) (refused_here S takes (settled_in g xs) (record xs { items = f.0 }) state e (subst (λ l. IsRefused l e) f.1 r))

  follows_ended : (listing now : Option Listing) (start state : S) → Follows takes g listing now start state → IfSome now (λ xs. xs.items ≡ []) → IfSome now (λ xs. xs.ends ≡ None) → AllHanded takes g listing start state (Ok tt)
  follows_ended None now start state f none plain = tt
  follows_ended (Some xs) now start state f none plain =
      let no_more : f.0 ≡ [] = subst (λ o. IfSome o (λ (l : Listing). l.items ≡ [])) f.1 none in
      let no_end : xs.ends ≡ None = subst (λ o. IfSome o (λ (l : Listing). l.ends ≡ None)) f.1 plain in
      f.2 state (Ok tt) (rw (no_more, no_end) (refl, inl refl))

  -- the item was taken, and what `settle` answers for the consumer's answer is Ok
  follows_taken : (listing now after : Option Listing) (slot : Slot) (held : Option Held) (start state next : S) (given : Answer)
      → Follows takes g listing now start state → Hands now slot held after → IfSome held (λ h. takes state slot h next given)
      → ((xs : Listing) (more : List (Slot × Held)) → now ≡ Some (record xs { items = more }) → settled_by (settled_in g xs slot) given ≡ Ok tt)
      → Follows takes g listing after start next
  follows_taken None now after slot held start state next given f h t ok = tt
  follows_taken (Some xs) now after slot held start state next given f h t ok =
      let hands : Hands (Some (record xs { items = f.0 })) slot held after = subst (λ l. Hands l slot held after) f.1 h in
      let took : takes state slot hands.0 next given = subst (λ o. IfSome o (λ x. takes state slot x next given)) hands.3 t in
      let good : settled_by (settled_in g xs slot) given ≡ Ok tt = ok xs f.0 f.1 in (
        hands.1,
        hands.4,
        λ last answer k.
            f.2 last answer (rw hands.2 (inr (next, given, took, inr (rw good k)))),
      )

  -- the item was taken, and what `settle` answers for the consumer's answer is a refusal
  follows_stopped : (listing now after : Option Listing) (slot : Slot) (held : Option Held) (start state next : S) (given : Answer) (e : SerdeError)
      → Follows takes g listing now start state → Hands now slot held after → IfSome held (λ h. takes state slot h next given)
      → ((xs : Listing) (more : List (Slot × Held)) → now ≡ Some (record xs { items = more }) → (settled_by (settled_in g xs slot) given ≡ Err e) ⊎ (e ≡ OutOfMemory))
      → AllHanded takes g listing start next (Err e)
  follows_stopped None now after slot held start state next given e f h t stop = tt
  follows_stopped (Some xs) now after slot held start state next given e f h t stop =
      let hands : Hands (Some (record xs { items = f.0 })) slot held after = subst (λ l. Hands l slot held after) f.1 h in
      let took : takes state slot hands.0 next given = subst (λ o. IfSome o (λ x. takes state slot x next given)) hands.3 t in
      f.2 next (Err e) (rw hands.2 (inr (
        next,
        given,
        took,
        elim (stop xs f.0 f.1) [
          | inl bad ↦ inr (rw bad (refl, refl))
          | inr m ↦ inl (refl, ap Err m)
        ],
      )))

module _ {S : Type 0} {takes : S → Slot → Held → S → Answer → Type 0} {keeps : S → S → Type 0} (laws : IsKept keeps) {g : Group} {node : Schema} where
  -- the container was not opened
  pub not_opened : (s : S) (before now : AtHand) (e : SerdeError) → NotOpened g node before now e → HandsAll takes keeps g node s s before now (Err e)
  not_opened s before now e n = record { handed = refused_all S takes g (before.listing g node) s e n.refused; kept = laws.by_none s; leaves = ([], n.opened) }

  -- it was
  pub begins : (s : S) (before now : AtHand) → Opened g node before now → Walking takes keeps g node s s before now
  begins s before now o = record {
    frame = o.frame;
    stack = o.now_is;
    form = o.form;
    container = o.container;
    depth = o.depth;
    follows = subst (λ l. Follows takes g (before.listing g node) l s s) (sym o.to_come) (follows_all S takes g (before.listing g node) s);
    kept = laws.by_none s;
  }

  -- no item came to hand
  pub halted : (start state : S) (before now after : AtHand) (e : SerdeError) → Walking takes keeps g node start state before now → Halted (asked g node) now after e → HandsAll takes keeps g node start state before after (Err e)
  halted start state before now after e w h =
      let still = h.still w.frame before.opened w.stack in
      record {
        handed = follows_refused S takes g (before.listing g node) (w.frame.to_come (asked g node)) start state e w.follows (h.refused w.frame before.opened w.stack);
        kept = w.kept;
        leaves = (still.0 ∷ [], still.1);
      }

  -- there is no item left
  pub ends : (start state : S) (before now after : AtHand) → Walking takes keeps g node start state before now → Closed (asked g node) now after → HandsAll takes keeps g node start state before after (Ok tt)
  ends start state before now after w c =
      let both : c.top ∷ after.opened ≡ w.frame ∷ before.opened = sym c.was ∙ w.stack in
      let same_top : c.top ≡ w.frame = cc in
      let same_below : after.opened ≡ before.opened = cc in
      record {
        handed = follows_ended S takes g (before.listing g node) (w.frame.to_come (asked g node)) start state w.follows
            (subst (λ (o : Frame). IfSome (o.to_come (asked g node)) (λ xs. xs.items ≡ [])) same_top c.none_left)
            (subst (λ (o : Frame). IfSome (o.to_come (asked g node)) (λ xs. xs.ends ≡ None)) same_top c.not_refused);
        kept = w.kept;
        leaves = record {
          opened = same_below;
          held = c.held ∙ ap (λ (o : Frame). o.container) same_top ∙ w.container;
          levels = c.levels ∙ ap (λ (o : Frame). o.depth) same_top ∙ w.depth;
        };
      }

  -- an item was taken, and with the containers open as when it came to hand the loop goes on
  goes_on : (start state next : S) (slot : Slot) (given : Answer) (before now mid after : AtHand) → Walking takes keeps g node start state before now → (a : Advanced (asked g node) slot now mid)
      → IfSome mid.held (λ h. takes state slot h next given) → keeps state next → after.opened ≡ a.next ∷ before.opened
      → ((xs : Listing) (more : List (Slot × Held)) → a.top.to_come (asked g node) ≡ Some (record xs { items = more }) → settled_by (settled_in g xs slot) given ≡ Ok tt)
      → Walking takes keeps g node start next before after
  goes_on start state next slot given before now mid after w a took kept stacked ok =
      let both : a.top ∷ a.below ≡ w.frame ∷ before.opened = sym a.was ∙ w.stack in
      let same_top : a.top ≡ w.frame = cc in
      record {
        frame = a.next;
        stack = stacked;
        form = a.form ∙ ap (λ (o : Frame). o.form) same_top ∙ w.form;
        container = a.container ∙ ap (λ (o : Frame). o.container) same_top ∙ w.container;
        depth = a.depth ∙ ap (λ (o : Frame). o.depth) same_top ∙ w.depth;
        follows = follows_taken S takes g (before.listing g node) (a.top.to_come (asked g node)) (a.next.to_come (asked g node)) slot mid.held start state next given
            (subst (λ (o : Frame). Follows takes g (before.listing g node) (o.to_come (asked g node)) start state) (sym same_top) w.follows) a.hands took ok;
        kept = laws.by_both start state next w.kept kept;
      }

  -- an item was taken, and the loop ends with a refusal
  goes_out : (start state next : S) (slot : Slot) (given : Answer) (e : SerdeError) (before now mid after : AtHand) → Walking takes keeps g node start state before now → (a : Advanced (asked g node) slot now mid)
      → IfSome mid.held (λ h. takes state slot h next given) → keeps state next → IsAbove mid after
      → ((xs : Listing) (more : List (Slot × Held)) → a.top.to_come (asked g node) ≡ Some (record xs { items = more }) → (settled_by (settled_in g xs slot) given ≡ Err e) ⊎ (e ≡ OutOfMemory))
      → HandsAll takes keeps g node start next before after (Err e)
  goes_out start state next slot given e before now mid after w a took kept above stop =
      let both : a.top ∷ a.below ≡ w.frame ∷ before.opened = sym a.was ∙ w.stack in
      let same_top : a.top ≡ w.frame = cc in
      let same_below : a.below ≡ before.opened = cc in
      record {
        handed = follows_stopped S takes g (before.listing g node) (a.top.to_come (asked g node)) (a.next.to_come (asked g node)) slot mid.held start state next given e
            (subst (λ (o : Frame). Follows takes g (before.listing g node) (o.to_come (asked g node)) start state) (sym same_top) w.follows) a.hands took stop;
        kept = laws.by_both start state next w.kept kept;
        leaves = (above.0 ++ (a.next ∷ []), above.1 ∙ ap (λ m. above.0 ++ m) a.now_is ∙ rw (same_below, append_assoc) refl);
      }

  -- the consumer took the item
  pub taken : (start state next : S) (slot : Slot) (before now mid after : AtHand) → Walking takes keeps g node start state before now → Advanced (asked g node) slot now mid
      → Takes takes keeps slot state next mid after (Ok tt) → Walking takes keeps g node start next before after
  taken start state next slot before now mid after w a t =
      let both : a.top ∷ a.below ≡ w.frame ∷ before.opened = sym a.was ∙ w.stack in
      let same_below : a.below ≡ before.opened = cc in
      goes_on start state next slot (Ok tt) before now mid after w a t.taken t.kept (t.leaves ∙ a.now_is ∙ ap (λ b. a.next ∷ b) same_below) (λ xs more is. refl)

  -- the consumer refused the item, and its refusal is answered as it is
  pub stopped : (start state next : S) (slot : Slot) (e : SerdeError) (before now mid after : AtHand) → ((xs : Listing) → settled_in g xs slot e ≡ Err e) → Walking takes keeps g node start state before now
      → Advanced (asked g node) slot now mid → Takes takes keeps slot state next mid after (Err e) → HandsAll takes keeps g node start next before after (Err e)
  stopped start state next slot e before now mid after plain w a t = goes_out start state next slot (Err e) e before now mid after w a t.taken t.kept t.leaves (λ xs more is. inl (plain xs))

-- what `settle` answers by the listing
by_listing : (P : Answer → Type 0) (xs : Listing) (more : List (Slot × Held)) (slot : Slot) (settled : Option (SerdeError → Answer)) (refusal : SerdeError)
    → SettlesBy (Some (record xs { items = more })) slot settled → IfSome settled (λ f. P (f refusal)) → P (xs.settled slot refusal)
by_listing P xs more slot settled refusal s given =
    let here : P (s.0 refusal) = subst (λ o. IfSome o (λ (f : SerdeError → Answer). P (f refusal))) s.1 given in
    subst P (s.2 refusal) here

refused_as : (answer : Answer) (e : SerdeError) → IsAnswer answer (Err e) → (answer ≡ Err e) ⊎ (e ≡ OutOfMemory)
refused_as answer e (inl same) = inl (sym same)
refused_as answer e (inr m) = inr cc

module _ {S : Type 0} {takes : S → Slot → Held → S → Answer → Type 0} {keeps : S → S → Type 0} (laws : IsKept keeps) {node : Schema} where
  -- the consumer refused the member, and `settle` hid that
  pub hidden : (start state next : S) (slot : Slot) (refusal : SerdeError) (before now mid above after : AtHand) → Walking takes keeps group.Structure node start state before now → Advanced (Some node) slot now mid
      → Takes takes keeps slot state next mid above (Err refusal) → Hidden refusal above after → Walking takes keeps group.Structure node start next before after
  hidden start state next slot refusal before now mid above after w a t settles =
      let both : a.top ∷ a.below ≡ w.frame ∷ before.opened = sym a.was ∙ w.stack in
      let same_top : a.top ≡ w.frame = cc in
      let same_below : a.below ≡ before.opened = cc in
      let form : a.next.form ≡ group.Structure = a.form ∙ ap (λ (o : Frame). o.form) same_top ∙ w.form in
      let stack : above.opened ≡ t.leaves.0 ++ (a.next ∷ before.opened) = t.leaves.1 ∙ ap (λ m. t.leaves.0 ++ m) (a.now_is ∙ ap (λ b. a.next ∷ b) same_below) in
      let both_now = settles t.leaves.0 before.opened a.next form stack in
      goes_on laws start state next slot (Err refusal) before now mid after w a t.taken t.kept both_now.0
      (λ xs more is. by_listing (λ answer. answer ≡ Ok tt) xs more slot a.next.settled refusal (subst (λ l. SettlesBy l slot a.next.settled) is a.settles) both_now.1)

  -- or answered this
  pub answered : (start state next : S) (slot : Slot) (refusal e : SerdeError) (before now mid above after : AtHand) → Walking takes keeps group.Structure node start state before now → Advanced (Some node) slot now mid
      → Takes takes keeps slot state next mid above (Err refusal) → Answered refusal above after e → HandsAll takes keeps group.Structure node start next before after (Err e)
  answered start state next slot refusal e before now mid above after w a t settles =
      let both : a.top ∷ a.below ≡ w.frame ∷ before.opened = sym a.was ∙ w.stack in
      let same_top : a.top ≡ w.frame = cc in
      let same_below : a.below ≡ before.opened = cc in
      let form : a.next.form ≡ group.Structure = a.form ∙ ap (λ (o : Frame). o.form) same_top ∙ w.form in
      let stack : above.opened ≡ t.leaves.0 ++ (a.next ∷ before.opened) = t.leaves.1 ∙ ap (λ m. t.leaves.0 ++ m) (a.now_is ∙ ap (λ b. a.next ∷ b) same_below) in
      goes_out laws start state next slot (Err refusal) e before now mid after w a t.taken t.kept (t.leaves.0, settles.opened ∙ t.leaves.1)
      (λ xs more is. refused_as (xs.settled slot refusal) e
      (by_listing (λ answer. IsAnswer answer (Err e)) xs more slot a.next.settled refusal (subst (λ l. SettlesBy l slot a.next.settled) is a.settles) (settles.settled t.leaves.0 before.opened a.next form stack)))
