-- How the members of a response come to hand, one after the other.
use Rattle.std.specs.Prelude.{Bool, true, false, ◌||◌}
use Rattle.smithy_response.proofs.Common.{◌≡◌, ◌<◌, ◌≤◌, ℕ, ◌+◌, ◌-◌, List, [], ◌∷◌, ◌++◌, map, filter, length, Option, Some, None, option_map, IfSome, Result, Ok, Err, inl, inr, refl, sym, ap, subst, ◌∙◌, arith, Schema, is_response_bound, SchemaRef, SerdeError, Held, Answer, Slot, at_member, Listing, contents, Frame, AtHand, IsIn, Hands, SettlesBy, Opened, NotOpened, Advanced, MemberAdvanced, Closed, Halted, NextMember, IsRefused, IsRefusedAt, Response, BoundMember, OpenList, prefixed_in, Transport, Ended, nothing, before_rest, is_unbound, reads_body, body_part, only_unbound, source_at, in_body, settled, transport_at_hand, transport_settled, member_at_hand, header_reader, header_of, told_reader, told_frame, entries_left, still_routed, IsSameResponse, IsLeft, HandsMember, HandsBody, HandsNoMember, RefusesMember, resettled, unbound_items, unbound_frame, without_copies, untold, plain, levels_under, still_handed, body_left, structure_frame, body_frame, body_frames, at_top, at_bound, at_structure, at_payload, at_body}
use Rattle.std.specs.Option.{is_some}
use Rattle.smithy_serde.specs.declared.scalar.Group.TheVariants as group
use Rattle.smithy_serde.specs.Held as held
use Rattle.smithy_response.specs.declared.parts.BoundMember.TheVariants as bound
use Rattle.smithy_response.proofs.Copies.{Keeps, keeps_all, carried}
use Rattle.smithy_response.proofs.Presenting.{hands_resettled, none_resettled, ends_resettled, refused_resettled}

-- the innermost container, seen in another way
module _ (node : Schema) (old seen new : AtHand) (top own : Frame) (rest : List Frame) (is : old.opened ≡ top ∷ rest) (own_is : seen.opened ≡ own ∷ rest) (form : top.form ≡ own.form)
    (container : top.container ≡ own.container) (depth : top.depth ≡ own.depth) (fewer : top.left (Some node) ≤ own.left (Some node)) (kept : Keeps (own.to_come (Some node)) (top.to_come (Some node))) where
  renewed_advanced : {m : Schema} → Advanced (Some node) (at_member m) old new → Advanced (Some node) (at_member m) seen new
  renewed_advanced {m} a =
      let both : a.top ∷ a.below ≡ top ∷ rest = sym a.was ∙ is in
      let same_top : a.top ≡ top = cc in
      let same_below : a.below ≡ rest = cc in
      let falls : a.next.left (Some node) < top.left (Some node) = subst (λ (o : Frame). a.next.left (Some node) < o.left (Some node)) same_top a.falls in
      record {
        top = own;
        next = a.next;
        below = rest;
        was = own_is;
        now_is = a.now_is ∙ ap (λ b. a.next ∷ b) same_below;
        form = a.form ∙ ap (λ (o : Frame). o.form) same_top ∙ form;
        container = a.container ∙ ap (λ (o : Frame). o.container) same_top ∙ container;
        depth = a.depth ∙ ap (λ (o : Frame). o.depth) same_top ∙ depth;
        falls = omega (arith, falls, fewer);
        lower = subst (λ d. new.levels < d) (ap (λ (o : Frame). o.depth) same_top ∙ depth) a.lower;
        hands = carried (λ l. Hands l (at_member m) new.held (a.next.to_come (Some node))) tt (own.to_come (Some node)) (top.to_come (Some node)) kept
            (subst (λ (o : Frame). Hands (o.to_come (Some node)) (at_member m) new.held (a.next.to_come (Some node))) same_top a.hands);
        settles = carried (λ l. SettlesBy l (at_member m) a.next.settled) tt (own.to_come (Some node)) (top.to_come (Some node)) kept
            (subst (λ (o : Frame). SettlesBy (o.to_come (Some node)) (at_member m) a.next.settled) same_top a.settles);
      }

  renewed_closed : Closed (Some node) old new → Closed (Some node) seen new
  renewed_closed a =
      let both : a.top ∷ new.opened ≡ top ∷ rest = sym a.was ∙ is in
      let same_top : a.top ≡ top = cc in
      let same_below : new.opened ≡ rest = cc in
      record {
        top = own;
        was = own_is ∙ ap (λ b. own ∷ b) (sym same_below);
        held = a.held ∙ ap (λ (o : Frame). o.container) same_top ∙ container;
        levels = a.levels ∙ ap (λ (o : Frame). o.depth) same_top ∙ depth;
        none_left = carried (λ l. IfSome l (λ xs. xs.items ≡ [])) tt (own.to_come (Some node)) (top.to_come (Some node)) kept
            (subst (λ (o : Frame). IfSome (o.to_come (Some node)) (λ xs. xs.items ≡ [])) same_top a.none_left);
        not_refused = carried (λ l. IfSome l (λ xs. xs.ends ≡ None)) tt (own.to_come (Some node)) (top.to_come (Some node)) kept
            (subst (λ (o : Frame). IfSome (o.to_come (Some node)) (λ xs. xs.ends ≡ None)) same_top a.not_refused);
      }

  renewed_halted : (e : SerdeError) → Halted (Some node) old new e → Halted (Some node) seen new e
  renewed_halted e h =
      let s = h.still top rest is in
      record {
        still = λ o os shape.
            let both : o ∷ os ≡ own ∷ rest = sym shape ∙ own_is in
            let same : o ≡ own = cc in
            let below : os ≡ rest = cc in
            (s.0, s.1 ∙ ap (λ b. s.0 ∷ b) (sym below), s.2 ∙ depth ∙ ap (λ (f : Frame). f.depth) (sym same));
        refused = λ o os shape.
            let both : o ∷ os ≡ own ∷ rest = sym shape ∙ own_is in
            let same : o ≡ own = cc in
            subst (λ (f : Frame). IsRefused (f.to_come (Some node)) e) (sym same)
            (carried (λ l. IsRefused l e) (inr tt) (own.to_come (Some node)) (top.to_come (Some node)) kept (h.refused top rest is));
      }

  pub renewed : (result : Result (Option SchemaRef) SerdeError) → NextMember node old new result → NextMember node seen new result
  renewed (Ok None) n = renewed_closed n
  renewed (Ok (Some m)) n = record { advanced = renewed_advanced n.advanced; is_member = n.is_member }
  renewed (Err e) n = renewed_halted e n

-- the structure is the innermost container
module _ (own : Frame) where
  abbrev IsOwnInnermost : List Frame → Type 0
  IsOwnInnermost os = IsIn group.Structure (told_reader None (os ++ (own ∷ [])))

  none_in_list : (whole : Held) (list : Option OpenList) → IsOwnInnermost (header_reader whole [] list).opened → (header_reader whole [] list).opened ≡ []
  none_in_list whole None i = refl
  none_in_list whole (Some l) i = cc

  not_in_map : (whole entry : Held) (items : List (Slot × Held)) (list : Option OpenList) → IsOwnInnermost (header_reader entry (told_frame group.Map whole items ∷ []) list).opened → ⊥
  not_in_map whole entry items None i = cc
  not_in_map whole entry items (Some l) i = cc

  none_at_member : (response : Response) (m : BoundMember) → IsOwnInnermost (member_at_hand response m).opened → (member_at_hand response m).opened ≡ []
  none_at_member response bound.Nothing i = refl
  none_at_member response (bound.Header member h) i = none_in_list (header_of response h.name) h.list i
  none_at_member response (bound.Prefix member prefix None) i = refl
  none_at_member response (bound.Prefix member prefix (Some m)) i = absurd (not_in_map (held.prefixed (prefixed_in prefix response.headers)) (header_of response m.entry.name) (entries_left response m) m.entry.list i)
  none_at_member response bound.Status i = refl
  none_at_member response bound.Raw i = refl
  none_at_member response bound.Body i = refl

pub none_inside : (t : Transport) (is_given : Bool) (b : AtHand) → IsIn group.Structure (at_bound t is_given b) → (transport_at_hand t).opened ≡ []
none_inside t is_given b i = none_at_member (structure_frame t is_given (transport_settled t) b) t.response t.member i

module _ (t : Transport) (is_given : Bool) (b : AtHand) (node : Schema) (new : AtHand) (result : Result (Option SchemaRef) SerdeError) where
  pub from_bound : IsIn group.Structure (at_bound t is_given b) → NextMember node (at_structure t is_given b) new result → NextMember node (at_bound t is_given b) new result
  from_bound i = renewed node (at_structure t is_given b) (at_bound t is_given b) new (structure_frame t is_given (λ e. Err e) b) (structure_frame t is_given (transport_settled t) b) [] refl
      (ap (λ os. os ++ (structure_frame t is_given (transport_settled t) b ∷ [])) (none_inside t is_given b i)) refl refl refl (omega arith)
      (keeps_all (option_map (still_handed t node) (body_left is_given b.held))) result

-- what is left of the body fits whether it was given
left_fits : (is_given : Bool) (held : Option Held) → IfSome (body_left is_given held) (IsLeft is_given)
left_fits true held = λ e. refl
left_fits false None = tt
left_fits false (Some h) = λ e. cc

abbrev listing_of : Ended → (Slot → SerdeError → Answer) → Listing
listing_of given settle = record { items = given.items; ends = given.ends; settled = settle }

abbrev rest_of : Transport → Schema → Option Held → Ended
rest_of t node = body_part node t.response t.is_error

module _ (node : Schema) (t u : Transport) (same : IsSameResponse t u) where
  same_rest : rest_of u node ≡ rest_of t node
  same_rest = ap (λ r. body_part node r u.is_error) same.response ∙ ap (λ e. body_part node t.response e) same.is_error

  same_settled : settled u.policy u.response ≡ settled t.policy t.response
  same_settled = ap (λ r. settled u.policy r) same.response ∙ ap (λ p. settled p t.response) same.policy

  -- what follows a member that is handed out
  hands_next : (m : Schema) (h : Held) (body after : Option Held) (at_hand : Option Held) → still_routed t node (rest_of t node) body ≡ before_rest (at_member m) h (still_routed u node (rest_of t node) after)
      → at_hand ≡ Some h → Hands (Some (still_handed t node body)) (at_member m) at_hand (Some (still_handed u node after))
  hands_next m h body after at_hand follows is =
      let whole : still_handed t node body ≡ listing_of (before_rest (at_member m) h (still_routed u node (rest_of u node) after)) (settled t.policy t.response) =
      ap (λ g. listing_of g (settled t.policy t.response)) (follows ∙ ap (λ r. before_rest (at_member m) h (still_routed u node r after)) (sym same_rest)) in (
        h,
        (still_handed u node after).items,
        ap (λ (l : Listing). l.items) whole,
        is,
        ap (λ s. Some (listing_of (still_routed u node (rest_of u node) after) s)) same_settled
            ∙ ap (λ e. Some (record { items = (still_handed u node after).items; ends = e; settled = settled t.policy t.response })) (sym (ap (λ (l : Listing). l.ends) whole)),
      )

  module _ (is_given : Bool) (b : AtHand) where
    hands_member : (m : Schema) → HandsMember node m is_given t u → (left : Option (Option Held)) → IfSome left (IsLeft is_given)
        → Hands (option_map (still_handed t node) left) (at_member m) ((transport_at_hand u).held) (option_map (still_handed u node) left)
    hands_member m h None fits = tt
    hands_member m h (Some body) fits = hands_next m h.held body body ((transport_at_hand u).held) (h.follows (rest_of t node) body fits) h.at_hand

    settles_member : (m : Schema) → ((e : SerdeError) → transport_settled u e ≡ settled u.policy u.response (at_member m) e) → (left : Option (Option Held))
        → SettlesBy (option_map (still_handed t node) left) (at_member m) (Some (transport_settled u))
    settles_member m h None = tt
    settles_member m h (Some body) = (transport_settled u, refl, λ e. h e ∙ ap (λ (s : Slot → SerdeError → Answer). s (at_member m) e) same_settled)

    pub turns_member : (m : Schema) → (transport_at_hand u).opened ≡ [] → HandsMember node m is_given t u → MemberAdvanced node m (at_structure t is_given b) (at_bound u is_given b)
    turns_member m closed h =
        let falls : length node.node.members - u.place < length node.node.members - t.place = h.falls in
        let low : (transport_at_hand u).levels ≤ 2 = h.low in
        record {
          advanced = record {
            top = structure_frame t is_given (λ e. Err e) b;
            next = structure_frame u is_given (transport_settled u) b;
            below = [];
            was = refl;
            now_is = ap (λ os. os ++ (structure_frame u is_given (transport_settled u) b ∷ [])) closed;
            form = refl;
            container = refl;
            depth = refl;
            falls = omega (arith, falls);
            lower = omega (arith, low);
            hands = hands_member m h (body_left is_given b.held) (left_fits is_given b.held);
            settles = settles_member m h.settles (body_left is_given b.held);
          };
          is_member = h.is_member;
        }

    hands_payload : (m : Schema) → HandsBody node m is_given t u → (held : Option Held) → Hands (option_map (still_handed t node) (body_left false held)) (at_member m) held (Some (still_handed u node None))
    hands_payload m h None = tt
    hands_payload m h (Some body) = hands_next m body (Some body) None (Some body) (h.follows (rest_of t node) body) refl

    settles_payload : (m : Schema) → HandsBody node m is_given t u → (left : Option (Option Held)) → SettlesBy (option_map (still_handed t node) left) (at_member m) (Some (λ e. Err e))
    settles_payload m h None = tt
    settles_payload m h (Some body) = ((λ e. Err e), refl, λ e. sym (h.settles e) ∙ ap (λ (s : Slot → SerdeError → Answer). s (at_member m) e) same_settled)

    pub turns_payload : (m : Schema) → b.opened ≡ [] → HandsBody node m is_given t u → MemberAdvanced node m (at_structure t is_given b) (at_payload u b)
    turns_payload m none h =
        let falls : length node.node.members - u.place < length node.node.members - t.place = h.falls in
        record {
          advanced = record {
            top = structure_frame t is_given (λ e. Err e) b;
            next = structure_frame u true (λ e. Err e) b;
            below = [];
            was = refl;
            now_is = ap (λ os. map plain os ++ (structure_frame u true (λ e. Err e) b ∷ [])) none;
            form = refl;
            container = refl;
            depth = refl;
            falls = omega (arith, falls);
            lower = rw none (omega arith);
            hands = rw h.was_left (hands_payload m h b.held);
            settles = settles_payload m h (body_left is_given b.held);
          };
          is_member = h.is_member;
        }

    pub empty_given : is_given ≡ true → (body : Option Held) → IsLeft is_given body → rest_of t node body ≡ nothing
    empty_given given body fits = ap (rest_of t node) (fits given)

    pub empty_unread : reads_body node u.response u.is_error ≡ false → (body : Option Held) → IsLeft is_given body → rest_of t node body ≡ nothing
    empty_unread off None fits = refl
    empty_unread off (Some h) fits = ap (λ (r : Option Held → Ended). r (Some h)) (sym same_rest) ∙ rw off refl

    none_left : HandsNoMember node is_given t u → ((body : Option Held) → IsLeft is_given body → rest_of t node body ≡ nothing) → (left : Option (Option Held)) → IfSome left (IsLeft is_given)
        → IfSome (option_map (still_handed t node) left) (λ xs. xs.items ≡ [])
    none_left h empty None fits = tt
    none_left h empty (Some body) fits = ap (λ (g : Ended). g.items) (h.follows (rest_of t node) body fits ∙ empty body fits)

    not_refused : HandsNoMember node is_given t u → ((body : Option Held) → IsLeft is_given body → rest_of t node body ≡ nothing) → (left : Option (Option Held)) → IfSome left (IsLeft is_given)
        → IfSome (option_map (still_handed t node) left) (λ xs. xs.ends ≡ None)
    not_refused h empty None fits = tt
    not_refused h empty (Some body) fits = ap (λ (g : Ended). g.ends) (h.follows (rest_of t node) body fits ∙ empty body fits)

    -- no member is left
    pub turns_out : b.opened ≡ [] → HandsNoMember node is_given t u → ((body : Option Held) → IsLeft is_given body → rest_of t node body ≡ nothing) → Closed (Some node) (at_structure t is_given b) (at_top u b)
    turns_out none h empty = record {
      top = structure_frame t is_given (λ e. Err e) b;
      was = ap (λ os. structure_frame t is_given (λ e. Err e) b ∷ map untold os) (sym none);
      held = refl;
      levels = rw none refl;
      none_left = none_left h empty (body_left is_given b.held) (left_fits is_given b.held);
      not_refused = not_refused h empty (body_left is_given b.held) (left_fits is_given b.held);
    }

    refused_member : (e : SerdeError) → RefusesMember node is_given t e → (left : Option (Option Held)) → IfSome left (IsLeft is_given) → IsRefused (option_map (still_handed t node) left) e
    refused_member e r None fits = inr tt
    refused_member e r (Some body) fits = elim (r (rest_of t node) body fits) [
      | inl m ↦ inl m
      | inr is ↦ inr (record { none_left = ap (λ (g : Ended). g.items) is; ended = ap (λ (g : Ended). g.ends) is })
    ]

    halted_in : (e : SerdeError) (c : AtHand) → levels_under c.opened c.levels ≡ levels_under b.opened b.levels → (transport_at_hand u).opened ≡ []
        → IsRefused (option_map (still_handed t node) (body_left is_given b.held)) e → Halted (Some node) (at_structure t is_given b) (at_bound u is_given c) e
    halted_in e c levels closed refused = record {
      still = λ top below is.
          let same_top : structure_frame t is_given (λ e. Err e) b ≡ top = cc in
          let same_below : [] ≡ below = cc in
          let next = structure_frame u is_given (transport_settled u) c in (
            next,
            ap (λ os. os ++ (next ∷ [])) closed ∙ ap (λ os. next ∷ os) same_below,
            ap (λ d. 3 + d) levels ∙ ap (λ (f : Frame). f.depth) same_top,
          );
      refused = λ top below is.
          let same_top : structure_frame t is_given (λ e. Err e) b ≡ top = cc in
          subst (λ (f : Frame). IsRefused (f.to_come (Some node)) e) same_top refused;
    }

    -- a member is refused
    pub turns_refused : (e : SerdeError) → (transport_at_hand u).opened ≡ [] → RefusesMember node is_given t e → Halted (Some node) (at_structure t is_given b) (at_bound u is_given b) e
    turns_refused e closed r = halted_in e b refl closed (refused_member e r (body_left is_given b.held) (left_fits is_given b.held))

    -- what follows the bound members is the body's listing
    module _ (h : HandsNoMember node is_given t u) (on : reads_body node u.response u.is_error ≡ true) where
      body_listed : (body : Held) → IsLeft is_given (Some body) → still_routed t node (rest_of t node) (Some body) ≡ only_unbound (contents group.Structure node body)
      body_listed body fits = h.follows (rest_of t node) (Some body) fits ∙ ap (λ (r : Option Held → Ended). r (Some body)) (sym same_rest) ∙ rw on refl

      kept_listing : is_given ≡ false → (held : Option Held) (listing : Option Listing) → ((body : Held) → held ≡ Some body → listing ≡ Some (contents group.Structure node body))
          → Keeps (option_map (still_handed t node) (body_left false held)) (option_map (resettled (settled u.policy u.response)) (option_map unbound_items listing))
      kept_listing left None listing told = tt
      kept_listing left (Some body) listing told =
          let fits : IsLeft is_given (Some body) = λ e. (let bad : false ≡ true = sym left ∙ e in cc) in
          ap (λ l. option_map (resettled (settled u.policy u.response)) (option_map unbound_items l)) (told body refl)
          ∙ ap (λ s. Some (listing_of (only_unbound (contents group.Structure node body)) s)) same_settled
          ∙ ap (λ g. Some (listing_of g (settled t.policy t.response))) (sym (body_listed body fits))

      -- the body's fields come next
      pub turns_body : is_given ≡ false → b.opened ≡ [] → (c : AtHand) → (o : Opened group.Structure node b c) → (new : AtHand) (result : Result (Option SchemaRef) SerdeError)
          → NextMember node (at_body u c) new result → NextMember node (at_structure t is_given b) new result
      turns_body left none c o new result n =
          let within : o.frame.left (Some node) ≤ b.size group.Structure node = o.within in
          rw left (renewed node (at_body u c) (at_structure t false b) new (body_frame u o.frame) (structure_frame t false (λ e. Err e) b) [] (ap (body_frames u) (o.now_is ∙ ap (λ os. o.frame ∷ os) none)) refl o.form refl
          (rw none (ap (λ d. 3 + d) o.depth)) (omega (arith, within))
          (subst (λ l. Keeps (option_map (still_handed t node) (body_left false b.held)) (option_map (resettled (settled u.policy u.response)) (option_map unbound_items l))) (sym o.to_come)
          (kept_listing left b.held (b.listing group.Structure node) (λ body e. b.told group.Structure node body e))) result n)

      refused_left : is_given ≡ false → (held : Option Held) (listing : Option Listing) (e : SerdeError) → ((body : Held) → held ≡ Some body → listing ≡ Some (contents group.Structure node body)) → IsRefused listing e
          → IsRefused (option_map (still_handed t node) (body_left false held)) e
      refused_left left held listing e told (inl m) = inl m
      refused_left left None listing e told (inr r) = inr tt
      refused_left left (Some body) listing e told (inr r) =
          let fits : IsLeft is_given (Some body) = λ e. (let bad : false ≡ true = sym left ∙ e in cc) in
          let at : IsRefusedAt (contents group.Structure node body) e = subst (λ l. IfSome l (λ xs. IsRefusedAt xs e)) (told body refl) r in
          let same_given = body_listed body fits in
          inr (record {
            none_left = ap (λ (g : Ended). g.items) same_given ∙ ap (filter (λ (i : Slot × Held). is_unbound i.0)) at.none_left;
            ended = ap (λ (g : Ended). g.ends) same_given ∙ at.ended;
          })

      -- or the body is refused
      pub turns_unopened : is_given ≡ false → (transport_at_hand u).opened ≡ [] → (e : SerdeError) (c : AtHand) → NotOpened group.Structure node b c e → Halted (Some node) (at_structure t is_given b) (at_bound u is_given c) e
      turns_unopened left closed e c n = halted_in e c (rw (n.opened, n.levels) refl) closed
          (rw left (refused_left left b.held (b.listing group.Structure node) e (λ body is. b.told group.Structure node body is) n.refused))

-- a member that is not bound stands in the body
pub source_unbound : (h p : Option (List ℕ)) (code payload : Bool) → (is_some h || is_some p || code || payload) ≡ false → source_at h p code payload ≡ in_body
source_unbound (Some x) p code payload e = cc
source_unbound None (Some x) code payload e = cc
source_unbound None None true payload e = cc
source_unbound None None false true e = cc
source_unbound None None false false e = refl

settled_unbound : (t : Transport) (m : Schema) (e : SerdeError) → is_response_bound m ≡ false → Err e ≡ settled t.policy t.response (at_member m) e
settled_unbound t m e b =
    let n = m.node.traits in
    rw (source_unbound n.http_header n.http_prefix_headers n.http_response_code n.http_payload b) refl

-- one container of the body is open
one_frame : (os : List Frame) → length os ≡ 1 → (o : Frame) × (os ≡ o ∷ [])
one_frame [] n = cc
one_frame (o ∷ []) n = (o, refl)
one_frame (o ∷ p ∷ os) n = absurd (omega (arith, n))

still_one : (os : List Frame) (x : Frame) (below : List Frame) → map unbound_frame os ≡ x ∷ below → below ≡ [] → (o : Frame) × (os ≡ o ∷ []) × (unbound_frame o ≡ x)
still_one [] x below is none = cc
still_one (o ∷ []) x below is none = (o, refl, (let same : unbound_frame o ≡ x = cc in same))
still_one (o ∷ p ∷ os) x below is none = cc

none_open : (os : List Frame) → map unbound_frame os ≡ [] → os ≡ []
none_open [] is = refl
none_open (o ∷ os) is = cc

-- the next field of the body comes to hand
module _ (node : Schema) (t : Transport) (b c : AtHand) (one : length b.opened ≡ 1) where
  abbrev settle : Slot → SerdeError → Answer
  settle = settled t.policy t.response

  settles_field : (now : Option Listing) (m : Schema) → is_response_bound m ≡ false → SettlesBy (option_map (resettled settle) now) (at_member m) (Some (λ e. Err e))
  settles_field None m b = tt
  settles_field (Some xs) m b = ((λ e. Err e), refl, λ e. settled_unbound t m e b)

  field_advanced : (m : Schema) → is_response_bound m ≡ false → Advanced (Some node) (at_member m) (without_copies b) (without_copies c) → Advanced (Some node) (at_member m) (at_body t b) (at_body t c)
  field_advanced m bound a =
      let o = one_frame b.opened one in
      let was : unbound_frame o.0 ∷ [] ≡ a.top ∷ a.below = sym (ap (map unbound_frame) o.1) ∙ a.was in
      let top : unbound_frame o.0 ≡ a.top = cc in
      let below : a.below ≡ [] = cc in
      let p = still_one c.opened a.next a.below a.now_is below in
      let lower : c.levels < a.top.depth = a.lower in
      let deep : o.0.depth ≡ a.top.depth = ap (λ (f : Frame). f.depth) top in
      record {
        top = body_frame t o.0;
        next = body_frame t p.0;
        below = [];
        was = ap (body_frames t) o.1;
        now_is = ap (body_frames t) p.1;
        form = ap (λ (f : Frame). f.form) p.2 ∙ a.form ∙ ap (λ (f : Frame). f.form) (sym top);
        container = refl;
        depth = ap (λ (f : Frame). 3 + f.depth) p.2 ∙ ap (λ d. 3 + d) a.depth ∙ ap (λ (f : Frame). 3 + f.depth) (sym top);
        falls = subst (λ (f : Frame). f.left (Some node) < o.0.left (Some node)) (sym p.2) (subst (λ (f : Frame). a.next.left (Some node) < f.left (Some node)) (sym top) a.falls);
        lower = omega (arith, lower, deep);
        hands = hands_resettled settle ((unbound_frame o.0).to_come (Some node)) ((unbound_frame p.0).to_come (Some node)) (at_member m) c.held
            (subst (λ (f : Frame). Hands (f.to_come (Some node)) (at_member m) c.held ((unbound_frame p.0).to_come (Some node))) (sym top)
            (subst (λ (f : Frame). Hands (a.top.to_come (Some node)) (at_member m) c.held (f.to_come (Some node))) (sym p.2) a.hands));
        settles = settles_field ((unbound_frame o.0).to_come (Some node)) m bound;
      }

  pub field_found : (m : Schema) → is_response_bound m ≡ false → MemberAdvanced node m (without_copies b) (without_copies c) → MemberAdvanced node m (at_body t b) (at_body t c)
  field_found m bound f = record { advanced = field_advanced m bound f.advanced; is_member = f.is_member }

  pub field_closed : Closed (Some node) (without_copies b) (without_copies c) → Closed (Some node) (at_body t b) (at_top t c)
  field_closed a =
      let o = one_frame b.opened one in
      let was : unbound_frame o.0 ∷ [] ≡ a.top ∷ map unbound_frame c.opened = sym (ap (map unbound_frame) o.1) ∙ a.was in
      let top : unbound_frame o.0 ≡ a.top = cc in
      let below : map unbound_frame c.opened ≡ [] = cc in
      record {
        top = body_frame t o.0;
        was = ap (body_frames t) o.1 ∙ ap (λ os. body_frame t o.0 ∷ map untold os) (sym (none_open c.opened below));
        held = refl;
        levels = ap (λ d. 3 + d) a.levels ∙ ap (λ (f : Frame). 3 + f.depth) (sym top);
        none_left = none_resettled settle ((unbound_frame o.0).to_come (Some node)) (subst (λ (f : Frame). IfSome (f.to_come (Some node)) (λ xs. xs.items ≡ [])) (sym top) a.none_left);
        not_refused = ends_resettled settle ((unbound_frame o.0).to_come (Some node)) (subst (λ (f : Frame). IfSome (f.to_come (Some node)) (λ xs. xs.ends ≡ None)) (sym top) a.not_refused);
      }

  pub field_halted : (e : SerdeError) → Halted (Some node) (without_copies b) (without_copies c) e → Halted (Some node) (at_body t b) (at_body t c) e
  field_halted e h =
      let o = one_frame b.opened one in
      let s = h.still (unbound_frame o.0) [] (ap (map unbound_frame) o.1) in
      let p = still_one c.opened s.0 [] s.1 refl in
      record {
        still = λ top below is.
            let both : body_frame t o.0 ∷ [] ≡ top ∷ below = sym (ap (body_frames t) o.1) ∙ is in
            let same_top : body_frame t o.0 ≡ top = cc in
            let same_below : [] ≡ below = cc in (
              body_frame t p.0,
              ap (body_frames t) p.1 ∙ ap (λ os. body_frame t p.0 ∷ os) same_below,
              ap (λ (f : Frame). 3 + f.depth) p.2 ∙ ap (λ d. 3 + d) s.2 ∙ ap (λ (f : Frame). f.depth) same_top,
            );
        refused = λ top below is.
            let both : body_frame t o.0 ∷ [] ≡ top ∷ below = sym (ap (body_frames t) o.1) ∙ is in
            let same_top : body_frame t o.0 ≡ top = cc in
            subst (λ (f : Frame). IsRefused (f.to_come (Some node)) e) same_top
            (refused_resettled settle ((unbound_frame o.0).to_come (Some node)) e (h.refused (unbound_frame o.0) [] (ap (map unbound_frame) o.1)));
      }

-- nothing is open
pub none_left_open : (os : List Frame) → length os ≡ 0 → os ≡ []
none_left_open [] n = refl
none_left_open (o ∷ os) n = absurd (omega (arith, n))

-- the body's structure alone is open
pub one_opened : (node : Schema) (b c : AtHand) → b.opened ≡ [] → Opened group.Structure node b c → length c.opened ≡ 1
one_opened node b c none o = ap length (o.now_is ∙ ap (λ os. o.frame ∷ os) none)
