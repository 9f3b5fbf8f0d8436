-- What the reader of a response answers for refusals, and how its structure is opened.
use Rattle.std.specs.Prelude.{Bool, true, false}
use Rattle.smithy_response.proofs.Common.{◌≡◌, List, [], ◌∷◌, ◌++◌, map, Option, Some, None, option_map, IfSome, Ok, Err, inl, inr, refl, sym, ap, subst, ◌∙◌, arith, Response, Schema, SerdeError, Held, Answer, IsAnswer, Frame, AtHand, Opened, Hidden, Answered, BoundMember, OpenList, Transport, handed, transport_at_hand, transport_settled, member_at_hand, header_reader, header_of, IsSameResponse, IsSameTurn, untold, plain, still_handed, handed_from, structure_frame, body_frames, top_listing, at_top, at_bound, at_payload, at_body}
use Rattle.smithy_serde.specs.declared.scalar.Group.TheVariants as group
use Rattle.smithy_response.specs.declared.parts.BoundMember.TheVariants as bound
use Rattle.smithy_response.proofs.StageSteps.{same_bound}

-- a refusal is answered as it is
abbrev AsItIs : Frame → Type 0
AsItIs o = o.settled ≡ Some (λ e. Err e)

-- each of them, wherever it stands
abbrev Each : (Frame → Type 0) → List Frame → Type 0
Each P [] = Unit {0}
Each P (o ∷ os) = P o × Each P os

each_at : (P : Frame → Type 0) (os above below : List Frame) (frame : Frame) → Each P os → os ≡ above ++ (frame ∷ below) → P frame
each_at P [] [] below frame all e = cc
each_at P [] (a ∷ above) below frame all e = cc
each_at P (o ∷ os) [] below frame all e = (let same : o ≡ frame = cc in subst P same all.0)
each_at P (o ∷ os) (a ∷ above) below frame all e = (let rest : os ≡ above ++ (frame ∷ below) = cc in each_at P os above below frame all.1 rest)

each_untold : (os : List Frame) → Each (λ o. o.settled ≡ None) (map untold os)
each_untold [] = tt
each_untold (o ∷ os) = (refl, each_untold os)

each_over : (os : List Frame) (own : Frame) → AsItIs own → Each AsItIs (map plain os ++ (own ∷ []))
each_over [] own e = (e, tt)
each_over (o ∷ os) own e = (refl, each_over os own e)

each_field : (t : Transport) (os : List Frame) → Each AsItIs (body_frames t os)
each_field t [] = tt
each_field t (o ∷ []) = (refl, tt)
each_field t (o ∷ p ∷ os) = (refl, each_field t (p ∷ os))

answered_plainly : (old : AtHand) (refusal : SerdeError) → Each AsItIs old.opened → Answered refusal old old refusal
answered_plainly old refusal all = record {
  opened = refl;
  settled = λ above below frame form e. rw (each_at AsItIs old.opened above below frame all e) (inl refl);
}

pub answered_top : (t : Transport) (b : AtHand) (refusal : SerdeError) → Answered refusal (at_top t b) (at_top t b) refusal
answered_top t b refusal = record {
  opened = refl;
  settled = λ above below frame form e. rw (each_at (λ o. o.settled ≡ None) (map untold b.opened) above below frame (each_untold b.opened) e) tt;
}

pub answered_payload : (t : Transport) (b : AtHand) (refusal : SerdeError) → Answered refusal (at_payload t b) (at_payload t b) refusal
answered_payload t b refusal = answered_plainly (at_payload t b) refusal (each_over b.opened (structure_frame t true (λ e. Err e) b) refl)

pub answered_body : (t : Transport) (b : AtHand) (refusal : SerdeError) → Answered refusal (at_body t b) (at_body t b) refusal
answered_body t b refusal = answered_plainly (at_body t b) refusal (each_field t b.opened)

-- inside a bound member no structure is open
abbrev IsNoStructure : Frame → Type 0
IsNoStructure o = o.form ≡ group.Structure → ⊥

none_in_header : (whole : Held) (below : List Frame) (list : Option OpenList) → Each IsNoStructure below → Each IsNoStructure (header_reader whole below list).opened
none_in_header whole below None all = all
none_in_header whole below (Some l) all = ((λ e. cc), all)

none_at : (response : Response) (m : BoundMember) → Each IsNoStructure (member_at_hand response m).opened
none_at response bound.Nothing = tt
none_at response (bound.Header member h) = none_in_header (header_of response h.name) [] h.list tt
none_at response (bound.Prefix member prefix None) = tt
none_at response (bound.Prefix member prefix (Some m)) = none_in_header (header_of response m.entry.name) _ m.entry.list ((λ e. cc), tt)
none_at response bound.Status = tt
none_at response bound.Raw = tt
none_at response bound.Body = tt

only_structure : (os : List Frame) (own : Frame) (above below : List Frame) (frame : Frame) → Each IsNoStructure os → frame.form ≡ group.Structure → os ++ (own ∷ []) ≡ above ++ (frame ∷ below)
    → (own ≡ frame) × ([] ≡ below)
only_structure [] own [] below frame none form e = (cc, cc)
only_structure [] own (a ∷ []) below frame none form e = cc
only_structure [] own (a ∷ b ∷ above) below frame none form e = cc
only_structure (o ∷ os) own [] below frame none form e = (let same : o ≡ frame = cc in absurd (none.0 (ap (λ (f : Frame). f.form) same ∙ form)))
only_structure (o ∷ os) own (a ∷ above) below frame none form e = (let rest : os ++ (own ∷ []) ≡ above ++ (frame ∷ below) = cc in only_structure os own above below frame none.1 form rest)

answer_ok : (settled : Answer) → IsAnswer settled (Ok tt) → settled ≡ Ok tt
answer_ok settled (inl e) = sym e
answer_ok settled (inr bad) = cc

module _ (t : Transport) (is_given : Bool) (b : AtHand) (refusal : SerdeError) where
  pub answered_bound : (e : SerdeError) → IsAnswer (transport_settled t refusal) (Err e) → Answered refusal (at_bound t is_given b) (at_bound t is_given b) e
  answered_bound e a = record {
    opened = refl;
    settled = λ above below frame form is.
        let o = only_structure (transport_at_hand t).opened (structure_frame t is_given (transport_settled t) b) above below frame (none_at t.response t.member) form is in
        subst (λ (f : Frame). IfSome f.settled (λ g. IsAnswer (g refusal) (Err e))) o.0 a;
  }

  pub hidden_bound : (u : Transport) → IsSameTurn t u → (transport_at_hand u).opened ≡ [] → IsAnswer (transport_settled t refusal) (Ok tt) → Hidden refusal (at_bound t is_given b) (at_bound u is_given b)
  hidden_bound u same closed a above below frame form is =
      let o = only_structure (transport_at_hand t).opened (structure_frame t is_given (transport_settled t) b) above below frame (none_at t.response t.member) form is in (
        ap (λ os. os ++ (structure_frame u is_given (transport_settled u) b ∷ [])) closed ∙ ap (λ f. f ∷ []) (same_bound t u is_given b same ∙ o.0) ∙ ap (λ os. frame ∷ os) o.1,
        subst (λ (f : Frame). IfSome f.settled (λ g. g refusal ≡ Ok tt)) o.0 (answer_ok (transport_settled t refusal) a),
      )

-- the response's structure is opened
module _ (node : Schema) (t u : Transport) (same : IsSameResponse t u) (place : u.place ≡ 0) where
  handed_here : (body : Held) → still_handed u node (Some body) ≡ handed node t.response body t.is_error t.policy
  unfolding handed
  handed_here body =
      ap (λ r. handed_from r u.is_error u.policy u.place node (Some body)) same.response ∙ ap (λ e. handed_from t.response e u.policy u.place node (Some body)) same.is_error
      ∙ ap (λ p. handed_from t.response t.is_error p u.place node (Some body)) same.policy ∙ ap (λ n. handed_from t.response t.is_error t.policy n node (Some body)) place

  handed_at : (held : Option Held) → option_map (still_handed u node) (option_map (λ h. Some h) held) ≡ option_map (λ body. handed node t.response body t.is_error t.policy) held
  handed_at None = refl
  handed_at (Some body) = ap (λ l. Some l) (handed_here body)

  pub opens_top : (b : AtHand) → b.opened ≡ [] → (transport_at_hand u).opened ≡ [] → Opened group.Structure node (at_top t b) (at_bound u false b)
  opens_top b none closed =
      let own = structure_frame u false (transport_settled u) b in
      record {
        frame = own;
        now_is = ap (λ os. os ++ (own ∷ [])) closed ∙ ap (λ os. own ∷ map untold os) (sym none);
        form = refl;
        container = refl;
        depth = rw none refl;
        within = omega arith;
        to_come = handed_at b.held ∙ ap (λ os. top_listing t os b.held group.Structure node) (sym none);
      }
