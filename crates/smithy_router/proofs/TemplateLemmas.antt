-- Parts of templates, cut one by one.
use Rattle.smithy_router.proofs.Common.{◌≡◌, ◌≢◌, refl, sym, ◌∙◌, ap, subst, Result, ℕ, ◌-◌, ◌+◌, arith, Bool, true, false, ◌==◌, List, [], ◌∷◌, ◌++◌, length, eq-eqb, take, drop, Option, Some, None, MatchOption, option_map, option_and_then, if◌then◌else◌, nat_eq, codes, Bor, ends_with, starts_with, before_first, slice_split, append_assoc, append-nil, take-append-drop, length-append, each, hole_of, Segment, Literal, Hole as AnyText, segments_of, Part, Fixed, Bound, before_close, part_of, segments_in, query_of, sound_parts, path_parts, routable_parts, text_seen, Gives, RouteError}
use Rattle.std.specs.Cmp.Lexicographic.{same_text as same_from_test}
use Rattle.std.proofs.Math.Seq.{drop-append_seam, take-append_seam}
use Rattle.smithy_router.proofs.Cuts.{is_path_of}

-- a text with the byte at its end
at_end : (c : ℕ) (text : List ℕ) → ends_with nat_eq (text ++ c ∷ []) (c ∷ []) ≡ true
at_end c text =
    let n : length (text ++ c ∷ []) - 1 ≡ length text = (let l : length (text ++ c ∷ []) ≡ length text + 1 = length-append text (c ∷ []) in omega (arith, l)) in
    rw (n, drop-append_seam text (c ∷ []), eq-eqb c c refl) refl

front : (c : ℕ) (text : List ℕ) → take (length (text ++ c ∷ []) - 1) (text ++ c ∷ []) ≡ text
front c text =
    let n : length (text ++ c ∷ []) - 1 ≡ length text = (let l : length (text ++ c ∷ []) ≡ length text + 1 = length-append text (c ∷ []) in omega (arith, l)) in
    rw (n, take-append_seam text (c ∷ [])) refl

not_at_end : (c : ℕ) (text : List ℕ) → ((name : List ℕ) → text ≢ name ++ c ∷ []) → ends_with nat_eq text (c ∷ []) ≡ false
not_at_end c text none = go (ends_with nat_eq text (c ∷ [])) refl
  where
    go : (b : Bool) → ends_with nat_eq text (c ∷ []) ≡ b → b ≡ false
    go true e = absurd (none (take (length text - 1) text) (sym (take-append-drop (length text - 1) text) ∙ ap (λ t. take (length text - 1) text ++ t) (sym (same_from_test (c ∷ []) (drop (length text - 1) text) (sym e)))))
    go false e = refl

pub greedy_cases : (text : List ℕ) (r : Option (Bor (List ℕ))) → MatchOption r ((name : List ℕ) → text ≢ name ++ (43 ∷ [])) (λ x. text ≡ x.now ++ (43 ∷ []))
    → MatchOption r (hole_of text ≡ record { name = text; greedy = false }) (λ x. hole_of text ≡ record { name = x.now; greedy = true })
greedy_cases text None h = rw (not_at_end 43 text h) refl
greedy_cases text (Some x) h = rw (h, at_end 43 x.now, front 43 x.now) refl

pub close_cases : (text : List ℕ) (r : Option (Bor (List ℕ))) → MatchOption r ((name : List ℕ) → text ≢ name ++ (125 ∷ [])) (λ x. text ≡ x.now ++ (125 ∷ [])) → text_seen r ≡ before_close text
close_cases text None h = sym (rw (not_at_end 125 text h) refl)
close_cases text (Some x) h = sym (rw (h, at_end 125 x.now, front 125 x.now) refl)

-- what the rest gives, behind the parts so far
abbrev pub in_front : List Part → Option (List Part) → Option (List Part)
in_front ps rest = option_map (λ qs. ps ++ qs) rest

in_front_more : (ps : List Part) (p : Part) (rest : Option (List Part)) → in_front ps (option_map (λ qs. p ∷ qs) rest) ≡ in_front (ps ++ p ∷ []) rest
in_front_more ps p None = refl
in_front_more ps p (Some qs) = ap Some (sym (append_assoc ps (p ∷ []) qs))

pub before_more : (ps : List Part) (p : Part) (segment : List ℕ) (segments : List (List ℕ)) → Some p ≡ part_of segment → in_front ps (each part_of (segment ∷ segments)) ≡ in_front (ps ++ p ∷ []) (each part_of segments)
before_more ps p segment segments e = ap (λ o. in_front ps (option_and_then (λ q. option_map (λ qs. q ∷ qs) (each part_of segments)) o)) (sym e) ∙ in_front_more ps p (each part_of segments)

pub before_none : (ps : List Part) (segment : List ℕ) (segments : List (List ℕ)) → None ≡ part_of segment → in_front ps (each part_of (segment ∷ segments)) ≡ None
before_none ps segment segments e = ap (λ o. in_front ps (option_and_then (λ q. option_map (λ qs. q ∷ qs) (each part_of segments)) o)) (sym e)

pub ruleset parsing = (before_more, before_none, append-nil)

-- the segments of one part more
pub segments_more : (done : List Segment) (p : Part) (ps : List Part) → (done ++ segments_in (p ∷ [])) ++ segments_in ps ≡ done ++ segments_in (p ∷ ps)
segments_more done (Fixed text) ps = append_assoc done (Literal text ∷ []) (segments_in ps)
segments_more done (Bound hole) ps = go hole.greedy
  where
    go : (t : Bool) → (done ++ (if t then [] else (AnyText ∷ []))) ++ segments_in ps ≡ done ++ (if t then segments_in ps else (AnyText ∷ segments_in ps))
    go true = append_assoc done [] (segments_in ps)
    go false = append_assoc done (AnyText ∷ []) (segments_in ps)

pub ruleset segmenting = (segments_more, append-nil)

-- a template without `/` first is not routable
pub not_routable : (template : List ℕ) → starts_with nat_eq template (codes "/") ≡ false → routable_parts template ≡ None
unfolding routable_parts
not_routable template e = ap (λ t. if t then option_and_then (sound_parts (query_of template)) (path_parts template) else None) e

-- one with it has the sound parts of what stands behind
routed : (template path rest : List ℕ) → path ≡ before_first (λ b. b == 63) template → path ≡ 47 ∷ rest
    → routable_parts template ≡ option_and_then (sound_parts (query_of template)) (each part_of (slice_split (λ b. b == 47) rest))
unfolding routable_parts
routed template path rest e same =
    ap (λ t. if t then option_and_then (sound_parts (query_of template)) (path_parts template) else None) (is_path_of template path rest e same)
    ∙ ap (λ p. option_and_then (sound_parts (query_of template)) (each part_of (segments_of p))) (sym e ∙ same)

pub gives_parts : {A : Type 0} (view : A → List Part) (template path rest query : List ℕ) (result : Result A RouteError)
    → path ≡ before_first (λ b. b == 63) template → path ≡ 47 ∷ rest → query ≡ query_of template
    → Gives view (option_and_then (sound_parts query) (each part_of (slice_split (λ b. b == 47) rest))) result → Gives view (routable_parts template) result
gives_parts view template path rest query result e same is h =
    subst (λ (o : Option (List Part)). Gives view o result) (sym (routed template path rest e same))
    (subst (λ (q : List ℕ). Gives view (option_and_then (sound_parts q) (each part_of (slice_split (λ b. b == 47) rest))) result) is h)
