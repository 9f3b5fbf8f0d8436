-- The route of a template is a route.
use Rattle.smithy_router.proofs.Common.{◌≡◌, ◌≢◌, refl, sym, ◌∙◌, subst, ℕ, suc, ◌+◌, arith, Bool, true, false, not, cond, ◌==◌, List, [], ◌∷◌, take, drop, Option, Some, None, option_map, option_and_then, ◌||◌, if◌then◌else◌, eq-eqb, nat_eq, codes, AllByRecursion, slice_split, onto_first, before_first, after_first, position_or_len, starts_with, has_byte, each, hole_of, is_question_mark, query_pieces, Hole as AnyText, segments_of, Route, IsRoute, IsSegment, IsPath, HasNo, Part, Fixed, Bound, bound_part, inside_braces, part_of, is_sound, sound_parts, routable_parts, segments_in, has_greedy, query_of, route_with, route_of}
use Rattle.smithy_router.proofs.Targets.{IsClean, split_some}

-- bytes that a test tells apart
other_byte : (b c : ℕ) → (b == c) ≡ false → b ≢ c
other_byte b c e h = let q : true ≡ false = sym (eq-eqb b c h) ∙ e in cc q

onto_all : (c b : ℕ) (parts : List (List ℕ)) → b ≢ c → AllByRecursion (HasNo c) parts → AllByRecursion (HasNo c) (onto_first b parts)
onto_all c b [] ne all = ((ne, tt), tt)
onto_all c b (p ∷ ps) ne all = ((ne, all.0), all.1)

-- the parts between a byte don't have it
split_clean : (c : ℕ) (text : List ℕ) → AllByRecursion (HasNo c) (slice_split (λ b. b == c) text)
split_clean c [] = (tt, tt)
split_clean c (b ∷ text) = go (b == c) refl (split_clean c text)
  where
    go : (t : Bool) → (b == c) ≡ t → AllByRecursion (HasNo c) (slice_split (λ b. b == c) text) → AllByRecursion (HasNo c) (cond t ([] ∷ slice_split (λ b. b == c) text) (onto_first b (slice_split (λ b. b == c) text)))
    go true e rest = (tt, rest)
    go false e rest = onto_all c b _ (other_byte b c e) rest

-- nor another byte that the text doesn't have
split_without : (c d : ℕ) (text : List ℕ) → HasNo d text → AllByRecursion (HasNo d) (slice_split (λ b. b == c) text)
split_without c d [] none = (tt, tt)
split_without c d (b ∷ text) none = go (b == c) (split_without c d text none.1)
  where
    go : (t : Bool) → AllByRecursion (HasNo d) (slice_split (λ b. b == c) text) → AllByRecursion (HasNo d) (cond t ([] ∷ slice_split (λ b. b == c) text) (onto_first b (slice_split (λ b. b == c) text)))
    go true rest = (tt, rest)
    go false rest = onto_all d b _ none.0 rest

before_clean : (c : ℕ) (text : List ℕ) → HasNo c (before_first (λ b. b == c) text)
before_clean c [] = tt
before_clean c (b ∷ text) = go (b == c) refl (before_clean c text)
  where
    go : (t : Bool) → (b == c) ≡ t → HasNo c (before_first (λ b. b == c) text) → HasNo c (take (cond (not t) (1 + position_or_len (λ b. b == c) text) 0) (b ∷ text))
    go true e rest = tt
    go false e rest =
        let same : 1 + position_or_len (λ b. b == c) text ≡ suc (position_or_len (λ b. b == c) text) = omega arith in
        subst (λ (k : ℕ). HasNo c (take k (b ∷ text))) (sym same) (other_byte b c e, rest)

drop_clean : (c : ℕ) (text : List ℕ) → HasNo c text → HasNo c (drop 1 text)
drop_clean c [] none = tt
drop_clean c (b ∷ text) none = none.1

clean_from : (segments : List (List ℕ)) → AllByRecursion (HasNo 47) segments → AllByRecursion (HasNo 63) segments → AllByRecursion IsClean segments
clean_from [] a b = tt
clean_from (s ∷ ss) a b = (record { slash = a.0; question = b.0 }, clean_from ss a.1 b.1)

segments_clean : (template : List ℕ) → AllByRecursion IsClean (segments_of (before_first is_question_mark template))
segments_clean template =
    let path = before_first (λ b. b == 63) template in
    clean_from _ (split_clean 47 (drop 1 path)) (split_without 47 63 (drop 1 path) (drop_clean 63 path (before_clean 63 template)))

pieces_clean : (template : List ℕ) → AllByRecursion (HasNo 38) (query_pieces template)
pieces_clean template = go (has_byte 63 template)
  where
    go : (t : Bool) → AllByRecursion (HasNo 38) (if t then slice_split (λ b. b == 38) (after_first is_question_mark template) else [])
    go true = split_clean 38 (after_first is_question_mark template)
    go false = tt

-- a literal part is its segment
abbrev IsPartOf : List ℕ → Part → Type 0
IsPartOf segment (Fixed text) = segment ≡ text
IsPartOf segment (Bound hole) = Unit {0}

bound_is : (segment : List ℕ) (o : Option (List ℕ)) (p : Part) → bound_part o ≡ Some p → IsPartOf segment p
bound_is segment None p e = absurd (cc e)
bound_is segment (Some name) p e = go (has_byte 125 name) p e
  where
    go : (t : Bool) (p : Part) → (if t then None else Some (Bound (hole_of name))) ≡ Some p → IsPartOf segment p
    go true p e = absurd (cc e)
    go false (Fixed text) e = absurd (cc e)
    go false (Bound hole) e = tt

part_is : (segment : List ℕ) (p : Part) → part_of segment ≡ Some p → IsPartOf segment p
part_is segment p e = go (has_byte 123 segment) p e
  where
    go : (t : Bool) (p : Part) → (if t then bound_part (inside_braces segment) else Some (Fixed segment)) ≡ Some p → IsPartOf segment p
    go true p e = bound_is segment (inside_braces segment) p e
    go false (Fixed text) e = cc e
    go false (Bound hole) e = tt

with_part : (segment : List ℕ) (p : Part) (ps : List Part) → IsClean segment → IsPartOf segment p → AllByRecursion IsSegment (segments_in ps) → AllByRecursion IsSegment (segments_in (p ∷ ps))
with_part segment (Fixed text) ps clean is rest = (subst (λ (t : List ℕ). HasNo 47 t × HasNo 63 t) is (clean.slash, clean.question), rest)
with_part segment (Bound hole) ps clean is rest = go hole.greedy
  where
    go : (t : Bool) → AllByRecursion IsSegment (if t then segments_in ps else (AnyText ∷ segments_in ps))
    go true = rest
    go false = (tt, rest)

parts_are : (segments : List (List ℕ)) (ps : List Part) → AllByRecursion IsClean segments → each part_of segments ≡ Some ps → AllByRecursion IsSegment (segments_in ps)
parts_are [] ps clean e = let none : [] ≡ ps = cc e in subst (λ (qs : List Part). AllByRecursion IsSegment (segments_in qs)) none tt
parts_are (segment ∷ segments) ps clean e = go (part_of segment) refl (each part_of segments) refl e (λ qs f. parts_are segments qs clean.1 f)
  where
    go : (o : Option Part) → part_of segment ≡ o → (r : Option (List Part)) → each part_of segments ≡ r → option_and_then (λ p. option_map (λ qs. p ∷ qs) r) o ≡ Some ps
        → ((qs : List Part) → each part_of segments ≡ Some qs → AllByRecursion IsSegment (segments_in qs)) → AllByRecursion IsSegment (segments_in ps)
    go None eo r er h again = absurd (cc h)
    go (Some p) eo None er h again = absurd (cc h)
    go (Some p) eo (Some qs) er h again =
        let is : p ∷ qs ≡ ps = cc h in
        subst (λ (xs : List Part). AllByRecursion IsSegment (segments_in xs)) is (with_part segment p qs clean.0 (part_is segment p eo) (again qs er))

-- a path with a part has a segment or a greedy end
some_part : (p : Part) (ps : List Part) → IsPath (has_greedy (p ∷ ps)) (segments_in (p ∷ ps))
some_part (Fixed text) ps e = absurd (cc e)
some_part (Bound hole) ps e = go hole.greedy e
  where
    go : (t : Bool) → (if t then segments_in ps else (AnyText ∷ segments_in ps)) ≡ [] → (t || has_greedy ps) ≡ true
    go true e = refl
    go false e = absurd (cc e)

parts_some : (segments : List (List ℕ)) (ps : List Part) → segments ≢ [] → each part_of segments ≡ Some ps → IsPath (has_greedy ps) (segments_in ps)
parts_some [] ps some e = absurd (some refl)
parts_some (segment ∷ segments) ps some e = go (part_of segment) (each part_of segments) e
  where
    go : (o : Option Part) (r : Option (List Part)) → option_and_then (λ p. option_map (λ qs. p ∷ qs) r) o ≡ Some ps → IsPath (has_greedy ps) (segments_in ps)
    go None r h = absurd (cc h)
    go (Some p) None h = absurd (cc h)
    go (Some p) (Some qs) h = let is : p ∷ qs ≡ ps = cc h in subst (λ (xs : List Part). IsPath (has_greedy xs) (segments_in xs)) is (some_part p qs)

sound_is : (query : List ℕ) (o : Option (List Part)) (ps : List Part) → option_and_then (sound_parts query) o ≡ Some ps → o ≡ Some ps
sound_is query None ps e = absurd (cc e)
sound_is query (Some qs) ps e = go (is_sound qs query) e
  where
    go : (t : Bool) → (if t then Some qs else None) ≡ Some ps → Some qs ≡ Some ps
    go true e = e
    go false e = absurd (cc e)

-- the parts of a routable template are those of its segments
parts_is : (template : List ℕ) (ps : List Part) → routable_parts template ≡ Some ps → each part_of (segments_of (before_first is_question_mark template)) ≡ Some ps
unfolding routable_parts
parts_is template ps e = go (starts_with nat_eq template (codes "/")) e
  where
    go : (t : Bool) → (if t then option_and_then (sound_parts (query_of template)) (each part_of (segments_of (before_first is_question_mark template))) else None) ≡ Some ps
        → each part_of (segments_of (before_first is_question_mark template)) ≡ Some ps
    go true e = sound_is (query_of template) (each part_of (segments_of (before_first is_question_mark template))) ps e
    go false e = absurd (cc e)

-- the route that its parts make
pub route_of_parts : (method template : List ℕ) (ps : List Part) → routable_parts template ≡ Some ps → IsRoute (route_with method (query_pieces template) ps)
route_of_parts method template ps e =
    let parts = parts_is template ps e in
    record {
      literals = parts_are _ ps (segments_clean template) parts;
      path = parts_some _ ps (split_some 47 (drop 1 (before_first is_question_mark template))) parts;
      pieces = pieces_clean template;
    }

pub route_is : (method template : List ℕ) (r : Route) → route_of method template ≡ Some r → IsRoute r
unfolding route_of
route_is method template r e = go (routable_parts template) refl e
  where
    go : (o : Option (List Part)) → routable_parts template ≡ o → option_map (route_with method (query_pieces template)) o ≡ Some r → IsRoute r
    go None eo h = absurd (cc h)
    go (Some ps) eo h = let is : route_with method (query_pieces template) ps ≡ r = cc h in subst IsRoute is (route_of_parts method template ps eo)
