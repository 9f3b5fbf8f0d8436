-- The pieces of a template whose holes are whole segments.
use Rattle.std.proofs.Common.{◌≡◌, ◌≢◌, refl, sym, ◌∙◌, ap, subst, ℕ, suc, ◌+◌, ◌-◌, arith, Bool, true, false, not, cond, ◌==◌, ◌||◌, List, [], ◌∷◌, ◌++◌, length, take, drop, Option, Some, None, option_map, option_and_then, codes, if◌then◌else◌, nat_eq, eq-eqb, ne_eqb, All}
use Rattle.std.specs.List.{AllByRecursion, slice_split, onto_first, before_first, after_first, position_or_len, ends_with}
use Rattle.std.specs.Cmp.Lexicographic.{same_text as same_from_test}
use Rattle.std.proofs.lemmas.Bool.{eqb-true}
use Rattle.std.proofs.lemmas.List.{append_assoc, append-nil, take-append-drop}
use Rattle.std.proofs.lemmas.List.Elements.{All-from_recursion}
use Rattle.std.proofs.lemmas.List.Splits.{slice_split_at}
use Rattle.smithy_types.specs.Texts.{has_byte}
use Rattle.smithy_types.specs.Results.{each}
use Rattle.smithy_schema.specs.Templates.{Hole, Template, hole_of, pieces, pieces_of_parts}
use Rattle.smithy_router.specs.Routes.{HasNo}
use Rattle.smithy_router.specs.Templates.{Part, Fixed, Bound, inside_braces, bound_part, part_of}
use Rattle.smithy_unambiguity.proofs.Paths.{HasNo-from_has_byte}
use Rattle.smithy_routed.proofs.Segments.{path_of}
use Rattle.smithy_router.proofs.Targets.{split_some}

-- a template behind this text
abbrev pub behind_text : List ℕ → Template → Template
behind_text text t = record { first = text ++ t.first; rest = t.rest }

-- The pieces of a text with one byte more in front.

before_more : (b : ℕ) (text : List ℕ) → (b == 123) ≡ false → before_first (λ x. x == 123) (b ∷ text) ≡ b ∷ before_first (λ x. x == 123) text
before_more b text e =
    let same : 1 + position_or_len (λ x. x == 123) text ≡ suc (position_or_len (λ x. x == 123) text) = omega arith in
    ap (λ t. take (cond (not t) (1 + position_or_len (λ x. x == 123) text) 0) (b ∷ text)) e ∙ ap (λ k. take k (b ∷ text)) same

after_more : (b : ℕ) (text : List ℕ) → (b == 123) ≡ false → after_first (λ x. x == 123) (b ∷ text) ≡ after_first (λ x. x == 123) text
after_more b text e =
    let same : 1 + position_or_len (λ x. x == 123) text + 1 ≡ suc (position_or_len (λ x. x == 123) text + 1) = omega arith in
    ap (λ t. drop (cond (not t) (1 + position_or_len (λ x. x == 123) text) 0 + 1) (b ∷ text)) e ∙ ap (λ k. drop k (b ∷ text)) same

-- a part with a brace in it and one without, before those behind
abbrev with_part : Bool → List ℕ → List ℕ → List ℕ → Template → Template
with_part has part before after later =
    if has then record { first = before; rest = record { hole = hole_of after; literal = later.first } ∷ later.rest }
    else record { first = part ++ codes "}" ++ later.first; rest = later.rest }

longer_part : (b : ℕ) (part : List ℕ) (next : List ℕ) (parts : List (List ℕ)) → (b == 123) ≡ false
    → pieces_of_parts ((b ∷ part) ∷ next ∷ parts) ≡ behind_text (b ∷ []) (pieces_of_parts (part ∷ next ∷ parts))
longer_part b part next parts e =
    let later = pieces_of_parts (next ∷ parts) in
    ap (λ t. with_part (t || has_byte 123 part) (b ∷ part) (before_first (λ x. x == 123) (b ∷ part)) (after_first (λ x. x == 123) (b ∷ part)) later) e
    ∙ ap (λ before. with_part (has_byte 123 part) (b ∷ part) before (after_first (λ x. x == 123) (b ∷ part)) later) (before_more b part e)
    ∙ ap (λ after. with_part (has_byte 123 part) (b ∷ part) (b ∷ before_first (λ x. x == 123) part) after later) (after_more b part e)
    ∙ go (has_byte 123 part) later
  where
    go : (t : Bool) (later : Template) → with_part t (b ∷ part) (b ∷ before_first (λ x. x == 123) part) (after_first (λ x. x == 123) part) later
        ≡ behind_text (b ∷ []) (with_part t part (before_first (λ x. x == 123) part) (after_first (λ x. x == 123) part) later)
    go true later = refl
    go false later = refl

by_parts : (b : ℕ) → (b == 123) ≡ false → (t : Bool) → (b == 125) ≡ t → (parts : List (List ℕ)) → parts ≢ []
    → pieces_of_parts (cond t ([] ∷ parts) (onto_first b parts)) ≡ behind_text (b ∷ []) (pieces_of_parts parts)
by_parts b e t is [] some = absurd (some refl)
by_parts b e true is (next ∷ parts) some =
    let later = pieces_of_parts (next ∷ parts) in
    ap (λ (c : ℕ). behind_text (c ∷ []) later) (sym (eqb-true b 125 is))
by_parts b e false is (part ∷ []) some = refl
by_parts b e false is (part ∷ next ∷ parts) some = longer_part b part next parts e

one_more : (b : ℕ) (text : List ℕ) → b ≢ 123 → pieces (b ∷ text) ≡ behind_text (b ∷ []) (pieces text)
unfolding pieces
one_more b text ne = by_parts b (ne_eqb b 123 ne) (b == 125) refl (slice_split (λ x. x == 125) text) (split_some 125 text)

-- those of a text behind one without a `{`
pieces_behind : (text rest : List ℕ) → HasNo 123 text → pieces (text ++ rest) ≡ behind_text text (pieces rest)
pieces_behind [] rest none = refl
pieces_behind (b ∷ text) rest none = one_more b (text ++ rest) none.0 ∙ ap (behind_text (b ∷ [])) (pieces_behind text rest none.1)

no_pieces : pieces [] ≡ record { first = []; rest = [] }
unfolding pieces
no_pieces = refl

-- a text without a `{` is one literal
literal_pieces : (text : List ℕ) → HasNo 123 text → pieces text ≡ record { first = text; rest = [] }
literal_pieces text none =
    ap pieces (sym (append-nil text)) ∙ pieces_behind text [] none ∙ ap (behind_text text) no_pieces ∙ ap (λ (t : List ℕ). record { first = t; rest = [] }) (append-nil text)

-- those of a text behind a hole
abbrev with_hole : List ℕ → Template → Template
with_hole name later = record { first = []; rest = record { hole = hole_of name; literal = later.first } ∷ later.rest }

by_hole : (name : List ℕ) (parts : List (List ℕ)) → parts ≢ [] → pieces_of_parts ((123 ∷ name) ∷ parts) ≡ with_hole name (pieces_of_parts parts)
by_hole name [] some = absurd (some refl)
by_hole name (next ∷ parts) some = refl

passes_none : (c : ℕ) (xs : List ℕ) → HasNo c xs → All (λ b. (b == c) ≡ false) xs
passes_none c xs none = All-from_recursion (λ b. (b == c) ≡ false) xs (go xs none)
  where
    go : (ys : List ℕ) → HasNo c ys → AllByRecursion (λ b. (b == c) ≡ false) ys
    go [] lacks = tt
    go (y ∷ ys) lacks = (ne_eqb y c lacks.0, go ys lacks.1)

hole_pieces : (name rest : List ℕ) → HasNo 125 name → pieces ((123 ∷ name) ++ 125 ∷ rest) ≡ with_hole name (pieces rest)
unfolding pieces
hole_pieces name rest none =
    ap pieces_of_parts (slice_split_at (λ b. b == 125) (123 ∷ name) 125 rest (passes_none 125 (123 ∷ name) ((λ h. absurd (omega arith)), none)) (eq-eqb 125 125 refl))
    ∙ by_hole name (slice_split (λ b. b == 125) rest) (split_some 125 rest)

-- The segments of a routable template.

-- the hole between braces at both ends
pub record IsHole (segment : List ℕ) (hole : Hole) : Type 0 where
  pub name : List ℕ
  pub text : segment ≡ (123 ∷ name) ++ 125 ∷ []
  pub no_close : HasNo 125 name
  pub is : hole ≡ hole_of name

abbrev pub IsPart : List ℕ → Part → Type 0
IsPart segment (Fixed text) = (segment ≡ text) × HasNo 123 text
IsPart segment (Bound hole) = IsHole segment hole

-- a text with the byte at its end
ends_so : (text : List ℕ) → ends_with nat_eq text (125 ∷ []) ≡ true → text ≡ take (length text - 1) text ++ 125 ∷ []
ends_so text e =
    sym (take-append-drop (length text - 1) text) ∙ ap (λ (t : List ℕ). take (length text - 1) text ++ t) (sym (same_from_test (125 ∷ []) (drop (length text - 1) text) (sym e)))

inside : (segment name : List ℕ) → inside_braces segment ≡ Some name → segment ≡ (123 ∷ name) ++ 125 ∷ []
inside [] name e = absurd (cc e)
inside (b ∷ text) name e = go (b == 123) (ends_with nat_eq text (125 ∷ [])) refl refl e
  where
    go : (s t : Bool) → (b == 123) ≡ s → ends_with nat_eq text (125 ∷ []) ≡ t → (if s then (if t then Some (take (length text - 1) text) else None) else None) ≡ Some name → b ∷ text ≡ (123 ∷ name) ++ 125 ∷ []
    go true true opens closes h =
        let same : take (length text - 1) text ≡ name = cc h in
        let is : text ≡ name ++ 125 ∷ [] = ends_so text closes ∙ ap (λ (t : List ℕ). t ++ 125 ∷ []) same in
        λ i. eqb-true b 123 opens i ∷ is i
    go true false opens closes h = absurd (cc h)
    go false t opens closes h = absurd (cc h)

part_is : (segment : List ℕ) (p : Part) → part_of segment ≡ Some p → IsPart segment p
part_is segment p e = go (has_byte 123 segment) refl (inside_braces segment) refl e
  where
    bound : (name : List ℕ) → inside_braces segment ≡ Some name → (t : Bool) → has_byte 125 name ≡ t → (q : Part) → (if t then None else Some (Bound (hole_of name))) ≡ Some q → IsPart segment q
    bound name is true has q h = absurd (cc h)
    bound name is false has q h =
        let same : Bound (hole_of name) ≡ q = cc h in
        subst (IsPart segment) same (record { name = name; text = inside segment name is; no_close = HasNo-from_has_byte 125 name has; is = refl })

    go : (s : Bool) → has_byte 123 segment ≡ s → (o : Option (List ℕ)) → inside_braces segment ≡ o → (if s then bound_part o else Some (Fixed segment)) ≡ Some p → IsPart segment p
    go true has None is h = absurd (cc h)
    go true has (Some name) is h = bound name is (has_byte 125 name) refl p h
    go false has o is h = let same : Fixed segment ≡ p = cc h in subst (IsPart segment) same (refl, HasNo-from_has_byte 123 segment has)

-- The template of parts and a query.
abbrev pub template_by : List Part → List ℕ → Template
template_by [] query = record { first = query; rest = [] }
template_by (Fixed text ∷ ps) query = behind_text (47 ∷ text) (template_by ps query)
template_by (Bound hole ∷ ps) query = record { first = 47 ∷ []; rest = record { hole = hole; literal = (template_by ps query).first } ∷ (template_by ps query).rest }

-- a part more
with_segment : (segment : List ℕ) (p : Part) (ps : List Part) (rest query : List ℕ) → IsPart segment p → pieces rest ≡ template_by ps query → pieces (47 ∷ (segment ++ rest)) ≡ template_by (p ∷ ps) query
with_segment segment (Fixed text) ps rest query is e =
    ap (λ (s : List ℕ). pieces (47 ∷ (s ++ rest))) is.0 ∙ pieces_behind (47 ∷ text) rest ((λ h. absurd (omega arith)), is.1) ∙ ap (behind_text (47 ∷ text)) e
with_segment segment (Bound hole) ps rest query is e =
    let shown : segment ++ rest ≡ (123 ∷ is.name) ++ 125 ∷ rest = ap (λ (s : List ℕ). s ++ rest) is.text ∙ append_assoc (123 ∷ is.name) (125 ∷ []) rest in
    ap (λ (s : List ℕ). pieces (47 ∷ s)) shown ∙ one_more 47 ((123 ∷ is.name) ++ 125 ∷ rest) (λ h. absurd (omega arith)) ∙ ap (behind_text (47 ∷ [])) (hole_pieces is.name rest is.no_close)
    ∙ ap (λ (t : Template). behind_text (47 ∷ []) (with_hole is.name t)) e ∙ ap (λ (h : Hole). template_by (Bound h ∷ ps) query) (sym is.is)

-- the pieces of the template with these segments
pub pieces_by_parts : (segments : List (List ℕ)) (ps : List Part) (query : List ℕ) → each part_of segments ≡ Some ps → HasNo 123 query → pieces (path_of segments ++ query) ≡ template_by ps query
pieces_by_parts [] ps query e none = let same : [] ≡ ps = cc e in literal_pieces query none ∙ ap (λ (xs : List Part). template_by xs query) same
pieces_by_parts (segment ∷ segments) ps query e none = go (part_of segment) refl (each part_of segments) refl e (λ qs f. pieces_by_parts segments qs query f none)
  where
    go : (o : Option Part) → part_of segment ≡ o → (r : Option (List Part)) → each part_of segments ≡ r → option_and_then (λ p. option_map (λ qs. p ∷ qs) r) o ≡ Some ps
        → ((qs : List Part) → each part_of segments ≡ Some qs → pieces (path_of segments ++ query) ≡ template_by qs query) → pieces (path_of (segment ∷ segments) ++ query) ≡ template_by ps query
    go None eo r er h again = absurd (cc h)
    go (Some p) eo None er h again = absurd (cc h)
    go (Some p) eo (Some qs) er h again =
        let same : p ∷ qs ≡ ps = cc h in
        ap (λ (t : List ℕ). pieces (47 ∷ t)) (append_assoc segment (path_of segments) query)
        ∙ with_segment segment p qs (path_of segments ++ query) query (part_is segment p eo) (again qs er)
        ∙ ap (λ (xs : List Part). template_by xs query) same
