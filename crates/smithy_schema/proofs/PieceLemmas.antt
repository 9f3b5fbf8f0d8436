-- A template cut at its first hole.
use Rattle.std.proofs.Common.{◌≡◌, refl, ap, ◌∙◌, ℕ, ◌+◌, Bool, true, false, not, cond, ◌||◌, ◌==◌, List, [], ◌∷◌, ◌++◌, length, codes, if◌then◌else◌, arith, count_by, suc, take, drop}
use Rattle.std.proofs.lemmas.Bool.{eqb-true}
use Rattle.std.proofs.lemmas.List.{append-nil}
use Rattle.std.specs.List.{slice_split, before_first, after_first, onto_first, position_or_len}
use Rattle.smithy_types.specs.Texts.{has_byte}
use Rattle.smithy_schema.specs.Templates.{Template, hole_of, pieces_of_parts}
use Rattle.smithy_schema.specs.Templates.{pieces}
use Rattle.smithy_schema.specs.views.CutHoles.{behind_hole, literal_alone, is_close, is_open}
use Rattle.std.proofs.lemmas.List.Splits.{length-slice_split}

-- a byte before the first literal
abbrev pub behind_byte : ℕ → Template → Template
behind_byte b t = record { first = b ∷ t.first; rest = t.rest }

-- a text before the first literal
abbrev pub behind_text : List ℕ → Template → Template
behind_text [] t = t
behind_text (b ∷ text) t = behind_byte b (behind_text text t)

-- there is always a part
some_part : (text : List ℕ) → (part : List ℕ) × (parts : List (List ℕ)) × (slice_split is_close text ≡ part ∷ parts)
some_part text = go (slice_split is_close text) refl
  where
    go : (ps : List (List ℕ)) → slice_split is_close text ≡ ps → (part : List ℕ) × (parts : List (List ℕ)) × (ps ≡ part ∷ parts)
    go [] e = absurd (let n : length (slice_split is_close text) ≡ count_by is_close text + 1 = length-slice_split is_close text in let z : length (slice_split is_close text) ≡ 0 = ap length e in omega arith)
    go (p ∷ ps) e = (p, ps, refl)

take_next : (k b : ℕ) (xs : List ℕ) → take (1 + k) (b ∷ xs) ≡ b ∷ take k xs
take_next k b xs = let e : 1 + k ≡ suc k = omega arith in rw e refl

drop_next : (k b : ℕ) (xs : List ℕ) → drop (1 + k + 1) (b ∷ xs) ≡ drop (k + 1) xs
drop_next k b xs = let e : 1 + k + 1 ≡ suc (k + 1) = omega arith in rw e refl

-- a byte that begins no hole
of_parts-other : (b : ℕ) (part : List ℕ) (parts : List (List ℕ)) → (b == 123) ≡ false → pieces_of_parts ((b ∷ part) ∷ parts) ≡ behind_byte b (pieces_of_parts (part ∷ parts))
of_parts-other b part [] e = refl
of_parts-other b part (next ∷ parts) e = rw (e, take_next (position_or_len is_open part) b part, drop_next (position_or_len is_open part) b part) (go (has_byte 123 part))
  where
    later : Template
    later = pieces_of_parts (next ∷ parts)

    with_hole : Template
    with_hole = record { first = before_first is_open part; rest = record { hole = hole_of (after_first is_open part); literal = later.first } ∷ later.rest }

    without : Template
    without = record { first = part ++ codes "}" ++ later.first; rest = later.rest }

    go : (c : Bool)
        → (if c then behind_byte b with_hole else behind_byte b without) ≡ behind_byte b (if c then with_hole else without)
    go true = refl
    go false = refl

pieces-other : (b : ℕ) (text : List ℕ) → (b == 123) ≡ false → pieces (b ∷ text) ≡ behind_byte b (pieces text)
unfolding pieces
pieces-other b text e = let next = some_part text in rw next.2 (go (b == 125) refl next.0 next.1)
  where
    go : (c : Bool) → (b == 125) ≡ c → (part : List ℕ) (parts : List (List ℕ))
        → pieces_of_parts (cond c ([] ∷ part ∷ parts) (onto_first b (part ∷ parts))) ≡ behind_byte b (pieces_of_parts (part ∷ parts))
    go true h part parts = rw (eqb-true b 125 h) refl
    go false h part parts = of_parts-other b part parts e

-- a `{` that a `}` ends
pieces-hole : (behind hole next : List ℕ) → slice_split is_close behind ≡ hole ∷ slice_split is_close next
    → pieces (123 ∷ behind) ≡ behind_hole [] (hole_of hole) (pieces next)
unfolding pieces
pieces-hole behind hole next e = let after = some_part next in rw (e, after.2) refl

-- a `{` that nothing ends
pieces-unclosed : (behind : List ℕ) → slice_split is_close behind ≡ behind ∷ [] → pieces (123 ∷ behind) ≡ literal_alone (123 ∷ behind)
unfolding pieces
pieces-unclosed behind e = rw e refl

pieces-at_open : (text : List ℕ) → has_byte 123 text ≡ true → pieces text ≡ behind_text (before_first is_open text) (pieces (123 ∷ after_first is_open text))
pieces-at_open [] e = absurd (cc e)
pieces-at_open (b ∷ text) e = go (is_open b) refl e (λ h. pieces-at_open text h)
  where
    go : (c : Bool) → is_open b ≡ c → (c || has_byte 123 text) ≡ true
        → (has_byte 123 text ≡ true → pieces text ≡ behind_text (before_first is_open text) (pieces (123 ∷ after_first is_open text)))
        → pieces (b ∷ text)
        ≡ behind_text (take (cond (not c) (1 + position_or_len is_open text) 0) (b ∷ text)) (pieces (123 ∷ drop (cond (not c) (1 + position_or_len is_open text) 0 + 1) (b ∷ text)))
    go true h given rest = rw (eqb-true b 123 h) refl
    go false h given rest =
        rw (take_next (position_or_len is_open text) b text, drop_next (position_or_len is_open text) b text) (pieces-other b text h ∙ ap (behind_byte b) (rest given))

behind_text-is : (text : List ℕ) (t : Template) → behind_text text t ≡ record { first = text ++ t.first; rest = t.rest }
behind_text-is [] t = refl
behind_text-is (b ∷ text) t = ap (behind_byte b) (behind_text-is text t)

pub cut-hole : (text hole next : List ℕ) → has_byte 123 text ≡ true → slice_split is_close (after_first is_open text) ≡ hole ∷ slice_split is_close next
    → pieces text ≡ behind_hole (before_first is_open text) (hole_of hole) (pieces next)
cut-hole text hole next given e =
    pieces-at_open text given ∙ behind_text-is (before_first is_open text) _ ∙ rw (pieces-hole (after_first is_open text) hole next e, append-nil (before_first is_open text)) refl

pub cut-none : (text : List ℕ) → has_byte 123 text ≡ false → pieces text ≡ literal_alone text
unfolding pieces
cut-none [] e = refl
cut-none (b ∷ text) e =
    let parts = neither (is_open b) (has_byte 123 text) e in
    pieces-other b text parts.0 ∙ ap (behind_byte b) (cut-none text parts.1)
  where
    neither : (a b : Bool) → (a || b) ≡ false → (a ≡ false) × (b ≡ false)
    neither true b e = absurd (cc e)
    neither false b e = (refl, e)

pub cut-unclosed : (text : List ℕ) → has_byte 123 text ≡ true → slice_split is_close (after_first is_open text) ≡ after_first is_open text ∷ [] → pieces text ≡ literal_alone text
cut-unclosed text given e =
    pieces-at_open text given ∙ behind_text-is (before_first is_open text) _ ∙ rw (pieces-unclosed (after_first is_open text) e) (ap literal_alone (whole text given))
  where
    whole : (text : List ℕ) → has_byte 123 text ≡ true → before_first is_open text ++ 123 ∷ after_first is_open text ≡ text
    whole [] h = absurd (cc h)
    whole (b ∷ text) h = go (is_open b) refl h (λ h. whole text h)
      where
        go : (c : Bool) → is_open b ≡ c → (c || has_byte 123 text) ≡ true → (has_byte 123 text ≡ true → before_first is_open text ++ 123 ∷ after_first is_open text ≡ text)
            → take (cond (not c) (1 + position_or_len is_open text) 0) (b ∷ text) ++ 123 ∷ drop (cond (not c) (1 + position_or_len is_open text) 0 + 1) (b ∷ text) ≡ b ∷ text
        go true h given rest = rw (eqb-true b 123 h) refl
        go false h given rest =
            rw (take_next (position_or_len is_open text) b text, drop_next (position_or_len is_open text) b text) (ap (λ (t : List ℕ). b ∷ t) (rest given))

pub ruleset cutting = (cut-hole, cut-none, cut-unclosed)
