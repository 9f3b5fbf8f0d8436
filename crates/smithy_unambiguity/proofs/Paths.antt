-- A filled path gives the texts of its holes.
use Rattle.smithy_unambiguity.proofs.Common.{◌≡◌, refl, sym, ◌∙◌, ap, subst, ℕ, arith, Bool, true, false, not, cond, ◌==◌, ◌&&◌, ◌||◌, List, [], ◌∷◌, ◌++◌, length, map, Option, Some, None, Result, Ok, Err, codes, nat_eq, eq-eqb, ne_eqb, find, option_map, AllByRecursion, starts_with, ends_with, eqb-true, and_parts, not-true, append_assoc, append_cancel_left, append_cancel_right, found, has_byte, same_text, then_try, then_give, Hole, Piece, escape, AreBytes, hole_text, filled_hole, fill_rest, keep_slashes, ends_segment, begins_segment, are_whole_segments, is_greedy_last, escape-injective, or_parts}
use Rattle.smithy_unambiguity.proofs.Cuts.{HasNo, before, cut}
use Rattle.smithy_unambiguity.proofs.Holes.{hole_text-injective}
use Rattle.smithy_unambiguity.proofs.Reserved.{slash, question, HasNo-escape, HasNo-hole_text}

-- the texts are bytes
abbrev pub HaveBytes : List (List ℕ × List ℕ) → Type 0
HaveBytes ps = AllByRecursion (λ p. AreBytes p.1) ps

-- the first hole of a filled template
pub record IsFilled (labels : List (List ℕ × List ℕ)) (p : Piece) (ps : List Piece) (path : List ℕ) : Type 0 where
  pub text : List ℕ
  pub rest : List ℕ
  pub label : found p.hole.name labels ≡ Some text
  pub behind : fill_rest (λ name. found name labels) ps ≡ Ok rest
  pub is : path ≡ hole_text p.hole text ++ (p.literal ++ rest)

pub filled : (labels : List (List ℕ × List ℕ)) (p : Piece) (ps : List Piece) (path : List ℕ) → fill_rest (λ name. found name labels) (p ∷ ps) ≡ Ok path → IsFilled labels p ps path
filled labels p ps path e = go (found p.hole.name labels) (fill_rest (λ name. found name labels) ps) refl refl e
  where
    go : (o : Option (List ℕ)) (r : Result (List ℕ) (List ℕ)) → found p.hole.name labels ≡ o → fill_rest (λ name. found name labels) ps ≡ r
        → (then_try (filled_hole p.hole o) λ text. then_give r λ rest. text ++ p.literal ++ rest) ≡ Ok path → IsFilled labels p ps path
    go None r eo er h = absurd (cc h)
    go (Some []) r eo er h = absurd (cc h)
    go (Some (b ∷ t)) (Err x) eo er h = absurd (cc h)
    go (Some (b ∷ t)) (Ok rest) eo er h =
        let same : hole_text p.hole (b ∷ t) ++ p.literal ++ rest ≡ path = cc h in
        record { text = b ∷ t; rest = rest; label = eo; behind = er; is = sym same ∙ append_assoc (hole_text p.hole (b ∷ t)) p.literal rest }

-- the text of a label is bytes
AreBytes-found : (name : List ℕ) (labels : List (List ℕ × List ℕ)) (text : List ℕ) → HaveBytes labels → found name labels ≡ Some text → AreBytes text
AreBytes-found name [] text bytes e = absurd (cc e)
AreBytes-found name (l ∷ ls) text bytes e = go (same_text l.0 name) refl (AreBytes-found name ls text bytes.1) e
  where
    go : (t : Bool) → same_text l.0 name ≡ t → (found name ls ≡ Some text → AreBytes text) → option_map (λ p. p.1) (cond t (Some l) (find (λ p. same_text p.0 name) ls)) ≡ Some text → AreBytes text
    go true u rest h = let same : l.1 ≡ text = cc h in subst AreBytes same bytes.0
    go false u rest h = rest h

-- what is before the `?` behind a text without one
pub before-behind : (xs rest : List ℕ) → HasNo 63 xs → before 63 (xs ++ rest) ≡ xs ++ before 63 rest
before-behind [] rest none = refl
before-behind (b ∷ xs) rest none = ap (λ t. cond t [] (b ∷ before 63 (xs ++ rest))) (ne_eqb b 63 none.0) ∙ ap (λ t. b ∷ t) (before-behind xs rest none.1)

-- a literal between two holes begins with `/` and has no `?`
pub record IsBetween (literal : List ℕ) : Type 0 where
  pub later : List ℕ
  pub is : literal ≡ 47 ∷ later
  pub no_query : HasNo 63 later

pub HasNo-from_has_byte : (c : ℕ) (text : List ℕ) → has_byte c text ≡ false → HasNo c text
HasNo-from_has_byte c [] e = tt
HasNo-from_has_byte c (b ∷ text) e =
    let parts = or_parts (b == c) (has_byte c text) e in
    ((λ same. let q : true ≡ false = sym (eq-eqb b c same) ∙ parts.0 in cc q), HasNo-from_has_byte c text parts.1)

pub between : (literal : List ℕ) → begins_segment literal ≡ true → ends_segment literal ≡ true → IsBetween literal
between [] begins ends = absurd (cc ends)
between (b ∷ later) begins ends =
    let parts = and_parts (ends_with nat_eq (b ∷ later) (codes "/")) (not (has_byte 63 (b ∷ later))) ends in
    let no_query = HasNo-from_has_byte 63 (b ∷ later) (not-true (has_byte 63 (b ∷ later)) parts.1) in
    let empty : (length (b ∷ later) == 0) ≡ false = ne_eqb (length (b ∷ later)) 0 (λ h. omega arith) in
    go (47 == b) (63 == b) refl refl no_query (ap (λ t. t || starts_with nat_eq (b ∷ later) (codes "/") || starts_with nat_eq (b ∷ later) (codes "?")) (sym empty) ∙ begins)
  where
    go : (s q : Bool) → (47 == b) ≡ s → (63 == b) ≡ q → HasNo 63 (b ∷ later) → (false || (s && true) || (q && true)) ≡ true → IsBetween (b ∷ later)
    go true q es eq none h = record { later = later; is = λ i. sym (eqb-true 47 b es) i ∷ later; no_query = none.1 }
    go false true es eq none h = absurd (none.0 (sym (eqb-true 63 b eq)))
    go false false es eq none h = absurd (cc h)

-- a hole before another is not greedy
pub plain_hole : (hole : Hole) {last : Bool} → (not hole.greedy || last) ≡ true → last ≡ false → hole.greedy ≡ false
plain_hole hole e f = go hole.greedy (sym (ap (λ t. not hole.greedy || t) f) ∙ e)
  where
    go : (t : Bool) → (not t || false) ≡ true → t ≡ false
    go true h = absurd (cc h)
    go false h = refl

-- the path up to the `?` behind a hole that is not greedy and the literal between it and the next
pub spelled : (hole : Hole) (text literal rest : List ℕ) (b : IsBetween literal) → hole.greedy ≡ false
    → before 63 (hole_text hole text ++ (literal ++ rest)) ≡ escape text ++ 47 ∷ (b.later ++ before 63 rest)
spelled hole text literal rest b plain =
    let one = ap (λ g. before 63 (cond g (keep_slashes text) (escape text) ++ (literal ++ rest))) plain in
    let two = before-behind (escape text) (literal ++ rest) (HasNo-escape 63 question text) in
    let three = ap (λ l. before 63 (l ++ rest)) b.is in
    let four = ap (λ r. 47 ∷ r) (before-behind b.later rest b.no_query) in
    one ∙ two ∙ ap (λ r. escape text ++ r) (three ∙ four)

pub holes_told : (start : List ℕ) (ps : List Piece) (texts others : List (List ℕ × List ℕ)) (path other : List ℕ) → HaveBytes texts → HaveBytes others
    → are_whole_segments start ps ≡ true → is_greedy_last (map (λ p. p.hole) ps) ≡ true
    → fill_rest (λ name. found name texts) ps ≡ Ok path → fill_rest (λ name. found name others) ps ≡ Ok other → before 63 path ≡ before 63 other
    → AllByRecursion (λ p. found p.hole.name texts ≡ found p.hole.name others) ps
holes_told start [] texts others path other bytes_t bytes_o segments greedy fills fills' e = tt
holes_told start (p ∷ []) texts others path other bytes_t bytes_o segments greedy fills fills' e =
    let f = filled texts p [] path fills in
    let g = filled others p [] other fills' in
    let nothing : f.rest ≡ g.rest = cc (f.behind, g.behind) in
    let left = ap (before 63) f.is ∙ before-behind (hole_text p.hole f.text) (p.literal ++ f.rest) (HasNo-hole_text 63 question (λ h. absurd (omega arith)) p.hole f.text) in
    let right = ap (before 63) g.is ∙ before-behind (hole_text p.hole g.text) (p.literal ++ g.rest) (HasNo-hole_text 63 question (λ h. absurd (omega arith)) p.hole g.text) in
    let tails : before 63 (p.literal ++ g.rest) ≡ before 63 (p.literal ++ f.rest) = ap (λ r. before 63 (p.literal ++ r)) (sym nothing) in
    let same = append_cancel_right (hole_text p.hole f.text) (hole_text p.hole g.text) (before 63 (p.literal ++ f.rest)) (sym left ∙ e ∙ right ∙ ap (λ r. hole_text p.hole g.text ++ r) tails) in
    let text = hole_text-injective p.hole f.text g.text (AreBytes-found p.hole.name texts f.text bytes_t f.label) (AreBytes-found p.hole.name others g.text bytes_o g.label) same in
    (f.label ∙ ap Some text ∙ sym g.label, tt)
holes_told start (p ∷ q ∷ ps) texts others path other bytes_t bytes_o segments greedy fills fills' e =
    let f = filled texts p (q ∷ ps) path fills in
    let g = filled others p (q ∷ ps) other fills' in
    let first = and_parts (ends_segment start && begins_segment p.literal) (are_whole_segments p.literal (q ∷ ps)) segments in
    let second = and_parts (ends_segment p.literal && begins_segment q.literal) (are_whole_segments q.literal ps) first.1 in
    let b = between p.literal (and_parts _ _ first.0).1 (and_parts _ _ second.0).0 in
    let lazy = and_parts (not p.hole.greedy || (length (map (λ x. x.hole) (q ∷ ps)) == 0)) (is_greedy_last (map (λ x. x.hole) (q ∷ ps))) greedy in
    let plain = plain_hole p.hole lazy.0 (ne_eqb (length (map (λ x. x.hole) (q ∷ ps))) 0 (λ h. omega arith)) in
    let left = spelled p.hole f.text p.literal f.rest b plain in
    let right = spelled p.hole g.text p.literal g.rest b plain in
    let parts = cut 47 (escape f.text) (escape g.text) _ _ (HasNo-escape 47 slash f.text) (HasNo-escape 47 slash g.text) (sym left ∙ ap (before 63) (sym f.is) ∙ e ∙ ap (before 63) g.is ∙ right) in
    let text = escape-injective f.text g.text (AreBytes-found p.hole.name texts f.text bytes_t f.label) (AreBytes-found p.hole.name others g.text bytes_o g.label) parts.0 in
    let rests = append_cancel_left b.later (before 63 f.rest) (before 63 g.rest) parts.1 in
    (f.label ∙ ap Some text ∙ sym g.label, holes_told p.literal (q ∷ ps) texts others f.rest g.rest bytes_t bytes_o first.1 lazy.1 f.behind g.behind rests)
