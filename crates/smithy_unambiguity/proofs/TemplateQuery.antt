-- The query of a filled template is the template's own.
use Rattle.smithy_unambiguity.proofs.Common.{◌≡◌, refl, sym, ◌∙◌, ap, subst, ℕ, arith, Bool, true, false, not, cond, ◌==◌, ◌&&◌, ◌||◌, List, [], ◌∷◌, ◌++◌, map, Ok, codes, ne_eqb, slice_split, after_first, join_with_byte, and_parts, not-true, append_assoc, append-nil, found, has_byte, Piece, Template, pieces, holes_of, query_pieces, hole_text, fill, fill_rest, pair_text, with_query, is_clear, ends_segment, begins_segment, are_whole_segments, is_greedy_last, before_query, Schema, texts}
use Rattle.smithy_unambiguity.proofs.Cuts.{HasNo, before, before-cut, before_none, before_first-before}
use Rattle.smithy_unambiguity.proofs.Reserved.{question, HasNo-hole_text}
use Rattle.smithy_unambiguity.proofs.Paths.{filled, between, HasNo-from_has_byte}
use Rattle.smithy_unambiguity.proofs.Queries.{after, after_first-after}
use Rattle.smithy_unambiguity.proofs.Labels.{filled_path}

has-behind : (xs ys : List ℕ) → HasNo 63 xs → has_byte 63 (xs ++ ys) ≡ has_byte 63 ys
has-behind [] ys none = refl
has-behind (x ∷ xs) ys none = ap (λ t. t || has_byte 63 (xs ++ ys)) (ne_eqb x 63 none.0) ∙ has-behind xs ys none.1

after-behind : (xs ys : List ℕ) → HasNo 63 xs → after (xs ++ ys) ≡ after ys
after-behind [] ys none = refl
after-behind (x ∷ xs) ys none = ap (λ t. cond t (xs ++ ys) (after (xs ++ ys))) (ne_eqb x 63 none.0) ∙ after-behind xs ys none.1

pub pieces_behind : (xs ys : List ℕ) → HasNo 63 xs → query_pieces (xs ++ ys) ≡ query_pieces ys
pieces_behind xs ys none =
    ap (λ t. cond t (slice_split (λ b. b == 38) (after_first (λ b. b == 63) (xs ++ ys))) []) (has-behind xs ys none)
    ∙ ap (λ r. cond (has_byte 63 ys) (slice_split (λ b. b == 38) r) []) (after_first-after (xs ++ ys) ∙ after-behind xs ys none ∙ sym (after_first-after ys))

-- those of the last literal
unfoldable pub own_pieces : List Piece → List (List ℕ)
own_pieces [] = []
own_pieces (p ∷ []) = query_pieces p.literal
own_pieces (p ∷ q ∷ ps) = own_pieces (q ∷ ps)

pub rest_pieces : (start : List ℕ) (ps : List Piece) (texts : List (List ℕ × List ℕ)) (path : List ℕ) → are_whole_segments start ps ≡ true → fill_rest (λ name. found name texts) ps ≡ Ok path → query_pieces path ≡ own_pieces ps
unfolding own_pieces
rest_pieces start [] texts path segments e = let same : [] ≡ path = cc e in ap query_pieces (sym same)
rest_pieces start (p ∷ []) texts path segments e =
    let f = filled texts p [] path e in
    let none : [] ≡ f.rest = cc (f.behind) in
    ap query_pieces f.is ∙ pieces_behind (hole_text p.hole f.text) (p.literal ++ f.rest) (HasNo-hole_text 63 question (λ h. absurd (omega arith)) p.hole f.text)
    ∙ ap (λ r. query_pieces (p.literal ++ r)) (sym none) ∙ ap query_pieces (append-nil p.literal)
rest_pieces start (p ∷ q ∷ ps) texts path segments e =
    let f = filled texts p (q ∷ ps) path e in
    let first = and_parts (ends_segment start && begins_segment p.literal) (are_whole_segments p.literal (q ∷ ps)) segments in
    let second = and_parts (ends_segment p.literal && begins_segment q.literal) (are_whole_segments q.literal ps) first.1 in
    let b = between p.literal (and_parts (ends_segment start) (begins_segment p.literal) first.0).1 (and_parts (ends_segment p.literal) (begins_segment q.literal) second.0).0 in
    let literal : HasNo 63 p.literal = subst (HasNo 63) (sym b.is) ((λ h. absurd (omega arith)), b.no_query) in
    ap query_pieces f.is ∙ pieces_behind (hole_text p.hole f.text) (p.literal ++ f.rest) (HasNo-hole_text 63 question (λ h. absurd (omega arith)) p.hole f.text)
    ∙ pieces_behind p.literal f.rest literal ∙ rest_pieces p.literal (q ∷ ps) texts f.rest first.1 f.behind

first_pieces : (t : Template) (texts others : List (List ℕ × List ℕ)) (path other : List ℕ) → are_whole_segments t.first t.rest ≡ true → fill t texts ≡ Ok path → fill t others ≡ Ok other → query_pieces path ≡ query_pieces other
first_pieces t texts others path other segments e e' =
    let f = filled_path t texts path e in
    let g = filled_path t others other e' in
    ap query_pieces f.is ∙ go t.rest segments f.fills g.fills ∙ ap query_pieces (sym g.is)
  where
    go : (ps : List Piece) {rest tail : List ℕ} → are_whole_segments t.first ps ≡ true → fill_rest (λ name. found name texts) ps ≡ Ok rest → fill_rest (λ name. found name others) ps ≡ Ok tail → query_pieces (t.first ++ rest) ≡ query_pieces (t.first ++ tail)
    go [] {rest} {tail} s a b = let same : rest ≡ tail = cc (a, b) in ap (λ r. query_pieces (t.first ++ r)) same
    go (p ∷ ps) {rest} {tail} s a b =
        let x = and_parts (ends_segment t.first && begins_segment p.literal) (are_whole_segments p.literal ps) s in
        let y = and_parts (ends_segment t.first) (begins_segment p.literal) x.0 in
        let z = and_parts _ (not (has_byte 63 t.first)) y.0 in
        let none = HasNo-from_has_byte 63 t.first (not-true (has_byte 63 t.first) z.1) in
        pieces_behind t.first rest none ∙ rest_pieces t.first (p ∷ ps) texts rest s a ∙ sym (rest_pieces t.first (p ∷ ps) others tail s b) ∙ sym (pieces_behind t.first tail none)

-- the pieces of the filled path are the template's own, whatever the labels
pub pieces_of_template : (schema : Schema) (template : List ℕ) (texts others : List (List ℕ × List ℕ)) (path other : List ℕ) → is_clear template schema ≡ true
    → fill (pieces template) texts ≡ Ok path → fill (pieces template) others ≡ Ok other → query_pieces path ≡ query_pieces other
unfolding is_clear
pieces_of_template schema template texts others path other clear e e' =
    let t = pieces template in
    let a = and_parts _ (is_greedy_last (holes_of t)) clear in
    let b = and_parts _ _ a.0 in
    let d = and_parts _ (are_whole_segments t.first t.rest) (and_parts _ _ b.0).0 in
    first_pieces t texts others path other d.1 e e'

before-has : (xs ys : List ℕ) → has_byte 63 xs ≡ true → before 63 (xs ++ ys) ≡ before 63 xs
before-has [] ys has = absurd (cc has)
before-has (x ∷ xs) ys has = go (x == 63) (before-has xs ys) has
  where
    go : (t : Bool) → (has_byte 63 xs ≡ true → before 63 (xs ++ ys) ≡ before 63 xs) → (t || has_byte 63 xs) ≡ true → cond t [] (x ∷ before 63 (xs ++ ys)) ≡ cond t [] (x ∷ before 63 xs)
    go true rest h = refl
    go false rest h = ap (λ r. x ∷ r) (rest h)

-- what is behind the path's `?` is no part of it
pub query_leaves_path : (path : List ℕ) (ps : List (List ℕ × List ℕ)) → before_query (with_query path ps) ≡ before_query path
query_leaves_path path [] = refl
query_leaves_path path (p ∷ ps) = before_first-before 63 (with_query path (p ∷ ps)) ∙ go (has_byte 63 path) refl ∙ sym (before_first-before 63 path)
  where
    joined : List ℕ
    joined = join_with_byte 38 (map pair_text (p ∷ ps))

    go : (t : Bool) → has_byte 63 path ≡ t → before 63 (path ++ cond t (codes "&") (codes "?") ++ joined) ≡ before 63 path
    go true e = ap (before 63) (append_assoc path (38 ∷ []) joined) ∙ before-has path (38 ∷ joined) e
    go false e =
        let none = HasNo-from_has_byte 63 path e in
        ap (before 63) (append_assoc path (63 ∷ []) joined) ∙ before-cut 63 path joined none ∙ sym (before_none 63 path none)
