-- Texts that stand in one buffer, as another is added to it.
use Rattle.smithy_document.proofs.Common.{◌≡◌, ℕ, zero, suc, ◌<◌, ◌≤◌, ◌-◌, List, [], ◌∷◌, ◌++◌, length, drop, get_or, slice_range, refl, ap₂, ◌∙◌, arith, take_all, take-append-le, drop-append-le, map-append, length-drop, length-append, IsCharBoundary-start, IsCharBoundary-end, IsCharBoundary-at_seam}
use Rattle.std.specs.Str.{IsUtf8, IsCharBoundary}
use Rattle.std.proofs.Math.Seq.{drop-append_seam}
use Rattle.smithy_document.specs.views.TextCuts.{Cut, pieces, AreCuts}

boundary_kept : (bs xs : List ℕ) (i : ℕ) → IsUtf8 xs → IsCharBoundary bs i → IsCharBoundary (bs ++ xs) i
boundary_kept [] xs zero utf8 h = IsCharBoundary-start xs utf8
boundary_kept [] xs (suc i) utf8 h = let past : suc i ≤ 0 = h.0 in absurd (omega (arith, past))
boundary_kept (b ∷ bs) xs zero utf8 h = (omega arith, λ within. h.1 (omega arith))
boundary_kept (b ∷ bs) xs (suc i) utf8 h =
    let least : suc i ≤ suc (length bs) = h.0 in
    let inside : IsCharBoundary (bs ++ xs) i = boundary_kept bs xs i utf8 (omega (arith, least), λ within. h.1 (omega (arith, within))) in
    let at_most : i ≤ length (bs ++ xs) = inside.0 in
    (omega (arith, at_most), λ within. inside.1 (omega (arith, within)))

cuts_kept : (bs xs : List ℕ) (cuts : List Cut) → IsUtf8 xs → AreCuts bs cuts → AreCuts (bs ++ xs) cuts
cuts_kept bs xs [] utf8 h = tt
cuts_kept bs xs (c ∷ cuts) utf8 h = (h.0, boundary_kept bs xs c.0 utf8 h.1, boundary_kept bs xs c.1 utf8 h.2, cuts_kept bs xs cuts utf8 h.3)

pub piece_kept : (bs xs : List ℕ) (c : Cut) → c.0 ≤ c.1 → c.1 ≤ length bs → slice_range (bs ++ xs) c.0 c.1 ≡ slice_range bs c.0 c.1
piece_kept bs xs c ascends within = rw (drop-append-le c.0 bs xs (omega arith)) (take-append-le (c.1 - c.0) (drop c.0 bs) xs (rw length-drop (omega (arith, ascends, within))))

pieces_kept : (bs xs : List ℕ) (cuts : List Cut) → AreCuts bs cuts → pieces (bs ++ xs) cuts ≡ pieces bs cuts
pieces_kept bs xs [] h = refl
pieces_kept bs xs (c ∷ cuts) h = ap₂ (λ p ps. p ∷ ps) (piece_kept bs xs c h.0 h.2.0) (pieces_kept bs xs cuts h.3)

pub piece_added : (bs xs : List ℕ) → slice_range (bs ++ xs) (length bs) (length (bs ++ xs)) ≡ xs
piece_added bs xs = rw drop-append_seam (take_all (length (bs ++ xs) - length bs) xs (rw length-append (omega arith)))

pub pieces_more : (bs xs : List ℕ) (cuts : List Cut) → AreCuts bs cuts → pieces (bs ++ xs) (cuts ++ (length bs, length (bs ++ xs)) ∷ []) ≡ pieces bs cuts ++ xs ∷ []
pieces_more bs xs cuts h = map-append _ cuts _ ∙ ap₂ (λ ps p. ps ++ p ∷ []) (pieces_kept bs xs cuts h) (piece_added bs xs)

cuts_joined : (bs : List ℕ) (cuts more : List Cut) → AreCuts bs cuts → AreCuts bs more → AreCuts bs (cuts ++ more)
cuts_joined bs [] more h k = k
cuts_joined bs (c ∷ cuts) more h k = (h.0, h.1, h.2, cuts_joined bs cuts more h.3 k)

pub cuts_more : (bs xs : List ℕ) (cuts : List Cut) → IsUtf8 xs → AreCuts bs cuts → AreCuts (bs ++ xs) (cuts ++ (length bs, length (bs ++ xs)) ∷ [])
cuts_more bs xs cuts utf8 h = cuts_joined (bs ++ xs) cuts _ (cuts_kept bs xs cuts utf8 h) (rw length-append (omega arith), IsCharBoundary-at_seam (bs ++ xs) bs xs refl utf8, IsCharBoundary-end (bs ++ xs), tt)

-- one of them may be cut
abbrev pub IsCut : List ℕ → Cut → Type 0
IsCut bytes c = (c.0 ≤ c.1) × IsCharBoundary bytes c.0 × IsCharBoundary bytes c.1

pub cut_at : (bs : List ℕ) (cuts : List Cut) (i : ℕ) (c : Cut) → AreCuts bs cuts → i < length cuts → c ≡ get_or cuts i c → IsCut bs c
cut_at bs [] i c h within is = absurd (omega (arith, within))
cut_at bs (d ∷ cuts) zero c h within is = rw is (h.0, h.1, h.2)
cut_at bs (d ∷ cuts) (suc i) c h within is = cut_at bs cuts i c h.3 (omega (arith, within)) is
