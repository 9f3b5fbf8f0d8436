-- A text cut at its first brace, and the name of a hole that is greedy.
use Rattle.std.proofs.Common.{◌≡◌, ◌≢◌, sym, ap, ◌∙◌, refl, ℕ, ◌+◌, ◌-◌, ◌<◌, suc, arith, Bool, true, false, cond, not, ◌||◌, List, [], ◌∷◌, ◌++◌, length, take, drop, codes, nat_eq, lit<, if◌then◌else◌, Option, Some, None, MatchOption, length-drop}
use Rattle.std.specs.Borrow.{Bor}
use Rattle.std.specs.Cmp.Lexicographic.{same_text as same_from_test}
use Rattle.std.specs.List.{slice_split, before_first, after_first, onto_first, position_or_len, ends_with}
use Rattle.std.proofs.Math.Seq.{drop-append_seam, take-append_seam}
use Rattle.std.proofs.lemmas.List.{length-append, take-append-drop}
use Rattle.std.proofs.lemmas.List.Splits.{slice_split_first}
use Rattle.std.proofs.lemmas.Str.Pattern.{IsSplitOnceResult, split_once_first}
use Rattle.smithy_types.specs.Texts.{has_byte}
use Rattle.smithy_schema.specs.Templates.{Hole, hole_of}
use Rattle.smithy_schema.specs.views.CutHoles.{CutsAtClose, CutsAtOpen, is_close, is_open}

pub split_none : (xs : List ℕ) → position_or_len is_close xs ≡ length xs → slice_split is_close xs ≡ xs ∷ []
split_none [] e = refl
split_none (x ∷ xs) e = go (is_close x) e (λ e. split_none xs e)
  where
    go : (b : Bool) → cond (not b) (1 + position_or_len is_close xs) 0 ≡ suc (length xs) → (position_or_len is_close xs ≡ length xs → slice_split is_close xs ≡ xs ∷ [])
        → cond b ([] ∷ slice_split is_close xs) (onto_first x (slice_split is_close xs)) ≡ (x ∷ xs) ∷ []
    go true e rest = absurd (omega (arith, e))
    go false e rest = rw (rest (omega (arith, e))) refl

pub cuts_at_close : (bs : List ℕ) (r : Option (Bor (List ℕ) × Bor (List ℕ))) → IsSplitOnceResult 125 bs r → CutsAtClose bs r
cuts_at_close bs r h = go r (split_once_first 125 bs r h (lit< tt))
  where
    go : (r : Option (Bor (List ℕ) × Bor (List ℕ)))
        → MatchOption r (position_or_len is_close bs ≡ length bs) (λ x. (position_or_len is_close bs < length bs) × (x.0.now ≡ before_first is_close bs) × (x.1.now ≡ after_first is_close bs)) → CutsAtClose bs r
    go None e = split_none bs e
    go (Some x) (l, before, after) =
        (rw (before, after) (slice_split_first is_close bs 0 l), (let n : length (drop (position_or_len is_close bs + 1) bs) ≡ length bs - (position_or_len is_close bs + 1) = length-drop _ _ in rw after (omega (arith, n, l))))

pub has_none : (xs : List ℕ) → position_or_len is_open xs ≡ length xs → has_byte 123 xs ≡ false
has_none [] e = refl
has_none (x ∷ xs) e = go (is_open x) e (λ e. has_none xs e)
  where
    go : (b : Bool) → cond (not b) (1 + position_or_len is_open xs) 0 ≡ suc (length xs) → (position_or_len is_open xs ≡ length xs → has_byte 123 xs ≡ false) → (b || has_byte 123 xs) ≡ false
    go true e rest = absurd (omega (arith, e))
    go false e rest = rest (omega (arith, e))

pub has_one : (xs : List ℕ) → position_or_len is_open xs < length xs → has_byte 123 xs ≡ true
has_one [] l = absurd (omega (arith, l))
has_one (x ∷ xs) l = go (is_open x) l (λ l. has_one xs l)
  where
    go : (b : Bool) → cond (not b) (1 + position_or_len is_open xs) 0 < suc (length xs) → (position_or_len is_open xs < length xs → has_byte 123 xs ≡ true) → (b || has_byte 123 xs) ≡ true
    go true l rest = refl
    go false l rest = rest (omega (arith, l))

pub cuts_at_open : (bs : List ℕ) (r : Option (Bor (List ℕ) × Bor (List ℕ))) → IsSplitOnceResult 123 bs r → CutsAtOpen bs r
cuts_at_open bs r h = go r (split_once_first 123 bs r h (lit< tt))
  where
    go : (r : Option (Bor (List ℕ) × Bor (List ℕ)))
        → MatchOption r (position_or_len is_open bs ≡ length bs) (λ x. (position_or_len is_open bs < length bs) × (x.0.now ≡ before_first is_open bs) × (x.1.now ≡ after_first is_open bs)) → CutsAtOpen bs r
    go None e = has_none bs e
    go (Some x) (l, before, after) =
        (has_one bs l, before, after, (let n : length (drop (position_or_len is_open bs + 1) bs) ≡ length bs - (position_or_len is_open bs + 1) = length-drop _ _ in rw after (omega (arith, n, l))))

-- the name of a greedy hole
pub greedy : (name : List ℕ) → hole_of (name ++ codes "+") ≡ record { name = name; greedy = true }
greedy name =
    let n : length (name ++ 43 ∷ []) - 1 ≡ length name = (let l : length (name ++ 43 ∷ []) ≡ length name + 1 = length-append name (43 ∷ []) in omega (arith, l)) in
    rw (n, drop-append_seam name (43 ∷ []), take-append_seam name (43 ∷ [])) refl

pub not_greedy : (text : List ℕ) → ((name : List ℕ) → text ≢ name ++ codes "+") → hole_of text ≡ record { name = text; greedy = false }
not_greedy text no_name = go (ends_with nat_eq text (codes "+")) refl
  where
    plain : Hole
    plain = record { name = text; greedy = false }

    go : (b : Bool) → ends_with nat_eq text (codes "+") ≡ b → (if b then record { name = take (length text - 1) text; greedy = true } else plain) ≡ plain
    go true e = absurd (no_name (take (length text - 1) text) (sym (take-append-drop (length text - 1) text) ∙ ap (λ t. take (length text - 1) text ++ t) (sym (same_from_test (codes "+") (drop (length text - 1) text) (sym e)))))
    go false e = refl

abbrev pub is_plain : List ℕ → Hole → Type 0
is_plain text hole = hole ≡ record { name = text; greedy = false }

abbrev pub IsGreedyOf : List ℕ → Hole → Type 0
IsGreedyOf name hole = hole ≡ record { name = name; greedy = true }

pub greedy_cases : (text : List ℕ) (r : Option (Bor (List ℕ))) → MatchOption r ((name : List ℕ) → text ≢ name ++ (43 ∷ [])) (λ x. text ≡ x.now ++ (43 ∷ []))
    → MatchOption r (is_plain text (hole_of text)) (λ x. IsGreedyOf x.now (hole_of text))
greedy_cases text None h = not_greedy text h
greedy_cases text (Some x) h = rw h (greedy x.now)
