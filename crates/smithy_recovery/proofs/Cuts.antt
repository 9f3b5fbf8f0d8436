-- Texts that are cut at the first `&`, `?` or `=`.
use Rattle.std.proofs.Common.{◌≡◌, refl, ap, sym, ◌∙◌, drop, ℕ, ◌+◌, ◌<◌, suc, arith, Bool, true, false, not, cond, ◌==◌, ◌||◌, List, [], ◌∷◌, length, Option, Some, None, option_map, MatchOption, lit<}
use Rattle.std.specs.Borrow.{Bor}
use Rattle.std.specs.List.{slice_split, onto_first, position_or_len, before_first, after_first}
use Rattle.std.proofs.lemmas.List.Splits.{slice_split_first}
use Rattle.std.proofs.lemmas.Str.Pattern.{IsSplitOnceResult, split_once_first}
use Rattle.smithy_types.specs.Texts.{has_byte}
use Rattle.smithy_http.specs.Facts.{query_pieces}
use Rattle.smithy_recovery.specs.views.Pieces.{pieces_of, cut_pieces, pieces_left}
use Rattle.smithy_recovery.specs.QueryParts.{behind_equals}

abbrev pub Parts : Type 0
Parts = Option (Bor (List ℕ) × Bor (List ℕ))

abbrev IsCut : ℕ → List ℕ → Parts → Type 0
IsCut c bs r = MatchOption r (position_or_len (λ b. b == c) bs ≡ length bs) (λ x. (position_or_len (λ b. b == c) bs < length bs) × (x.0.now ≡ before_first (λ b. b == c) bs) × (x.1.now ≡ after_first (λ b. b == c) bs))

split_none : (c : ℕ) (xs : List ℕ) → position_or_len (λ b. b == c) xs ≡ length xs → slice_split (λ b. b == c) xs ≡ xs ∷ []
split_none c [] e = refl
split_none c (x ∷ xs) e = go (x == c) e (λ e. split_none c xs e)
  where
    go : (b : Bool) → cond (not b) (1 + position_or_len (λ b. b == c) xs) 0 ≡ suc (length xs) → (position_or_len (λ b. b == c) xs ≡ length xs → slice_split (λ b. b == c) xs ≡ xs ∷ [])
        → cond b ([] ∷ slice_split (λ b. b == c) xs) (onto_first x (slice_split (λ b. b == c) xs)) ≡ (x ∷ xs) ∷ []
    go true e rest = absurd (omega (arith, e))
    go false e rest = rw (rest (omega (arith, e))) refl

abbrev pub CutsPieces : List ℕ → Parts → Type 0
CutsPieces bs r = pieces_of bs ≡ cut_pieces bs r

cuts_pieces : (bs : List ℕ) (r : Parts) → IsCut 38 bs r → CutsPieces bs r
cuts_pieces bs None e = split_none 38 bs e
cuts_pieces bs (Some x) (l, before, after) = rw (before, after) (slice_split_first (λ b. b == 38) bs 0 l)

pub cuts_at_ampersand : (bs : List ℕ) (r : Parts) → IsSplitOnceResult 38 bs r → CutsPieces bs r
cuts_at_ampersand bs r h = cuts_pieces bs r (split_once_first 38 bs r h (lit< tt))

has_none : (c : ℕ) (xs : List ℕ) → position_or_len (λ b. b == c) xs ≡ length xs → has_byte c xs ≡ false
has_none c [] e = refl
has_none c (x ∷ xs) e = go (x == c) e (λ e. has_none c xs e)
  where
    go : (b : Bool) → cond (not b) (1 + position_or_len (λ b. b == c) xs) 0 ≡ suc (length xs) → (position_or_len (λ b. b == c) xs ≡ length xs → has_byte c xs ≡ false) → (b || has_byte c xs) ≡ false
    go true e rest = absurd (omega (arith, e))
    go false e rest = rest (omega (arith, e))

has_some : (c : ℕ) (xs : List ℕ) → position_or_len (λ b. b == c) xs < length xs → has_byte c xs ≡ true
has_some c [] e = absurd (omega (arith, e))
has_some c (x ∷ xs) e = go (x == c) e (λ e. has_some c xs e)
  where
    go : (b : Bool) → cond (not b) (1 + position_or_len (λ b. b == c) xs) 0 < suc (length xs) → (position_or_len (λ b. b == c) xs < length xs → has_byte c xs ≡ true) → (b || has_byte c xs) ≡ true
    go true e rest = refl
    go false e rest = rest (omega (arith, e))

-- what stands behind the first `?`, as pieces
abbrev pub behind_part : Parts → Option (Bor (List ℕ))
behind_part r = option_map (λ x. x.1) r

abbrev pub pieces_behind : Parts → List (List ℕ)
pieces_behind r = pieces_left (behind_part r)

abbrev pub text_behind : Parts → Option (List ℕ)
text_behind r = option_map (λ t. t.now) (behind_part r)

query_cut : (bs : List ℕ) (r : Parts) → IsCut 63 bs r → pieces_left (behind_part r) ≡ query_pieces bs
query_cut bs None e = rw (has_none 63 bs e) refl
query_cut bs (Some x) (l, before, after) = rw (has_some 63 bs l, after) refl

pub query_behind : (bs : List ℕ) (r : Parts) → IsSplitOnceResult 63 bs r → pieces_left (behind_part r) ≡ query_pieces bs
query_behind bs r h = query_cut bs r (split_once_first 63 bs r h (lit< tt))

-- what stands behind the first `=`
equals_none : (xs : List ℕ) → position_or_len (λ b. b == 61) xs ≡ length xs → behind_equals xs ≡ None
equals_none [] e = refl
equals_none (x ∷ xs) e = go (x == 61) e (λ e. equals_none xs e)
  where
    go : (b : Bool) → cond (not b) (1 + position_or_len (λ b. b == 61) xs) 0 ≡ suc (length xs) → (position_or_len (λ b. b == 61) xs ≡ length xs → behind_equals xs ≡ None)
        → cond b (Some xs) (behind_equals xs) ≡ None
    go true e rest = absurd (omega (arith, e))
    go false e rest = rest (omega (arith, e))

equals_some : (xs : List ℕ) → position_or_len (λ b. b == 61) xs < length xs → behind_equals xs ≡ Some (after_first (λ b. b == 61) xs)
equals_some [] e = absurd (omega (arith, e))
equals_some (x ∷ xs) e = go (x == 61) e (λ e. equals_some xs e)
  where
    go : (b : Bool) → cond (not b) (1 + position_or_len (λ b. b == 61) xs) 0 < suc (length xs)
        → (position_or_len (λ b. b == 61) xs < length xs → behind_equals xs ≡ Some (after_first (λ b. b == 61) xs))
        → cond b (Some xs) (behind_equals xs) ≡ Some (drop (cond (not b) (1 + position_or_len (λ b. b == 61) xs) 0 + 1) (x ∷ xs))
    go true e rest = refl
    go false e rest =
        let same : 1 + position_or_len (λ b. b == 61) xs + 1 ≡ suc (position_or_len (λ b. b == 61) xs + 1) = omega arith in
        rest (omega (arith, e)) ∙ ap (λ k. Some (drop k (x ∷ xs))) (sym same)

equals_cut : (bs : List ℕ) (r : Parts) → IsCut 61 bs r → option_map (λ t. t.now) (behind_part r) ≡ behind_equals bs
equals_cut bs None e = sym (equals_none bs e)
equals_cut bs (Some x) (l, before, after) = ap Some after ∙ sym (equals_some bs l)

pub equals_behind : (bs : List ℕ) (r : Parts) → IsSplitOnceResult 61 bs r → option_map (λ t. t.now) (behind_part r) ≡ behind_equals bs
equals_behind bs r h = equals_cut bs r (split_once_first 61 bs r h (lit< tt))
