-- Lists of dates, cut at commas.
use Rattle.std.proofs.Common.{◌≡◌, refl, sym, ◌∙◌, ap, ℕ, ◌+◌, ◌<◌, ◌≤◌, Bool, true, false, cond, List, [], ◌∷◌, ◌++◌, length, get_or, take, drop, ℤ, Ok, Err}
use Rattle.std.specs.List.{onto_first}
use Rattle.std.proofs.lemmas.List.{append_assoc, append-nil, take_more, drop_more, drop_all, take_all}
use Rattle.smithy_types.specs.declared.date_time.Format.{Format}
use Rattle.smithy_types.specs.Results.{then_try, then_give}
use Rattle.smithy_http.specs.declared.error.HttpError.{HttpError}
use Rattle.smithy_http.specs.DateLists.{cut_at_commas, date_in, dates_in}
use Rattle.smithy_http.specs.ListTexts.{is_comma}

-- these bytes before the first piece
abbrev pub onto_all : List ℕ → List (List ℕ) → List (List ℕ)
onto_all front [] = front ∷ []
onto_all front (piece ∷ pieces) = (front ++ piece) ∷ pieces

onto_all-first : (front : List ℕ) (b : ℕ) (pieces : List (List ℕ)) → onto_all front (onto_first b pieces) ≡ onto_all (front ++ b ∷ []) pieces
onto_all-first front b [] = refl
onto_all-first front b (piece ∷ pieces) = ap (λ p. p ∷ pieces) (sym (append_assoc front (b ∷ []) piece))

-- what is cut behind the first bytes
abbrev pub cut_behind : Bool → Bool → List ℕ → ℕ → List (List ℕ)
cut_behind own stays bytes place = onto_all (take place bytes) (cut_at_commas own stays (drop place bytes))

-- one byte on
cut_step : (own stays later : Bool) (bytes : List ℕ) (place : ℕ) → place < length bytes
    → cut_at_commas own stays (get_or bytes place 0 ∷ drop (place + 1) bytes) ≡ onto_first (get_or bytes place 0) (cut_at_commas own later (drop (place + 1) bytes))
    → cut_behind own later bytes (place + 1) ≡ cut_behind own stays bytes place
cut_step own stays later bytes place within step =
    let b = get_or bytes place 0 in
    ap (λ front. onto_all front (cut_at_commas own later (drop (place + 1) bytes))) (take_more bytes place 0 within)
    ∙ sym (onto_all-first (take place bytes) b (cut_at_commas own later (drop (place + 1) bytes)))
    ∙ sym (ap (onto_all (take place bytes)) (ap (cut_at_commas own stays) (drop_more bytes place 0 within) ∙ step))

-- a byte that is no comma
pub cut_other : (own stays : Bool) (bytes : List ℕ) (place : ℕ) → place < length bytes → is_comma (get_or bytes place 0) ≡ false → cut_behind own stays bytes (place + 1) ≡ cut_behind own stays bytes place
cut_other own stays bytes place within other =
    let b = get_or bytes place 0 in
    let rest = drop (place + 1) bytes in
    cut_step own stays stays bytes place within
    (ap (λ x. cond x (cond stays (onto_first b (cut_at_commas own false rest)) ([] ∷ cut_at_commas own own rest)) (onto_first b (cut_at_commas own stays rest))) other)

-- a comma that stays
pub cut_stays : (own : Bool) (bytes : List ℕ) (place : ℕ) → place < length bytes → is_comma (get_or bytes place 0) ≡ true → cut_behind own false bytes (place + 1) ≡ cut_behind own true bytes place
cut_stays own bytes place within here =
    let b = get_or bytes place 0 in
    let rest = drop (place + 1) bytes in
    cut_step own true false bytes place within
    (ap (λ x. cond x (onto_first b (cut_at_commas own false rest)) (onto_first b (cut_at_commas own true rest))) here)

-- a comma that cuts
pub cut_here : (own : Bool) (bytes : List ℕ) (place : ℕ) → place < length bytes → is_comma (get_or bytes place 0) ≡ true → cut_behind own false bytes place ≡ take place bytes ∷ cut_at_commas own own (drop (place + 1) bytes)
cut_here own bytes place within here =
    let b = get_or bytes place 0 in
    let rest = drop (place + 1) bytes in
    ap (onto_all (take place bytes))
    (ap (cut_at_commas own false) (drop_more bytes place 0 within) ∙ ap (λ x. cond x ([] ∷ cut_at_commas own own rest) (onto_first b (cut_at_commas own false rest))) here)
    ∙ ap (λ front. front ∷ cut_at_commas own own rest) (append-nil (take place bytes))

-- no comma cut
pub cut_none : (own stays : Bool) (bytes : List ℕ) (place : ℕ) → length bytes ≤ place → cut_behind own stays bytes place ≡ bytes ∷ []
cut_none own stays bytes place past =
    (λ i. onto_all (take_all place bytes past i) (cut_at_commas own stays (drop_all place bytes past i)))
    ∙ ap (λ front. front ∷ []) (append-nil bytes)

onto_nothing : (pieces : List (List ℕ)) (b : ℕ) → onto_all [] (onto_first b pieces) ≡ onto_first b pieces
onto_nothing [] b = refl
onto_nothing (piece ∷ pieces) b = refl

-- nothing before the first piece
pub cut_whole : (own stays : Bool) (bytes : List ℕ) → onto_all [] (cut_at_commas own stays bytes) ≡ cut_at_commas own stays bytes
cut_whole own stays [] = refl
cut_whole own stays (b ∷ bytes) = go (is_comma b) stays
  where
    go : (here s : Bool) → onto_all [] (cond here (cond s (onto_first b (cut_at_commas own false bytes)) ([] ∷ cut_at_commas own own bytes)) (onto_first b (cut_at_commas own stays bytes)))
        ≡ cond here (cond s (onto_first b (cut_at_commas own false bytes)) ([] ∷ cut_at_commas own own bytes)) (onto_first b (cut_at_commas own stays bytes))
    go true true = onto_nothing (cut_at_commas own false bytes) b
    go true false = refl
    go false s = onto_nothing (cut_at_commas own stays bytes) b

-- the first date, and those behind it
pub dates_in-piece : (format : Format) (piece : List ℕ) (pieces : List (List ℕ)) (date : ℤ) → date_in format piece ≡ Ok date → dates_in format (piece ∷ pieces) ≡ then_give (dates_in format pieces) (λ dates. date ∷ dates)
dates_in-piece format piece pieces date e = ap (λ r. then_try r (λ d. then_give (dates_in format pieces) (λ dates. d ∷ dates))) e

pub dates_in-fault : (format : Format) (piece : List ℕ) (pieces : List (List ℕ)) (f : HttpError) → date_in format piece ≡ Err f → dates_in format (piece ∷ pieces) ≡ Err f
dates_in-fault format piece pieces f e = ap (λ r. then_try r (λ d. then_give (dates_in format pieces) (λ dates. d ∷ dates))) e
