-- The writes of two kinds of members, each in index order, merge into those of all members.
use Rattle.smithy_served.proofs.Common.{AreIndexed, writes, is_response_bound, in_order, position_of, put_by, write_by, Bool, List, None, Option, Schema, Some, Value, Write, [], ap, cons_option, false, if◌then◌else◌, inl, inr, list_any, not, option_map, option_or, refl, sym, true, ℕ, ◌++◌, ◌+◌, ◌||◌, ◌∙◌, ◌∷◌, ◌≡◌, ◌⊎◌}
use Rattle.smithy_recovery.proofs.Merging as merging

-- the writes of members by their positions
abbrev pub made_from : (ℕ → Schema → Option Value) → ℕ → List Schema → List Write
made_from v k ms = writes (λ p. v p.0 p.1) k ms

-- of the bound members, and of the others
abbrev pub bound_part : (ℕ → Schema → Option Value) → ℕ → Schema → Option Value
bound_part v i m = if is_response_bound m then v i m else None

abbrev pub free_part : (ℕ → Schema → Option Value) → ℕ → Schema → Option Value
free_part v i m = if is_response_bound m then None else v i m

-- behind others two lists of one order are in one order
same_behind : (ws us ts : List Write) → in_order us ≡ in_order ts → in_order (ws ++ us) ≡ in_order (ws ++ ts)
same_behind [] us ts e = e
same_behind (w ∷ ws) us ts e = ap (put_by position_of w) (same_behind ws us ts e)

-- where the others are in index order, so are all
pub merged : (v : ℕ → Schema → Option Value) (ms : List Schema) (us : List Write) → AreIndexed 0 ms → in_order us ≡ made_from (free_part v) 0 ms → in_order (made_from (bound_part v) 0 ms ++ us) ≡ made_from v 0 ms
merged v ms us index ordered =
    same_behind (made_from (bound_part v) 0 ms) us (made_from (free_part v) 0 ms) (ordered ∙ sym (merging.ordered (λ p. free_part v p.0 p.1) 0 ms index))
    ∙ merging.merged (λ p. bound_part v p.0 p.1) (λ p. free_part v p.0 p.1) 0 ms (λ p. apart (is_response_bound p.1) (v p.0 p.1)) index
    ∙ (λ i. writes (λ p. joined (is_response_bound p.1) (v p.0 p.1) i) 0 ms)
  where
    apart : (b : Bool) (o : Option Value) → ((if b then o else None) ≡ None) ⊎ ((if b then None else o) ≡ None)
    apart true o = inr refl
    apart false o = inl refl

    joined : (b : Bool) (o : Option Value) → option_or (if b then o else None) (if b then None else o) ≡ o
    joined true None = refl
    joined true (Some v) = refl
    joined false o = refl

-- nothing is made of others where there are none
pub none_free : (v : ℕ → Schema → Option Value) (k : ℕ) (ms : List Schema) → list_any (λ m. not (is_response_bound m)) ms ≡ false → [] ≡ made_from (free_part v) k ms
none_free v k [] none = refl
none_free v k (m ∷ ms) none = go (is_response_bound m) none (none_free v (k + 1) ms)
  where
    go : (b : Bool) → (not b || list_any (λ m. not (is_response_bound m)) ms) ≡ false → (list_any (λ m. not (is_response_bound m)) ms ≡ false → [] ≡ made_from (free_part v) (k + 1) ms)
        → [] ≡ cons_option (option_map (write_by m) (if b then None else v k m)) (made_from (free_part v) (k + 1) ms)
    go true e rest = rest e
    go false e rest = absurd (cc e)
