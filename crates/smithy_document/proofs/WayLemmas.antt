-- Ways into what has parts: one more position, and what holds of the root and so of the end.
use Rattle.std.proofs.Common.{ne_eqb}
use Rattle.smithy_document.proofs.Common.{◌≡◌, ℕ, ◌-◌, ◌<◌, ◌==◌, List, [], ◌∷◌, ◌++◌, Bool, true, false, Option, Some, None, refl, ap, arith, if◌then◌else◌, IfSome, fold, unwrap_or}
use Rattle.smithy_document.specs.views.Ways.{last_handed, opened_on}

pub opened_last : {D P O : Type 0} (step : D → P → D) (opens : D → P → O) (d : D) (ps : List P) (p : P) → opened_on step opens d (ps ++ p ∷ []) ≡ opens (fold step d ps) p ∷ opened_on step opens d ps
opened_last step opens d [] p = refl
opened_last step opens d (q ∷ ps) p = ap (λ os. os ++ opens d q ∷ []) (opened_last step opens (step d q) ps p)

pub end_keeps : {D P : Type 0} (Holds : D → Type 0) (step : D → P → D) → ((d : D) (p : P) → Holds d → Holds (step d p)) → (d : D) (ps : List P) → Holds d → Holds (fold step d ps)
end_keeps Holds step keeps d [] h = h
end_keeps Holds step keeps d (p ∷ ps) h = end_keeps Holds step keeps (step d p) ps (keeps d p h)

pub last_is : {D : Type 0} (part : ℕ → Option D) (next : ℕ) (d : D) → 0 < next → last_handed part next d ≡ unwrap_or (part (next - 1)) d
last_is part next d some = rw (ne_eqb next 0 (λ none. omega arith)) refl

pub last_keeps : {D : Type 0} (Holds : D → Type 0) (part : ℕ → Option D) (next : ℕ) (d : D) → Holds d → IfSome (part (next - 1)) Holds → Holds (last_handed part next d)
last_keeps {D} Holds part next d h there = go (next == 0) (part (next - 1)) there
  where
    go : (b : Bool) (o : Option D) → IfSome o Holds → Holds (if b then d else unwrap_or o d)
    go true o k = h
    go false None k = h
    go false (Some x) k = k
