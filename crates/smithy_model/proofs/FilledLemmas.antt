-- Indexes of a table that get their nodes one after another.
use Rattle.std.proofs.Common.{◌≡◌, refl, sym, ap, ◌∙◌, subst, ℕ, suc, ◌+◌, List, [], ◌∷◌, ◌++◌, append_assoc, length, length-append, set, arith, Option, Some, None}
use Rattle.std.proofs.lemmas.List.{append-nil}
use Rattle.smithy_schema.specs.Nodes.{Node, Table}
use Rattle.smithy_model.specs.views.NodeView.{filled, IsFilledBy, IsFilled}
use Rattle.smithy_model.proofs.Each.{and_rest, none_before, more_before}

set-hole : (done : List Node) (holes : ℕ) (n : Node) → set (filled done (suc holes)) (length done) (Some n) ≡ filled (done ++ n ∷ []) holes
set-hole [] holes n = refl
set-hole (d ∷ done) holes n = ap (λ (t : Table). Some d ∷ t) (set-hole done holes n)

-- a index that was only declared gets its node
pub filled-one : (index : ℕ) (n : Node) (before after : Table) → after ≡ set before index (Some n) → IsFilledBy index (n ∷ []) before after
filled-one index n before after e done holes l b =
    let one : 1 + holes ≡ suc holes = omega arith in
    e ∙ rw (b, one, ← l) (set-hole done holes n)

-- some indexes, and then those behind them
pub filled-both : (first second : ℕ) (xs ys : List Node) (t u v : Table) → second ≡ first + length xs → IsFilledBy first xs t u → IsFilledBy second ys u v → IsFilledBy first (xs ++ ys) t v
filled-both first second xs ys t u v s h k done holes l b =
    let count : length (xs ++ ys) + holes ≡ length xs + (length ys + holes) = rw (length-append xs ys) (omega arith) in
    let here : t ≡ filled done (length xs + (length ys + holes)) = b ∙ ap (filled done) count in
    let more = h done (length ys + holes) l here in
    let long : length (done ++ xs) ≡ second = length-append done xs ∙ ap (λ n. n + length xs) l ∙ sym s in
    k (done ++ xs) holes long more ∙ ap (λ (ns : List Node). filled ns holes) (append_assoc done xs ys)

pub filled-none : (first : ℕ) (t : Table) → IsFilledBy first [] t t
filled-none first t done holes l b =
    let count : 0 + holes ≡ holes = omega arith in
    b ∙ ap (filled done) count ∙ ap (λ (ns : List Node). filled ns holes) (sym (append-nil done))

-- the nodes so far, and those of the rest
pub record Filled (first next : ℕ) (before after : Table) (rest all : Option (List Node)) : Type 0 where
  pub nodes : List Node
  pub count : next ≡ first + length nodes
  pub filled : IsFilledBy first nodes before after
  pub whole : and_rest nodes rest ≡ all

pub filled-start : (first : ℕ) (t : Table) (all : Option (List Node)) → Filled first first t t all all
filled-start first t all = record { nodes = []; count = omega arith; filled = filled-none first t; whole = none_before all }

pub filled-more : (first next after_next : ℕ) (ns : List Node) (t u v : Table) (rest all : Option (List Node)) → after_next ≡ next + length ns → IsFilledBy next ns u v
    → Filled first next t u (and_rest ns rest) all → Filled first after_next t v rest all
filled-more first next after_next ns t u v rest all e k h = record {
  nodes = h.nodes ++ ns;
  count = e ∙ ap (λ n. n + length ns) h.count ∙ rw (length-append h.nodes ns) (omega arith);
  filled = filled-both first next h.nodes ns t u v h.count h.filled k;
  whole = sym (more_before h.nodes ns rest) ∙ h.whole;
}

pub filled-end : (first next : ℕ) (t u : Table) (rest all : Option (List Node)) → rest ≡ Some [] → Filled first next t u rest all → IsFilled first t u all
filled-end first next t u rest all e h = go all (sym h.whole ∙ rw e (ap (λ (ns : List Node). Some ns) (append-nil h.nodes)))
  where
    go : (all : Option (List Node)) → all ≡ Some h.nodes → IsFilled first t u all
    go None f = absurd (cc f)
    go (Some ns) f = let same : h.nodes ≡ ns = cc in subst (λ xs. IsFilledBy first xs t u) same h.filled

pub filled-absent : (first next : ℕ) (t u : Table) (rest all : Option (List Node)) → rest ≡ None → Filled first next t u rest all → all ≡ None
filled-absent first next t u rest all e h = sym h.whole ∙ rw e refl
