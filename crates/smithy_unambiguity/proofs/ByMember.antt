-- What the first writes give, where only the writes to one member give something.
use Rattle.smithy_unambiguity.proofs.Common.{◌≡◌, ◌≢◌, refl, sym, ◌∙◌, ap, ℕ, List, [], ◌∷◌, ◌++◌, flat_map, Option, Some, None, option_map, unwrap_or, AllByRecursion, option_map_or, Schema, member_at, Value, Write, Resolved, all_resolved, first, firsts, texts}
use Rattle.smithy_unambiguity.proofs.Conforming.{resolved_at}
use Rattle.smithy_unambiguity.proofs.Firsts.{only_one_gives, all_firsts, find_has}
use Rattle.smithy_unambiguity.proofs.Lists.{all_apply}

-- the value of a member's first write, with the member
abbrev pub at_member : ℕ → Schema → Value → Resolved
at_member i m v = record { position = i; member = m; value = v }

-- the value of the first write to a position
abbrev pub first_value : Schema → List Write → ℕ → Option Value
first_value schema ws i = option_map (λ r. r.value) (first schema ws i)

-- the texts of a member's first write
abbrev pub first_texts : Schema → Option Value → List (List ℕ)
first_texts m o = option_map_or (λ v. unwrap_or (texts m v) []) o []

-- the first write to a member's position is one to the member
pub first_at : (schema : Schema) (ws : List Write) (i : ℕ) (m : Schema) → member_at schema i ≡ Some m → first schema ws i ≡ option_map (at_member i m) (first_value schema ws i)
first_at schema ws i m at = go (first schema ws i) refl
  where
    go : (o : Option Resolved) → first schema ws i ≡ o → o ≡ option_map (at_member i m) (option_map (λ r. r.value) o)
    go None e = refl
    go (Some r) e =
        let has = find_has (λ x. member_at schema x.position ≡ Some x.member) i (all_resolved schema ws) r (resolved_at schema ws) e in
        let both : Some r.member ≡ Some m = sym has.0 ∙ ap (member_at schema) has.1 ∙ at in
        let same : r.member ≡ m = cc both in
        let position : r.position ≡ i = has.1 in
        λ k. Some (record { position = position k; member = same k; value = r.value })

pub only_member : {X : Type 0} (g : Resolved → List X) (schema : Schema) (ws : List Write) (i : ℕ) (m : Schema) → member_at schema i ≡ Some m
    → ((r : Resolved) → member_at schema r.position ≡ Some r.member → r.position ≢ i → g r ≡ [])
    → flat_map g (firsts schema ws) ≡ option_map_or (λ v. g (at_member i m v)) (first_value schema ws i) []
only_member {X = X} g schema ws i m at others =
    only_one_gives g i (all_resolved schema ws)
    (all_apply (λ r. member_at schema r.position ≡ Some r.member) (λ r. r.position ≢ i → g r ≡ []) (all_resolved schema ws) others (resolved_at schema ws))
    ∙ ap (λ o. option_map_or g o []) (first_at schema ws i m at)
    ∙ go (first_value schema ws i)
  where
    go : (o : Option Value) → option_map_or g (option_map (at_member i m) o) [] ≡ option_map_or (λ v. g (at_member i m v)) o []
    go None = refl
    go (Some v) = refl

-- where no member's write gives anything, no writes do
pub none_given : {X : Type 0} (g : Resolved → List X) (schema : Schema) (ws : List Write) → ((r : Resolved) → member_at schema r.position ≡ Some r.member → g r ≡ []) → flat_map g (firsts schema ws) ≡ []
none_given {X = X} g schema ws none =
    nothing (firsts schema ws)
    (all_firsts (λ r. g r ≡ []) (all_resolved schema ws) (all_apply (λ r. member_at schema r.position ≡ Some r.member) (λ r. g r ≡ []) (all_resolved schema ws) none (resolved_at schema ws)))
  where
    nothing : (rs : List Resolved) → AllByRecursion (λ r. g r ≡ []) rs → flat_map g rs ≡ []
    nothing [] all = refl
    nothing (r ∷ rs) all = λ k. all.0 k ++ nothing rs all.1 k
