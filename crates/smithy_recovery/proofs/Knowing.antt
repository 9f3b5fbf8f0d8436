-- What is kept of shapes.
use Rattle.std.proofs.Common.{◌≡◌, sym, ap, ◌∙◌, cond, refl, ℕ, Bool, true, false, List, [], Some}
use Rattle.std.specs.BTreeMap.{is_at}
use Rattle.std.specs.BTreeSet.{BTreeSet, contains, Updates}
use Rattle.std.specs.Cmp.{Equal-is}
use Rattle.std.specs.List.{list_any}
use Rattle.std.specs.Ordering.{nat_cmp}
use Rattle.std.proofs.lemmas.Map.Lookups.{exact_unsigned}
use Rattle.smithy_schema.specs.Nodes.{Schema, Table, at_place}
use Rattle.smithy_recovery.specs.views.KnownShapes.{has_distinct_members, AreKnown}

pub known_none : (t : Table) (known : BTreeSet ℕ) → known.keys ≡ [] → AreKnown t known
unfolding AreKnown
known_none t known empty place s held at =
    let bad : false ≡ true = sym (ap (λ (ks : List ℕ). list_any (is_at (nat_cmp place)) ks) empty) ∙ held in absurd (cc bad)

pub known_same : (t : Table) (old new : BTreeSet ℕ) → new.keys ≡ old.keys → AreKnown t old → AreKnown t new
unfolding AreKnown
known_same t old new same known place s held at = known place s (sym (ap (λ (ks : List ℕ). list_any (is_at (nat_cmp place)) ks) same) ∙ held) at

-- one that is kept
pub known_says : (t : Table) (known : BTreeSet ℕ) (place : ℕ) (s : Schema) (says : Bool) → AreKnown t known → at_place t place ≡ Some s → says ≡ contains nat_cmp known place → says ≡ true → has_distinct_members s ≡ true
unfolding AreKnown
known_says t known place s says all at is e = all place s (sym is ∙ e) at

-- one more
pub known_more : (t : Table) (old new : BTreeSet ℕ) (place : ℕ) (shape : Schema) → AreKnown t old → at_place t place ≡ Some shape → has_distinct_members shape ≡ true → Updates nat_cmp old new place true → AreKnown t new
unfolding AreKnown
known_more t old new place shape known stands distinct updates q s held at = go (is_at (nat_cmp place) q) refl
  where
    go : (b : Bool) → is_at (nat_cmp place) q ≡ b → has_distinct_members s ≡ true
    go true e =
        let same : place ≡ q = exact_unsigned place q ((Equal-is (nat_cmp place q)).0 e) in
        let both : Some shape ≡ Some s = sym stands ∙ ap (at_place t) same ∙ at in
        let one : shape ≡ s = cc both in
        ap has_distinct_members (sym one) ∙ distinct
    go false e = known q s (sym (updates.0 q ∙ ap (λ b. cond b true (contains nat_cmp old q)) e) ∙ held) at
