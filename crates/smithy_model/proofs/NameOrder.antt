-- Members whose names ascend, and the one at a name among them.
use Rattle.std.proofs.Common.{◌≡◌, refl, sym, ap, ◌∙◌, ℕ, zero, suc, ◌+◌, ◌<◌, arith, List, [], ◌∷◌, length, get_or, Some, None, Result, Ok, Err, MatchResult, ⊎_elim, Ordering, Less, Equal, Greater, nat_cmp}
use Rattle.std.specs.List.{AllByRecursion}
use Rattle.std.specs.Map.{keys_of}
use Rattle.smithy_types.specs.Maps.{IsOrdered}
use Rattle.std.proofs.lemmas.Bool.{cases_lt}
use Rattle.std.specs.List.Sorted.{IsStrictlySortedBy, IsSearchInRange, IsBinarySearchResult, IsNonDecreasingBy}
use Rattle.std.specs.Ordering.{match_ordering, ordering_reverse, ordering_index, is_lt}
use Rattle.std.specs.Cmp.Lexicographic.{slice_cmp}
use Rattle.std.proofs.lemmas.Cmp.{nat_list_cmp_total}
use Rattle.std.proofs.lemmas.List.Sorted.{searchable_from_sorted}
use Rattle.serde_json.specs.Data as parsed
use Rattle.serde_json.specs.Data.{Members}
use Rattle.serde_json.specs.Find.{get_member}
use Rattle.smithy_json.specs.views.JsonView.{Member, view, members_view, entries}

abbrev compare : List ℕ → List ℕ → Ordering
compare = slice_cmp nat_cmp

-- a name is below those of members
abbrev Below : List ℕ → Members → Type 0
Below low parsed.no_members = Unit {0}
Below low (parsed.member k d ms) = (compare low k ≡ Less) × Below low ms

abbrev Ascend : Members → Type 0
Ascend parsed.no_members = Unit {0}
Ascend (parsed.member k d ms) = Below k ms × Ascend ms

flip-less : (a b : List ℕ) → compare a b ≡ Less → compare b a ≡ Greater
flip-less a b e = nat_list_cmp_total.antisymm b a ∙ ap ordering_reverse e

flip-equal : (a b : List ℕ) → compare a b ≡ Equal → compare b a ≡ Equal
flip-equal a b e = nat_list_cmp_total.antisymm b a ∙ ap ordering_reverse e

below-from : (low : List ℕ) (ms : List Member) → AllByRecursion (λ y. compare low y ≡ Less) (keys_of (entries ms)) → Below low (members_view ms)
below-from low [] b = tt
below-from low (m ∷ ms) b = (b.0, below-from low ms b.1)

up-from : (ms : List Member) → IsOrdered (entries ms) → Ascend (members_view ms)
unfolding IsStrictlySortedBy
up-from [] a = tt
up-from (m ∷ ms) a = (below-from m.0.now ms a.0, up-from ms a.1)

below-at : (low : List ℕ) (ms : List Member) (j : ℕ) (d : Member) → Below low (members_view ms) → j < length ms → compare low (get_or ms j d).0.now ≡ Less
below-at low [] j d b l = absurd (omega (arith, l))
below-at low (m ∷ ms) zero d b l = b.0
below-at low (m ∷ ms) (suc j) d b l = below-at low ms j d b.1 (omega (arith, l))

less-at : (ms : List Member) (i j : ℕ) (d : Member) → Ascend (members_view ms) → i < j → j < length ms → compare (get_or ms i d).0.now (get_or ms j d).0.now ≡ Less
less-at [] i j d a h l = absurd (omega (arith, l))
less-at (m ∷ ms) i zero d a h l = absurd (omega (arith, h))
less-at (m ∷ ms) zero (suc j) d a h l = below-at m.0.now ms j d a.0 (omega (arith, l))
less-at (m ∷ ms) (suc i) (suc j) d a h l = less-at ms i j d a.1 (omega (arith, h)) (omega (arith, l))

-- what a search halves
rises : (ms : List Member) (name : List ℕ) → Ascend (members_view ms) → IsNonDecreasingBy (λ m. ordering_index (compare m.0.now name)) ms
rises ms name a =
    searchable_from_sorted nat_list_cmp_total (λ m. m.0.now) ms name (λ k d z l. ap is_lt (flip-less (get_or ms k d).0.now (get_or ms (k + 1) d).0.now (less-at ms k (k + 1) d a (omega arith) l)))

here : (ms : List Member) (name : List ℕ) (i : ℕ) (d : Member) → Ascend (members_view ms) → i < length ms → compare (get_or ms i d).0.now name ≡ Equal → get_member name (members_view ms) ≡ Some (view (get_or ms i d).1)
here [] name i d a l e = absurd (omega (arith, l))
here (m ∷ ms) name zero d a l e = rw (flip-equal m.0.now name e) refl
here (m ∷ ms) name (suc i) d a l e =
    let inside : i < length ms = omega (arith, l) in
    let less = below-at m.0.now ms i d a.0 inside in
    let greater : compare name m.0.now ≡ Greater = sym (nat_list_cmp_total.congr (get_or ms i d).0.now name m.0.now e) ∙ flip-less m.0.now (get_or ms i d).0.now less in
    rw greater (here ms name i d a.1 inside e)

nowhere : (ms : List Member) (name : List ℕ) → ((k : ℕ) (d : Member) → k < length ms → compare (get_or ms k d).0.now name ≡ Equal → ⊥) → get_member name (members_view ms) ≡ None
nowhere [] name h = refl
nowhere (m ∷ ms) name h = go (compare name m.0.now) refl (nowhere ms name (λ k d l e. h (suc k) d (omega (arith, l)) e))
  where
    go : (o : Ordering) → compare name m.0.now ≡ o → get_member name (members_view ms) ≡ None → match_ordering o (get_member name (members_view ms)) (Some (view m.1)) (get_member name (members_view ms)) ≡ None
    go Less e rest = rest
    go Equal e rest = absurd (h 0 m (omega arith) (flip-equal name m.0.now e))
    go Greater e rest = rest

apart : (a : Ordering) → a ≡ Equal → (a ≡ Less → ⊥) × (a ≡ Greater → ⊥)
apart a e = (λ less. absurd (cc (e, less)), λ greater. absurd (cc (e, greater)))

-- what a search among such members finds
pub searched : (ms : List Member) (name : List ℕ) (r : Result ℕ ℕ) → IsOrdered (entries ms) → IsSearchInRange r (length ms) → IsBinarySearchResult (λ m. compare m.0.now name) ms r
    → MatchResult r (λ i. (d : Member) → Some (view (get_or ms i d).1) ≡ get_member name (members_view ms)) (λ i. None ≡ get_member name (members_view ms))
searched ms name (Ok i) o range equal = λ d. sym (here ms name i d (up-from ms o) range (equal d))
searched ms name (Err i) o range parted =
    let parts = parted (rises ms name (up-from ms o)) in
    sym (nowhere ms name (λ k d l e. ⊎_elim (λ before. (apart _ e).0 (parts.0 k d (omega arith) before)) (λ behind. (apart _ e).1 (parts.1 k d behind l)) (cases_lt k i)))
