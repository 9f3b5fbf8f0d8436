-- Members whose names ascend: each name stands once, and a search that halves them finds it.
use Rattle.std.proofs.Common.{◌≡◌, refl, sym, ap, ◌∙◌, ℕ, zero, suc, ◌+◌, ◌<◌, arith, Bool, true, false, ◌&&◌, cond, List, [], ◌∷◌, length, drop, get_or, position, option_map, Option, Some, None, Result, Ok, Err, MatchResult, ⊎_elim, Ordering, Less, Equal, Greater, nat_cmp}
use Rattle.std.specs.List.{slice_get}
use Rattle.std.specs.List.Sorted.{IsSearchInRange, IsBinarySearchResult, IsNonDecreasingBy}
use Rattle.std.specs.Option.{option_map_or, unwrap_or}
use Rattle.std.specs.Ordering.{ordering_reverse, ordering_index, is_eq, is_lt}
use Rattle.std.specs.Cmp.Lexicographic.{slice_cmp}
use Rattle.std.proofs.lemmas.Bool.{and_parts, cases_lt}
use Rattle.std.proofs.lemmas.Cmp.{nat_list_cmp_total}
use Rattle.std.proofs.lemmas.List.Sorted.{searchable_from_sorted}
use Rattle.std.proofs.lemmas.Map.Text.{is_eq-slice_cmp}
use Rattle.smithy_types.specs.Texts.{same_text}
use Rattle.smithy_types.proofs.Positions.{one_more, position-cons}
use Rattle.smithy_schema.specs.declared.parts.SchemaIndex.{SchemaIndex}
use Rattle.smithy_schema.specs.Nodes.{Table, node_at}
use Rattle.smithy_schema.specs.views.Places.{places_of}
use Rattle.smithy_schema.specs.views.MemberNames.{ascend, is_named_at, name_held, names_in, rises}
use Rattle.smithy_schema.proofs.NamedLemmas.{named_as_held}
use Rattle.smithy_schema.proofs.PlaceLemmas.{place_at, places_step}

abbrev compare : List ℕ → List ℕ → Ordering
compare = slice_cmp nat_cmp

flip-less : (a b : List ℕ) → compare a b ≡ Less → compare b a ≡ Greater
flip-less a b e = nat_list_cmp_total.antisymm b a ∙ ap ordering_reverse e

flip-equal : (a b : List ℕ) → compare a b ≡ Equal → compare b a ≡ Equal
flip-equal a b e = nat_list_cmp_total.antisymm b a ∙ ap ordering_reverse e

less-from : (o : Ordering) → is_lt o ≡ true → o ≡ Less
less-from Less e = refl
less-from Equal e = absurd (cc e)
less-from Greater e = absurd (cc e)

same-equal : (a b : List ℕ) → compare a b ≡ Equal → same_text a b ≡ true
same-equal a b e = sym (is_eq-slice_cmp a b) ∙ ap is_eq e

other-less : (a b : List ℕ) → compare b a ≡ Less → same_text a b ≡ false
other-less a b e = sym (is_eq-slice_cmp a b) ∙ ap is_eq (flip-less b a e)

other-not_equal : (a b : List ℕ) → (compare b a ≡ Equal → ⊥) → same_text a b ≡ false
other-not_equal a b differ = sym (is_eq-slice_cmp a b) ∙ go (compare a b) refl
  where
    go : (o : Ordering) → compare a b ≡ o → is_eq o ≡ false
    go Less e = refl
    go Equal e = absurd (differ (flip-equal a b e))
    go Greater e = refl

module _ (table : Table) where
  abbrev own : SchemaIndex → Option (List ℕ)
  own s = name_held (node_at table s.0)

  -- the name of a member that has one
  abbrev pub key : SchemaIndex → List ℕ
  key s = unwrap_or (own s) []

  abbrev pub names : List SchemaIndex → List (Option (List ℕ))
  names xs = names_in table (places_of xs)

  -- the first of names that ascend, and those behind it
  first_named : (before o : Option (List ℕ)) (rest : Bool) → (rises before o && rest) ≡ true → o ≡ Some (unwrap_or o [])
  first_named before None rest e = absurd (cc e)
  first_named before (Some n) rest e = refl

  others : (before : Option (List ℕ)) (x : SchemaIndex) (xs : List SchemaIndex) → ascend before (names (x ∷ xs)) ≡ true → ascend (Some (key x)) (names xs) ≡ true
  others before x xs up = ap (λ (o : Option (List ℕ)). ascend o (names xs)) (sym (first_named before (own x) _ up)) ∙ (and_parts (rises before (own x)) (ascend (own x) (names xs)) up).1

  first_behind : (low : List ℕ) (x : SchemaIndex) (xs : List SchemaIndex) → ascend (Some low) (names (x ∷ xs)) ≡ true → compare low (key x) ≡ Less
  first_behind low x xs up = go (own x) (and_parts (rises (Some low) (own x)) (ascend (own x) (names xs)) up).0
    where
      go : (o : Option (List ℕ)) → rises (Some low) o ≡ true → compare low (unwrap_or o []) ≡ Less
      go None e = absurd (cc e)
      go (Some n) e = less-from (compare low n) e

  behind : (low : List ℕ) (xs : List SchemaIndex) (j : ℕ) (d : SchemaIndex) → ascend (Some low) (names xs) ≡ true → j < length xs → compare low (key (get_or xs j d)) ≡ Less
  behind low [] j d up l = absurd (omega (arith, l))
  behind low (x ∷ xs) zero d up l = first_behind low x xs up
  behind low (x ∷ xs) (suc j) d up l = nat_list_cmp_total.trans low (key x) (key (get_or xs j d)) (first_behind low x xs up) (behind (key x) xs j d (others (Some low) x xs up) (omega (arith, l)))

  less_at : (before : Option (List ℕ)) (xs : List SchemaIndex) (i j : ℕ) (d : SchemaIndex) → ascend before (names xs) ≡ true → i < j → j < length xs → compare (key (get_or xs i d)) (key (get_or xs j d)) ≡ Less
  less_at before [] i j d up h l = absurd (omega (arith, l))
  less_at before (x ∷ xs) i zero d up h l = absurd (omega (arith, h))
  less_at before (x ∷ xs) zero (suc j) d up h l = behind (key x) xs j d (others before x xs up) (omega (arith, l))
  less_at before (x ∷ xs) (suc i) (suc j) d up h l = less_at (Some (key x)) xs i j d (others before x xs up) (omega (arith, h)) (omega (arith, l))

  -- what a search halves
  halved : (xs : List SchemaIndex) (name : List ℕ) → ascend None (names xs) ≡ true → IsNonDecreasingBy (λ s. ordering_index (compare (key s) name)) xs
  halved xs name up =
      searchable_from_sorted nat_list_cmp_total key xs name (λ k d z l. ap is_lt (flip-less (key (get_or xs k d)) (key (get_or xs (k + 1) d)) (less_at None xs k (k + 1) d up (omega arith) l)))

  -- the test of a member is by its name
  named_by : (name : List ℕ) (x : SchemaIndex) → own x ≡ Some (key x) → is_named_at table name x.0 ≡ same_text name (key x)
  named_by name x is = named_as_held table name x.0 ∙ ap (λ (o : Option (List ℕ)). option_map_or (same_text name) o false) is

  here : (before : Option (List ℕ)) (xs : List SchemaIndex) (name : List ℕ) (i : ℕ) (d : SchemaIndex) → ascend before (names xs) ≡ true → i < length xs → compare (key (get_or xs i d)) name ≡ Equal → position (is_named_at table name) (places_of xs) ≡ Some i
  here before [] name i d up l e = absurd (omega (arith, l))
  here before (x ∷ xs) name zero d up l e =
      position-cons (is_named_at table name) x.0 (places_of xs)
      ∙ ap (λ (b : Bool). cond b (Some 0) (option_map one_more (position (is_named_at table name) (places_of xs)))) (named_by name x (first_named before (own x) _ up) ∙ same-equal name (key x) (flip-equal (key x) name e))
  here before (x ∷ xs) name (suc i) d up l e =
      let inside : i < length xs = omega (arith, l) in
      let low = behind (key x) xs i d (others before x xs up) inside in
      let lower : compare (key x) name ≡ Less = low_before (key x) (key (get_or xs i d)) name low e in
      position-cons (is_named_at table name) x.0 (places_of xs)
      ∙ ap (λ (b : Bool). cond b (Some 0) (option_map one_more (position (is_named_at table name) (places_of xs)))) (named_by name x (first_named before (own x) _ up) ∙ other-less name (key x) lower)
      ∙ ap (λ (o : Option ℕ). option_map one_more o) (here (Some (key x)) xs name i d (others before x xs up) inside e)
      ∙ ap (λ (k : ℕ). Some k) (omega arith)
    where
      low_before : (a b c : List ℕ) → compare a b ≡ Less → compare b c ≡ Equal → compare a c ≡ Less
      low_before a b c less equal =
          let greater : compare c a ≡ Greater = sym (nat_list_cmp_total.congr b c a equal) ∙ flip-less a b less in
          nat_list_cmp_total.antisymm a c ∙ ap ordering_reverse greater

  nowhere : (before : Option (List ℕ)) (xs : List SchemaIndex) (name : List ℕ) → ascend before (names xs) ≡ true → ((k : ℕ) (d : SchemaIndex) → k < length xs → compare (key (get_or xs k d)) name ≡ Equal → ⊥) → position (is_named_at table name) (places_of xs) ≡ None
  nowhere before [] name up none = refl
  nowhere before (x ∷ xs) name up none =
      position-cons (is_named_at table name) x.0 (places_of xs)
      ∙ ap (λ (b : Bool). cond b (Some 0) (option_map one_more (position (is_named_at table name) (places_of xs)))) (named_by name x (first_named before (own x) _ up) ∙ other-not_equal name (key x) (none 0 x (omega arith)))
      ∙ ap (λ (o : Option ℕ). option_map one_more o) (nowhere (Some (key x)) xs name (others before x xs up) (λ k d l e. none (suc k) d (omega (arith, l)) e))

  apart : (a : Ordering) → a ≡ Equal → (a ≡ Less → ⊥) × (a ≡ Greater → ⊥)
  apart a e = (λ less. absurd (cc (e, less)), λ greater. absurd (cc (e, greater)))

  -- what a search among such members finds
  pub searched : (xs : List SchemaIndex) (name : List ℕ) (r : Result ℕ ℕ) → ascend None (names xs) ≡ true → IsSearchInRange r (length xs) → IsBinarySearchResult (λ s. compare (key s) name) xs r
      → MatchResult r (λ i. Some i ≡ position (is_named_at table name) (places_of xs)) (λ i. None ≡ position (is_named_at table name) (places_of xs))
  searched xs name (Ok i) up range equal = sym (here None xs name i (record { 0 = 0 }) up range (equal (record { 0 = 0 })))
  searched xs name (Err i) up range parted =
      let parts = parted (halved xs name up) in
      sym (nowhere None xs name up (λ k d l e. ⊎_elim (λ before. (apart _ e).0 (parts.0 k d (omega arith) before)) (λ later. (apart _ e).1 (parts.1 k d later l)) (cases_lt k i)))

  -- each member is the first one of its name
  pub first_of_its_name : (xs : List SchemaIndex) (i : ℕ) → ascend None (names xs) ≡ true → i < length xs → position (is_named_at table (key (get_or xs i (record { 0 = 0 })))) (places_of xs) ≡ Some i
  first_of_its_name xs i up l = here None xs (key (get_or xs i (record { 0 = 0 }))) i (record { 0 = 0 }) up l (self (key (get_or xs i (record { 0 = 0 }))))
    where
      self : (a : List ℕ) → compare a a ≡ Equal
      self a = go (compare a a) refl
        where
          go : (o : Ordering) → compare a a ≡ o → compare a a ≡ Equal
          go Less e = absurd (cc (e, nat_list_cmp_total.antisymm a a ∙ ap ordering_reverse e))
          go Equal e = e
          go Greater e = absurd (cc (e, nat_list_cmp_total.antisymm a a ∙ ap ordering_reverse e))

  -- one step of the test whether names ascend
  names_step : (xs : List SchemaIndex) (i : ℕ) (before name : Option (List ℕ)) → i < length xs → name ≡ name_held (node_at table (place_at xs i))
      → ascend before (names_in table (drop i (places_of xs))) ≡ (rises before name && ascend name (names_in table (drop (i + 1) (places_of xs))))
  names_step xs i before name l is =
      ap (λ (ps : List ℕ). ascend before (names_in table ps)) (places_step xs i l)
      ∙ ap (λ (o : Option (List ℕ)). rises before o && ascend o (names_in table (drop (i + 1) (places_of xs)))) (sym is)

  pub no_rise : (xs : List SchemaIndex) (i : ℕ) (before name : Option (List ℕ)) (b : Bool) → i < length xs → name ≡ name_held (node_at table (place_at xs i)) → b ≡ rises before name → b ≡ false → ascend before (names_in table (drop i (places_of xs))) ≡ false
  no_rise xs i before name b l is test fails = names_step xs i before name l is ∙ ap (λ (c : Bool). c && ascend name (names_in table (drop (i + 1) (places_of xs)))) (sym test ∙ fails)

  pub one_rise : (xs : List SchemaIndex) (i : ℕ) (before name : Option (List ℕ)) (b : Bool) → i < length xs → name ≡ name_held (node_at table (place_at xs i)) → b ≡ rises before name → b ≡ true
      → ascend before (names_in table (drop i (places_of xs))) ≡ ascend name (names_in table (drop (i + 1) (places_of xs)))
  one_rise xs i before name b l is test holds = names_step xs i before name l is ∙ ap (λ (c : Bool). c && ascend name (names_in table (drop (i + 1) (places_of xs)))) (sym test ∙ holds)

-- the names stay where the table keeps what stands at the places
pub names_in-same : (old new : Table) (places : List ℕ) → ((position member : ℕ) → slice_get places position ≡ Some member → node_at new member ≡ node_at old member) → names_in old places ≡ names_in new places
names_in-same old new [] same = refl
names_in-same old new (place ∷ places) same =
    λ i. ap name_held (sym (same 0 place refl)) i ∷ names_in-same old new places (λ position member at. same (suc position) member at) i
