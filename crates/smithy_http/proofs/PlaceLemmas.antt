-- The place of each name.
use Rattle.std.proofs.Common.{◌≡◌, refl, ap, sym, ◌∙◌, subst, ℕ, suc, zero, ◌+◌, ◌<◌, ◌≤◌, arith, Bool, true, false, not, cond, List, [], ◌∷◌, ◌++◌, map, length, get_or, set, position, string_bytes, String, Option, Some, None, option_map, unwrap_or, if◌then◌else◌}
use Rattle.std.specs.Global.{Global}
use Rattle.std.specs.BTreeMap.{BTreeMap, Updates, get_by_text}
use Rattle.std.specs.String.{string_cmp}
use Rattle.std.specs.Str.{bytes_eq}
use Rattle.std.proofs.lemmas.List.{length-map}
use Rattle.std.proofs.lemmas.Slice.Eq.{bytes_eq-Decides}
use Rattle.std.proofs.lemmas.Map.Text.{btree_map_updates_text}
use Rattle.smithy_types.specs.Texts.{same_text}
use Rattle.smithy_types.proofs.Positions.{one_more, position-cons}
use Rattle.smithy_http.specs.declared.pairs.Pair.{Pair}
use Rattle.smithy_http.specs.Headers.{put, without}
use Rattle.smithy_http.proofs.PutLemmas.{position_some}
use Rattle.smithy_http.specs.views.Pairs.{pair_of, name_of, is_named, place_of, AreApart, IsIndex}

-- where none passes, the first does not, and none behind it does
pub none-cons : {X : Type 0} (p : X → Bool) (x : X) (xs : List X) → position p (x ∷ xs) ≡ None → (p x ≡ false) × (position p xs ≡ None)
none-cons p x xs e = go (p x) (position p xs) (sym (position-cons p x xs) ∙ e)
  where
    go : (b : Bool) (o : Option ℕ) → cond b (Some 0) (option_map one_more o) ≡ None → (b ≡ false) × (o ≡ None)
    go true o e = absurd (cc e)
    go false None e = (refl, refl)
    go false (Some k) e = absurd (cc e)

-- the first that passes is the first, or stands behind it
pub some-cons : {X : Type 0} (p : X → Bool) (x : X) (xs : List X) (i : ℕ) → position p (x ∷ xs) ≡ Some i → cond (p x) (0 ≡ i) ((j : ℕ) × (position p xs ≡ Some j) × (suc j ≡ i))
some-cons p x xs i e = go (p x) (position p xs) (sym (position-cons p x xs) ∙ e)
  where
    go : (b : Bool) (o : Option ℕ) → cond b (Some 0) (option_map one_more o) ≡ Some i → cond b (0 ≡ i) ((j : ℕ) × (o ≡ Some j) × (suc j ≡ i))
    go true o e = cc e
    go false None e = absurd (cc e)
    go false (Some k) e = (k, refl, let f : 1 + k ≡ i = cc e in omega arith)

pub position-map : {X Y : Type 0} (p : Y → Bool) (f : X → Y) (xs : List X) → position p (map f xs) ≡ position (λ x. p (f x)) xs
position-map p f [] = refl
position-map p f (x ∷ xs) =
    position-cons p (f x) (map f xs) ∙ ap (λ o. cond (p (f x)) (Some 0) (option_map one_more o)) (position-map p f xs) ∙ sym (position-cons (λ x. p (f x)) x xs)

position-push_fails : {X : Type 0} (p : X → Bool) (xs : List X) (y : X) → p y ≡ false → position p (xs ++ y ∷ []) ≡ position p xs
position-push_fails p [] y e = position-cons p y [] ∙ ap (λ b. cond b (Some 0) None) e
position-push_fails p (x ∷ xs) y e =
    position-cons p x (xs ++ y ∷ []) ∙ ap (λ o. cond (p x) (Some 0) (option_map one_more o)) (position-push_fails p xs y e) ∙ sym (position-cons p x xs)

position-push_passes : {X : Type 0} (p : X → Bool) (xs : List X) (y : X) → p y ≡ true → position p xs ≡ None → position p (xs ++ y ∷ []) ≡ Some (length xs)
position-push_passes p [] y e none = position-cons p y [] ∙ ap (λ b. cond b (Some 0) None) e
position-push_passes p (x ∷ xs) y e none =
    let parts = none-cons p x xs none in
    position-cons p x (xs ++ y ∷ [])
    ∙ ap (λ b. cond b (Some 0) (option_map one_more (position p (xs ++ y ∷ [])))) parts.0
    ∙ ap (option_map one_more) (position-push_passes p xs y e parts.1)
    ∙ ap (λ k. Some k) (omega arith)

other_way : (a b : List ℕ) → same_text a b ≡ false → same_text b a ≡ false
other_way a b e = go (same_text b a) refl
  where
    go : (t : Bool) → same_text b a ≡ t → same_text b a ≡ false
    go false f = f
    go true f =
        let q : true ≡ false = sym ((bytes_eq-Decides a b).1 (sym ((bytes_eq-Decides b a).0 f))) ∙ e in
        absurd (cc q)

-- a new name behind names that stand once
pub AreApart-push : (names : List (List ℕ)) (name : List ℕ) → AreApart names → place_of name names ≡ None → AreApart (names ++ name ∷ [])
AreApart-push [] name apart none = (refl, tt)
AreApart-push (n ∷ names) name apart none =
    let parts = none-cons (λ m. same_text m name) n names none in
    (position-push_fails (λ m. same_text m n) names name (other_way n name parts.0) ∙ apart.0, AreApart-push names name apart.1 parts.1)

-- the map with the place of a new name, which stands last
pub IsIndex-push : (m n : BTreeMap (String Global) ℕ) (key : String Global) (names : List (List ℕ)) → IsIndex m names → place_of (string_bytes key) names ≡ None → Updates string_cmp m n key (Some (length names)) → IsIndex n (names ++ string_bytes key ∷ [])
IsIndex-push m n key names index none updates =
    record {
      at = λ name. btree_map_updates_text (string_bytes key) m n (Some (length names)) updates name ∙ go name (bytes_eq (string_bytes key) name) refl;
      apart = AreApart-push names (string_bytes key) index.apart none;
    }
  where
    go : (name : List ℕ) (b : Bool) → bytes_eq (string_bytes key) name ≡ b → cond b (Some (length names)) (get_by_text m name) ≡ place_of name (names ++ string_bytes key ∷ [])
    go name true e =
        sym (position-push_passes (λ n. same_text n name) names (string_bytes key) e (subst (λ t. place_of t names ≡ None) ((bytes_eq-Decides (string_bytes key) name).0 e) none))
    go name false e = index.at name ∙ sym (position-push_fails (λ n. same_text n name) names (string_bytes key) e)

-- the place of a name, where it has one
IsIndex-same : (m n : BTreeMap (String Global) ℕ) (key : String Global) (names : List (List ℕ)) (place : ℕ) → IsIndex m names → place_of (string_bytes key) names ≡ Some place → Updates string_cmp m n key (Some place) → IsIndex n names
IsIndex-same m n key names place index some updates =
    record {
      at = λ name. btree_map_updates_text (string_bytes key) m n (Some place) updates name ∙ go name (bytes_eq (string_bytes key) name) refl;
      apart = index.apart;
    }
  where
    go : (name : List ℕ) (b : Bool) → bytes_eq (string_bytes key) name ≡ b → cond b (Some place) (get_by_text m name) ≡ place_of name names
    go name true e = sym (subst (λ t. place_of t names ≡ Some place) ((bytes_eq-Decides (string_bytes key) name).0 e) some)
    go name false e = index.at name

-- what stands at a name after it got the place behind the pairs, unless it had one
module _ (m n : BTreeMap (String Global) ℕ) (key : String Global) (pairs : List Pair) (place : ℕ) (index : IsIndex m (map name_of pairs)) where
  named : position (is_named (string_bytes key)) pairs ≡ get_by_text m (string_bytes key)
  named = sym (index.at (string_bytes key) ∙ position-map (λ n. same_text n (string_bytes key)) name_of pairs)

  old : place ≡ unwrap_or (get_by_text m (string_bytes key)) (length pairs) → Updates string_cmp m n key (Some place) → place < length pairs
      → (position (is_named (string_bytes key)) pairs ≡ Some place) × IsIndex n (map name_of pairs)
  old put updates less = go (get_by_text m (string_bytes key)) refl
    where
      go : (o : Option ℕ) → get_by_text m (string_bytes key) ≡ o → (position (is_named (string_bytes key)) pairs ≡ Some place) × IsIndex n (map name_of pairs)
      go None e = let bad : place ≡ length pairs = put ∙ ap (λ o. unwrap_or o (length pairs)) e in absurd (omega (arith, bad, less))
      go (Some i) e =
          let same : place ≡ i = put ∙ ap (λ o. unwrap_or o (length pairs)) e in
          let at : get_by_text m (string_bytes key) ≡ Some place = e ∙ ap (λ k. Some k) (sym same) in
          (named ∙ at, IsIndex-same m n key (map name_of pairs) place index (sym (index.at (string_bytes key)) ∙ at) updates)

  new : place ≡ unwrap_or (get_by_text m (string_bytes key)) (length pairs) → Updates string_cmp m n key (Some place) → length pairs ≤ place
      → (position (is_named (string_bytes key)) pairs ≡ None) × IsIndex n (map name_of pairs ++ string_bytes key ∷ [])
  new put updates past = go (get_by_text m (string_bytes key)) refl
    where
      go : (o : Option ℕ) → get_by_text m (string_bytes key) ≡ o → (position (is_named (string_bytes key)) pairs ≡ None) × IsIndex n (map name_of pairs ++ string_bytes key ∷ [])
      go None e =
          let last : place ≡ length (map name_of pairs) = put ∙ ap (λ o. unwrap_or o (length pairs)) e ∙ sym (length-map pairs name_of) in
          (named ∙ e, IsIndex-push m n key (map name_of pairs) index (sym (index.at (string_bytes key)) ∙ e) (subst (λ k. Updates string_cmp m n key (Some k)) last updates))
      go (Some i) e =
          let same : place ≡ i = put ∙ ap (λ o. unwrap_or o (length pairs)) e in
          let within = position_some (is_named (string_bytes key)) pairs i (named ∙ e) in
          absurd (omega (arith, same, past, within.0, within.1))

  -- the same of the name's own bytes
  pub claimed-old : (name : List ℕ) → string_bytes key ≡ name → place ≡ unwrap_or (get_by_text m name) (length pairs) → Updates string_cmp m n key (Some place) → place < length pairs
      → (position (is_named name) pairs ≡ Some place) × IsIndex n (map name_of pairs)
  claimed-old name is =
      subst (λ (k : List ℕ). place ≡ unwrap_or (get_by_text m k) (length pairs) → Updates string_cmp m n key (Some place) → place < length pairs → (position (is_named k) pairs ≡ Some place) × IsIndex n (map name_of pairs)) is old

  pub claimed-new : (name : List ℕ) → string_bytes key ≡ name → place ≡ unwrap_or (get_by_text m name) (length pairs) → Updates string_cmp m n key (Some place) → length pairs ≤ place
      → (position (is_named name) pairs ≡ None) × IsIndex n (map name_of pairs ++ name ∷ [])
  claimed-new name is =
      subst (λ (k : List ℕ). place ≡ unwrap_or (get_by_text m k) (length pairs) → Updates string_cmp m n key (Some place) → length pairs ≤ place → (position (is_named k) pairs ≡ None) × IsIndex n (map name_of pairs ++ k ∷ [])) is new

-- without a name that does not stand
pub without-absent : (name : List ℕ) (xs : List Pair) → position (is_named name) xs ≡ None → without name (map pair_of xs) ≡ map pair_of xs
without-absent name [] e = refl
without-absent name (x ∷ xs) e =
    let parts = none-cons (is_named name) x xs e in
    ap (λ b. cond (not b) (pair_of x ∷ without name (map pair_of xs)) (without name (map pair_of xs))) parts.0
    ∙ ap (λ ps. pair_of x ∷ ps) (without-absent name xs parts.1)

-- the pair with another value
abbrev pub with_value : Pair → List ℕ → Pair
with_value x value = record { name = x.name; value = value }

-- where each name stands once, the value is put at its place
pub put-set : (xs : List Pair) (p d : Pair) (i : ℕ) → AreApart (map name_of xs) → position (is_named (name_of p)) xs ≡ Some i → map pair_of (set xs i (with_value (get_or xs i d) p.value)) ≡ put (map pair_of xs) (pair_of p)
put-set [] p d i apart e = absurd (cc e)
put-set (x ∷ xs) p d i apart e = go (is_named (name_of p) x) refl (some-cons (is_named (name_of p)) x xs i e) (λ j f. put-set xs p d j apart.1 f)
  where
    go : (b : Bool) → is_named (name_of p) x ≡ b → cond b (0 ≡ i) ((j : ℕ) × (position (is_named (name_of p)) xs ≡ Some j) × (suc j ≡ i))
        → ((j : ℕ) → position (is_named (name_of p)) xs ≡ Some j → map pair_of (set xs j (with_value (get_or xs j d) p.value)) ≡ put (map pair_of xs) (pair_of p))
        → map pair_of (set (x ∷ xs) i (with_value (get_or (x ∷ xs) i d) p.value)) ≡ (if b then (string_bytes x.name, p.value) ∷ without (string_bytes p.name) (map pair_of xs) else pair_of x ∷ put (map pair_of xs) (pair_of p))
    go true e at rest =
        let same : string_bytes x.name ≡ string_bytes p.name = (bytes_eq-Decides (string_bytes x.name) (string_bytes p.name)).0 e in
        let absent : position (is_named (name_of p)) xs ≡ None = subst (λ n. position (is_named n) xs ≡ None) same (sym (position-map (λ n. same_text n (name_of x)) name_of xs) ∙ apart.0) in
        subst (λ k. map pair_of (set (x ∷ xs) k (with_value (get_or (x ∷ xs) k d) p.value)) ≡ (string_bytes x.name, p.value) ∷ without (string_bytes p.name) (map pair_of xs)) at
        (ap (λ ps. (string_bytes x.name, p.value) ∷ ps) (sym (without-absent (string_bytes p.name) xs absent)))
    go false e at rest =
        subst (λ k. map pair_of (set (x ∷ xs) k (with_value (get_or (x ∷ xs) k d) p.value)) ≡ pair_of x ∷ put (map pair_of xs) (pair_of p)) at.2
        (ap (λ ps. pair_of x ∷ ps) (rest at.0 at.1))

-- another value keeps the names
pub names-set : (xs : List Pair) (i : ℕ) (d : Pair) (value : List ℕ) → map name_of (set xs i (with_value (get_or xs i d) value)) ≡ map name_of xs
names-set [] i d value = refl
names-set (x ∷ xs) zero d value = refl
names-set (x ∷ xs) (suc i) d value = ap (λ ns. name_of x ∷ ns) (names-set xs i d value)

pub ruleset placing = (names-set)
