-- The maps of a registry: what a look-up finds, and one more entry.
use Rattle.std.proofs.Common.{◌≡◌, refl, sym, ap, ◌∙◌, subst, ℕ, Bool, true, false, cond, List, [], ◌∷◌, Option, Some, None, option_map, unwrap_or, String, string_bytes, string_cmp, nat_cmp, Ordering, Less, Equal, Greater, if◌then◌else◌}
use Rattle.std.specs.Global.{Global}
use Rattle.std.specs.BTreeMap.{Updates, get_by_text, insert_entry, is_at}
use Rattle.std.specs.Cmp.Lexicographic.{slice_cmp}
use Rattle.std.specs.List.{AllByRecursion}
use Rattle.std.specs.List.Sorted.{IsStrictlySortedBy}
use Rattle.std.specs.Map.{keys_of, lookup, remove_entry}
use Rattle.std.specs.Option.{option_map_or}
use Rattle.std.specs.Ordering.{is_eq, is_le, match_ordering, ordering_reverse}
use Rattle.std.specs.Str.{bytes_eq}
use Rattle.std.proofs.lemmas.Cmp.{nat_list_cmp_total}
use Rattle.std.proofs.lemmas.Map.Text.{is_eq-slice_cmp, btree_map_updates_text}
use Rattle.std.proofs.lemmas.Slice.Eq.{bytes_eq-Decides}
use Rattle.smithy_types.specs.Maps.{with_value, IsOrdered}
use Rattle.smithy_types.specs.Texts.{same_text}
use Rattle.smithy_types.proofs.MapLemmas.{IsOrdered-pairs_of}
use Rattle.smithy_ids.specs.ShapeIds.{has_hash}
use Rattle.smithy_registry.specs.Registries.{by_name, first_named, has_shape_name, shape_name_in}
use Rattle.smithy_registry.specs.views.Kept.{Names, kept_name, is_not_above, least_of, entries_kept, AreNames, least_name, IsKept}

-- one more name is kept, unless a lesser one of its shape name is
abbrev KeepsLeast : Names → List ℕ → Names → Type 0
KeepsLeast old name new =
    (shape_name : List ℕ) → kept_name new shape_name ≡ (if has_shape_name shape_name name then Some (least_of name (kept_name old shape_name)) else kept_name old shape_name)

-- a name that is not below another one is above it
above : (a b : List ℕ) (o : Ordering) → slice_cmp nat_cmp a b ≡ o → slice_cmp nat_cmp b a ≡ ordering_reverse o
above a b o e = nat_list_cmp_total.antisymm b a ∙ ap ordering_reverse e

pub same_if_equal : (a b : List ℕ) → slice_cmp nat_cmp a b ≡ Equal → a ≡ b
same_if_equal a b e = (bytes_eq-Decides a b).0 (sym (is_eq-slice_cmp a b) ∙ ap is_eq e)

below_all : (a b : List ℕ) (ks : List (List ℕ)) → slice_cmp nat_cmp a b ≡ Less → AllByRecursion (λ y. slice_cmp nat_cmp b y ≡ Less) ks → AllByRecursion (λ y. slice_cmp nat_cmp a y ≡ Less) ks
below_all a b [] h all = tt
below_all a b (k ∷ ks) h all = (nat_list_cmp_total.trans a b k h all.0, below_all a b ks h all.1)

module _ {X : Type 0} where
  -- a look-up by order finds what one by equality finds
  pub found_kept : (q : List ℕ) (es : List (String Global × X)) → lookup (is_at (λ (k : String Global). slice_cmp nat_cmp q (string_bytes k))) es ≡ by_name q (entries_kept es)
  found_kept q [] = refl
  found_kept q (e ∷ es) =
      ap (λ b. cond b (Some e.1) (lookup (is_at (λ (k : String Global). slice_cmp nat_cmp q (string_bytes k))) es)) (is_eq-slice_cmp q (string_bytes e.0))
      ∙ ap (cond (same_text q (string_bytes e.0)) (Some e.1)) (found_kept q es)

  kept-match_ordering : (o : Ordering) (a b c : List (String Global × X)) → entries_kept (match_ordering o a b c) ≡ match_ordering o (entries_kept a) (entries_kept b) (entries_kept c)
  kept-match_ordering Less a b c = refl
  kept-match_ordering Equal a b c = refl
  kept-match_ordering Greater a b c = refl

  pub kept-insert_entry : (es : List (String Global × X)) (k : String Global) (x : X) → entries_kept (insert_entry string_cmp es k x) ≡ with_value (string_bytes k) x (entries_kept es)
  kept-insert_entry [] k x = refl
  kept-insert_entry (e ∷ es) k x = kept-match_ordering (string_cmp k e.0) _ _ _ ∙ rw (kept-insert_entry es k x)

  AreNames-with_value : (name : List ℕ) (x : X) (es : List (List ℕ × X)) → has_hash name ≡ true → AreNames es → AreNames (with_value name x es)
  AreNames-with_value name x [] h all = (h, tt)
  AreNames-with_value name x (e ∷ es) h all = go (AreNames-with_value name x es h all.1) (slice_cmp nat_cmp name e.0)
    where
      go : AreNames (with_value name x es) → (o : Ordering) → AreNames (match_ordering o ((name, x) ∷ e ∷ es) ((e.0, x) ∷ es) (e ∷ with_value name x es))
      go behind Less = (h, all)
      go behind Equal = all
      go behind Greater = (all.0, behind)

  -- a name below all others is the least
  least_below : (shape_name name : List ℕ) (es : List (List ℕ × X)) → AllByRecursion (λ y. slice_cmp nat_cmp name y ≡ Less) (keys_of es) → least_of name (least_name shape_name es) ≡ name
  least_below shape_name name [] all = refl
  least_below shape_name name (e ∷ es) all = go (least_below shape_name name es all.1) (has_shape_name shape_name e.0)
    where
      go : least_of name (least_name shape_name es) ≡ name → (b : Bool) → least_of name (if b then Some e.0 else least_name shape_name es) ≡ name
      go behind true = rw (above name e.0 Less all.0) refl
      go behind false = behind

  -- of the names with one more, the least is the lesser of the new one and the least before
  least-with_value : (shape_name name : List ℕ) (x : X) (es : List (List ℕ × X)) → IsOrdered es
      → least_name shape_name (with_value name x es) ≡ (if has_shape_name shape_name name then Some (least_of name (least_name shape_name es)) else least_name shape_name es)
  unfolding IsStrictlySortedBy
  least-with_value shape_name name x [] ordered = refl
  least-with_value shape_name name x (e ∷ es) ordered = go (least-with_value shape_name name x es ordered.1) (slice_cmp nat_cmp name e.0) refl
    where
      first : (b : Bool) → least_of name (least_name shape_name (e ∷ es)) ≡ name
          → (if b then Some name else least_name shape_name (e ∷ es)) ≡ (if b then Some (least_of name (least_name shape_name (e ∷ es))) else least_name shape_name (e ∷ es))
      first true h = ap Some (sym h)
      first false h = refl

      itself : (b : Bool) → (if b then e.0 else e.0) ≡ e.0
      itself true = refl
      itself false = refl

      here : (b : Bool)
          → (if b then Some e.0 else least_name shape_name es) ≡ (if b then Some (least_of e.0 (if b then Some e.0 else least_name shape_name es)) else (if b then Some e.0 else least_name shape_name es))
      here true = ap Some (sym (itself (is_not_above e.0 e.0)))
      here false = refl

      later : is_not_above name e.0 ≡ true → (b c : Bool)
          → (if b then Some e.0 else (if c then Some (least_of name (least_name shape_name es)) else least_name shape_name es)) ≡ (if c then Some (least_of name (if b then Some e.0 else least_name shape_name es)) else (if b then Some e.0 else least_name shape_name es))
      later h true true = rw h refl
      later h true false = refl
      later h false c = refl

      go : least_name shape_name (with_value name x es) ≡ (if has_shape_name shape_name name then Some (least_of name (least_name shape_name es)) else least_name shape_name es)
          → (o : Ordering) → slice_cmp nat_cmp name e.0 ≡ o
          → least_name shape_name (match_ordering o ((name, x) ∷ e ∷ es) ((e.0, x) ∷ es) (e ∷ with_value name x es))
          ≡ (if has_shape_name shape_name name then Some (least_of name (least_name shape_name (e ∷ es))) else least_name shape_name (e ∷ es))
      go behind Less h = first (has_shape_name shape_name name) (least_below shape_name name (e ∷ es) (h, below_all name e.0 (keys_of es) h ordered.0))
      go behind Equal h =
          subst
          (λ (n : List ℕ). least_name shape_name ((e.0, x) ∷ es) ≡ (if has_shape_name shape_name n then Some (least_of n (least_name shape_name (e ∷ es))) else least_name shape_name (e ∷ es)))
          (sym (same_if_equal name e.0 h))
          (here (has_shape_name shape_name e.0))
      go behind Greater h =
          ap (λ (o : Option (List ℕ)). if has_shape_name shape_name e.0 then Some e.0 else o) behind
          ∙ later (ap is_le (above name e.0 Greater h)) (has_shape_name shape_name e.0) (has_shape_name shape_name name)

  -- the maps with one more entry
  pub kept-with_value : (old new : Names) (name : List ℕ) (x : X) (es : List (List ℕ × X)) → IsOrdered es → has_hash name ≡ true → KeepsLeast old name new → IsKept es old → IsKept (with_value name x es) new
  kept-with_value old new name x es ordered h keeps kept = record {
    shapes = AreNames-with_value name x es h kept.shapes;
    least = λ shape_name.
        keeps shape_name
        ∙ ap (λ (o : Option (List ℕ)). if has_shape_name shape_name name then Some (least_of name o) else o) (kept.least shape_name)
        ∙ sym (least-with_value shape_name name x es ordered);
  }

  -- the least name has the shape name
  least_has : (shape_name name : List ℕ) (es : List (List ℕ × X)) → least_name shape_name es ≡ Some name → has_shape_name shape_name name ≡ true
  least_has shape_name name [] h = absurd (cc h)
  least_has shape_name name (e ∷ es) h = go (least_has shape_name name es) (has_shape_name shape_name e.0) refl h
    where
      go : (least_name shape_name es ≡ Some name → has_shape_name shape_name name ≡ true) → (b : Bool) → has_shape_name shape_name e.0 ≡ b → (if b then Some e.0 else least_name shape_name es) ≡ Some name → has_shape_name shape_name name ≡ true
      go behind true q i = ap (has_shape_name shape_name) (sym (ap (λ (o : Option (List ℕ)). unwrap_or o []) i)) ∙ q
      go behind false q i = behind i

  -- under the least name stands the first entry with that shape name
  pub at_least : (shape_name name : List ℕ) (es : List (List ℕ × X)) → least_name shape_name es ≡ Some name → by_name name es ≡ option_map (λ e. e.1) (first_named shape_name es)
  at_least shape_name name [] h = refl
  at_least shape_name name (e ∷ es) h = go (at_least shape_name name es) (has_shape_name shape_name e.0) refl h
    where
      Behind : Type 0
      Behind = least_name shape_name es ≡ Some name → by_name name es ≡ option_map (λ f. f.1) (first_named shape_name es)

      apart : Behind → has_shape_name shape_name e.0 ≡ false → least_name shape_name es ≡ Some name → (b : Bool) → same_text name e.0 ≡ b → cond b (Some e.1) (by_name name es) ≡ option_map (λ f. f.1) (first_named shape_name es)
      apart behind q i true s = absurd (let lie : false ≡ true = sym q ∙ ap (has_shape_name shape_name) (sym ((bytes_eq-Decides name e.0).0 s)) ∙ least_has shape_name name es i in cc lie)
      apart behind q i false s = behind i

      go : Behind → (b : Bool) → has_shape_name shape_name e.0 ≡ b → (if b then Some e.0 else least_name shape_name es) ≡ Some name
          → cond (same_text name e.0) (Some e.1) (by_name name es) ≡ option_map (λ f. f.1) (cond b (Some e) (first_named shape_name es))
      go behind true q i =
          let same : name ≡ e.0 = sym (ap (λ (o : Option (List ℕ)). unwrap_or o []) i) in
          ap (λ b. cond b (Some e.1) (by_name name es)) ((bytes_eq-Decides name e.0).1 same)
      go behind false q i = apart behind q i (same_text name e.0) refl

  -- no entry has a shape name for which no name is kept
  pub none_least : (shape_name : List ℕ) (es : List (List ℕ × X)) → least_name shape_name es ≡ None → option_map (λ e. e.1) (first_named shape_name es) ≡ None
  none_least shape_name [] h = refl
  none_least shape_name (e ∷ es) h = go (none_least shape_name es) (has_shape_name shape_name e.0) h
    where
      go : (least_name shape_name es ≡ None → option_map (λ f. f.1) (first_named shape_name es) ≡ None) → (b : Bool) → (if b then Some e.0 else least_name shape_name es) ≡ None → option_map (λ f. f.1) (cond b (Some e) (first_named shape_name es)) ≡ None
      go behind true i = absurd (cc i)
      go behind false i = behind i

-- a lesser name of that shape name is kept
pub stays_least : (old : Names) (name : List ℕ) → option_map_or (is_not_above name) (kept_name old (shape_name_in name)) false ≡ true → KeepsLeast old name old
stays_least old name h shape_name = go (has_shape_name shape_name name) refl
  where
    stays : (o : Option (List ℕ)) → option_map_or (is_not_above name) o false ≡ true → o ≡ Some (least_of name o)
    stays None i = absurd (cc i)
    stays (Some kept) i = rw i refl

    go : (b : Bool) → has_shape_name shape_name name ≡ b → kept_name old shape_name ≡ (if b then Some (least_of name (kept_name old shape_name)) else kept_name old shape_name)
    go false q = refl
    go true q =
        let same : shape_name ≡ shape_name_in name = (bytes_eq-Decides shape_name (shape_name_in name)).0 q in
        stays (kept_name old shape_name) (ap (λ (t : List ℕ). option_map_or (is_not_above name) (kept_name old t) false) same ∙ h)

-- the name is kept where no lesser one of its shape name was
pub becomes_least : (old new : Names) (key value : String Global) (name : List ℕ) → option_map_or (is_not_above name) (kept_name old (shape_name_in name)) false ≡ false → string_bytes key ≡ shape_name_in name → string_bytes value ≡ name
    → Updates string_cmp old new key (Some value) → KeepsLeast old name new
becomes_least old new key value name h is_key is_value updates shape_name =
    ap (option_map string_bytes) (btree_map_updates_text (string_bytes key) old new (Some value) updates shape_name)
    ∙ ap (λ (t : List ℕ). option_map string_bytes (cond (bytes_eq t shape_name) (Some value) (get_by_text old shape_name))) is_key
    ∙ go (bytes_eq own shape_name) refl (same_text shape_name own) refl
  where
    own : List ℕ
    own = shape_name_in name

    becomes : (o : Option (List ℕ)) → option_map_or (is_not_above name) o false ≡ false → name ≡ least_of name o
    becomes None i = refl
    becomes (Some kept) i = rw i refl

    go : (b : Bool) → bytes_eq own shape_name ≡ b → (t : Bool) → same_text shape_name own ≡ t
        → option_map string_bytes (cond b (Some value) (get_by_text old shape_name)) ≡ (if t then Some (least_of name (kept_name old shape_name)) else kept_name old shape_name)
    go true e true f =
        let same : own ≡ shape_name = (bytes_eq-Decides own shape_name).0 e in
        ap Some (is_value ∙ becomes (kept_name old shape_name) (ap (λ (t : List ℕ). option_map_or (is_not_above name) (kept_name old t) false) (sym same) ∙ h))
    go false e false f = refl
    go true e false f = absurd (let lie : false ≡ true = sym f ∙ (bytes_eq-Decides shape_name own).1 (sym ((bytes_eq-Decides own shape_name).0 e)) in cc lie)
    go false e true f = absurd (let lie : false ≡ true = sym e ∙ (bytes_eq-Decides own shape_name).1 (sym ((bytes_eq-Decides shape_name own).0 f)) in cc lie)

-- a map of std with one more entry
pub put_entry : {X : Type 0} (old new : List (String Global × X)) (k : String Global) (x : X) → new ≡ insert_entry string_cmp old k x → entries_kept new ≡ with_value (string_bytes k) x (entries_kept old)
put_entry old new k x e = ap entries_kept e ∙ kept-insert_entry old k x

-- both maps with one more entry
pub put_kept : {X : Type 0} (old new : List (String Global × X)) (k : String Global) (x : X) (name : List ℕ) (least renewed : Names) → IsStrictlySortedBy string_cmp (keys_of old) → has_hash (string_bytes k) ≡ true → name ≡ string_bytes k
    → new ≡ insert_entry string_cmp old k x → KeepsLeast least name renewed → IsKept (entries_kept old) least → IsKept (entries_kept new) renewed
put_kept {X} old new k x name least renewed ordered h is e keeps kept =
    subst (λ (es : List (List ℕ × X)). IsKept es renewed) (sym (put_entry old new k x e)) (kept-with_value least renewed (string_bytes k) x (entries_kept old) (IsOrdered-pairs_of (λ (x : X). x) old ordered) h (subst (λ (n : List ℕ). KeepsLeast least n renewed) is keeps) kept)

-- the names are those of the entries as long as what is kept stays
pub IsKept-same : {X : Type 0} (entries : List (List ℕ × X)) (old new : Names) → new.entries ≡ old.entries → IsKept entries old → IsKept entries new
IsKept-same entries old new same kept = record {
  shapes = kept.shapes;
  least = λ shape_name. ap (λ (es : List (String Global × String Global)). option_map string_bytes (lookup (is_at (λ (k : String Global). slice_cmp nat_cmp shape_name (string_bytes k))) es)) same ∙ kept.least shape_name;
}

-- no entry has a name for whose shape name no name is kept
pub none_kept : {X : Type 0} (name : List ℕ) (es : List (List ℕ × X)) → least_name (shape_name_in name) es ≡ None → by_name name es ≡ None
none_kept name [] h = refl
none_kept {X} name (e ∷ es) h = go (none_kept name es) (has_shape_name (shape_name_in name) e.0) refl h (same_text name e.0) refl
  where
    go : (least_name (shape_name_in name) es ≡ None → by_name name es ≡ None) → (b : Bool) → has_shape_name (shape_name_in name) e.0 ≡ b → (if b then Some e.0 else least_name (shape_name_in name) es) ≡ None
        → (c : Bool) → same_text name e.0 ≡ c → cond c (Some e.1) (by_name name es) ≡ None
    go behind true q i c s = absurd (cc i)
    go behind false q i false s = behind i
    go behind false q i true s =
        let same : name ≡ e.0 = (bytes_eq-Decides name e.0).0 s in
        absurd (let lie : false ≡ true = sym q ∙ (bytes_eq-Decides (shape_name_in name) (shape_name_in e.0)).1 (ap shape_name_in same) in cc lie)

absent : {Y : Type 0} (b : Bool) (y : Y) (o : Option Y) → cond b (Some y) o ≡ None → (b ≡ false) × (o ≡ None)
absent true y o e = absurd (cc e)
absent false y o e = (refl, e)

-- whether a key is this one
abbrev is_key : String Global → String Global → Bool
is_key k q = is_eq (string_cmp k q)

is_key-itself : (k : String Global) → is_key k k ≡ true
is_key-itself k = is_eq-slice_cmp (string_bytes k) (string_bytes k) ∙ (bytes_eq-Decides (string_bytes k) (string_bytes k)).1 refl

-- an entry under a new key, put and taken out again
out_again : {X : Type 0} (es : List (String Global × X)) (k : String Global) (x : X) → by_name (string_bytes k) (entries_kept es) ≡ None → remove_entry (is_key k) (insert_entry string_cmp es k x) ≡ es
out_again [] k x none = rw (is_key-itself k) refl
out_again {X} (e ∷ es) k x none =
    let apart = absent (same_text (string_bytes k) (string_bytes e.0)) e.1 (by_name (string_bytes k) (entries_kept es)) none in
    go (out_again es k x apart.1) (is_eq-slice_cmp (string_bytes k) (string_bytes e.0) ∙ apart.0) (string_cmp k e.0) refl
  where
    go : remove_entry (is_key k) (insert_entry string_cmp es k x) ≡ es → is_key k e.0 ≡ false → (o : Ordering) → string_cmp k e.0 ≡ o
        → remove_entry (is_key k) (match_ordering o ((k, x) ∷ e ∷ es) ((e.0, x) ∷ es) (e ∷ insert_entry string_cmp es k x)) ≡ e ∷ es
    go behind other Less s = rw (is_key-itself k) refl
    go behind other Equal s = absurd (let lie : false ≡ true = sym other ∙ ap is_eq s in cc lie)
    go behind other Greater s = rw other (ap (λ (fs : List (String Global × X)). e ∷ fs) behind)

-- where no memory was there to keep the name, the entries are as before
pub undone : {X : Type 0} (old put new : List (String Global × X)) (names : Names) (k shape_name : String Global) (x : X) (query : List ℕ) → string_bytes shape_name ≡ shape_name_in (string_bytes k) → query ≡ string_bytes k → lookup (is_key shape_name) names.entries ≡ None → IsKept (entries_kept old) names
    → put ≡ insert_entry string_cmp old k x → new ≡ remove_entry (is_at (λ (q : String Global). slice_cmp nat_cmp query (string_bytes q))) put → new ≡ old
undone {X} old put new names k shape_name x query is_shape is none kept e f =
    let no_name : kept_name names (shape_name_in (string_bytes k)) ≡ None = subst (λ (t : List ℕ). kept_name names t ≡ None) is_shape (ap (option_map string_bytes) none) in
    let new_name = none_kept (string_bytes k) (entries_kept old) (sym (kept.least (shape_name_in (string_bytes k))) ∙ no_name) in
    f
    ∙ ap (λ (t : List ℕ). remove_entry (is_at (λ (q : String Global). slice_cmp nat_cmp t (string_bytes q))) put) is
    ∙ ap (remove_entry (is_key k)) e
    ∙ out_again old k x new_name
