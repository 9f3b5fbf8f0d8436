-- Paths, a position at a time.
use Rattle.std.proofs.Common.{Less, nat_cmp}
use Rattle.smithy_document.proofs.Common.{◌≡◌, ℕ, suc, zero, ◌+◌, ◌<◌, ◌≤◌, List, [], ◌∷◌, ◌++◌, length, drop, get_or, slice_get, Option, Some, None, false, ◌-◌, ◌⊎◌, inl, inr, refl, sym, ap, ◌∙◌, subst, arith, IfSome, option_map_or, unwrap_or, ordering_reverse, is_eq, slice_cmp, AllByRecursion, lookup, nat_list_cmp_total, drop_more, length-append, slice_get_within, get_or_from_slice_get, slice_get_cases, slice_get_past, drop_of_length-le, Document, nesting, list_of_items, list_of_members, object_in, IsOrdered, same_text, same_self, Spot, Part, nameless, parts_of, Names, name_at, part_in, named, rest_in, step_in, at_path}
use Rattle.std.specs.Option.{option_and_then}
use Rattle.std.specs.Global.{Vec}
use Rattle.std.specs.List.Sorted.{IsStrictlySortedBy}
use Rattle.std.specs.Map.{keys_of}
use Rattle.std.proofs.lemmas.Map.Text.{is_eq-slice_cmp}
use Rattle.smithy_types.specs.Documents as doc
use Rattle.smithy_document.proofs.PartLemmas.{IsCanonical, at_name, parts_nested, parts_canonical}
use Rattle.smithy_document.proofs.WayLemmas.{end_keeps, last_keeps}

-- ---- the part at a position

pub count_nameless : (ds : doc.Items) → length (nameless ds) ≡ length (list_of_items ds)
count_nameless doc.no_items = refl
count_nameless (doc.item d ds) = ap suc (count_nameless ds)

pub drop_first : {X : Type 0} (xs : List X) (i : ℕ) (x : X) → slice_get xs i ≡ Some x → drop i xs ≡ x ∷ drop (i + 1) xs
drop_first xs i x h = drop_more xs i x (slice_get_within xs i x h) ∙ ap (λ y. y ∷ drop (i + 1) xs) (get_or_from_slice_get xs i x x h)

pub drop_none : {X : Type 0} (xs : List X) (i : ℕ) → slice_get xs i ≡ None → drop i xs ≡ []
drop_none {X} xs i h = go (slice_get_cases xs i).1
  where
    go : ((x : X) × (i < length xs) × (slice_get xs i ≡ Some x) × (get_or xs i x ≡ x)) ⊎ ((length xs ≤ i) × (slice_get xs i ≡ None)) → drop i xs ≡ []
    go (inl c) = let no : None ≡ Some c.0 = sym h ∙ c.2 in absurd (cc no)
    go (inr c) = drop_of_length-le xs c.0

pub part_within : (c : Document) (names : Names) (i : ℕ) (d : Document) → part_in c names i ≡ Some d → nesting d < nesting c
part_within c names i d h = subst (λ o. IfSome o (λ x. nesting x < nesting c)) h (at_name (λ x. nesting x < nesting c) c names i (parts_nested c))

step_canonical : (d : Document) (p : Spot) → IsCanonical d → IsCanonical (step_in d p)
step_canonical d p h = last_keeps IsCanonical (part_in d p.names) p.next d h (at_name IsCanonical d p.names (p.next - 1) (parts_canonical d h))

pub path_canonical : (d : Document) (ps : List Spot) → IsCanonical d → IsCanonical (at_path d ps)
path_canonical = end_keeps IsCanonical step_in step_canonical

-- ---- the parts that are left

item_first : (ds : doc.Items) (i : ℕ) (d : Document) → slice_get (list_of_items ds) i ≡ Some d → slice_get (nameless ds) i ≡ Some ([], d)
item_first doc.no_items i d h = absurd (cc h)
item_first (doc.item e ds) zero d h = let is : e ≡ d = cc h in ap (λ x. Some ([], x)) is
item_first (doc.item e ds) (suc i) d h = item_first ds i d h

item_none : (ds : doc.Items) (i : ℕ) → slice_get (list_of_items ds) i ≡ None → slice_get (nameless ds) i ≡ None
item_none doc.no_items i h = refl
item_none (doc.item e ds) zero h = absurd (cc h)
item_none (doc.item e ds) (suc i) h = item_none ds i h

named_first : (ps : List Part) (names : List (List ℕ)) (i : ℕ) (o : Option (List ℕ)) (d : Document) → slice_get names i ≡ o → option_and_then (λ name. lookup (same_text name) ps) o ≡ Some d
    → named ps (drop i names) ≡ (unwrap_or o [], d) ∷ named ps (drop (i + 1) names)
named_first ps names i None d is h = absurd (cc h)
named_first ps names i (Some name) d is h =
    ap (named ps) (drop_first names i name is) ∙ ap (λ o. option_map_or (λ x. (name, x) ∷ named ps (drop (i + 1) names)) o []) h

named_none : (ps : List Part) (names : List (List ℕ)) (i : ℕ) (o : Option (List ℕ)) → slice_get names i ≡ o → option_and_then (λ name. lookup (same_text name) ps) o ≡ None → named ps (drop i names) ≡ []
named_none ps names i None is h = ap (named ps) (drop_none names i is)
named_none ps names i (Some name) is h =
    ap (named ps) (drop_first names i name is) ∙ ap (λ o. option_map_or (λ x. (name, x) ∷ named ps (drop (i + 1) names)) o []) h

pub rest_first : (c : Document) (names : Names) (i : ℕ) (d : Document) → part_in c names i ≡ Some d → rest_in c names i ≡ (name_at names i, d) ∷ rest_in c names (i + 1)
rest_first (doc.array ds) None i d h = drop_first (nameless ds) i ([], d) (item_first ds i d h)
rest_first (doc.object ms) (Some names) i d h = named_first (list_of_members ms) names.items i (slice_get names.items i) d refl h
rest_first _ None i d h = absurd (cc h)
rest_first _ (Some names) i d h = absurd (cc h)

pub rest_none : (c : Document) (names : Names) (i : ℕ) → part_in c names i ≡ None → rest_in c names i ≡ []
rest_none (doc.array ds) None i h = drop_none (nameless ds) i (item_none ds i h)
rest_none (doc.object ms) (Some names) i h = named_none (list_of_members ms) names.items i (slice_get names.items i) refl h
rest_none _ None i h = refl
rest_none _ (Some names) i h = refl

-- ---- all names of an object

apart : (k name : List ℕ) → slice_cmp nat_cmp k name ≡ Less → same_text name k ≡ false
apart k name h = sym (is_eq-slice_cmp name k) ∙ ap is_eq (nat_list_cmp_total.antisymm name k ∙ ap ordering_reverse h)

named_past : (p : Part) (ps : List Part) (names : List (List ℕ)) → AllByRecursion (λ y. slice_cmp nat_cmp p.0 y ≡ Less) names → named (p ∷ ps) names ≡ named ps names
named_past p ps [] h = refl
named_past p ps (name ∷ names) h =
    rw (apart p.0 name h.0) (ap (λ rest. option_map_or (λ d. (name, d) ∷ rest) (lookup (same_text name) ps) []) (named_past p ps names h.1))

pub all_named : (ps : List Part) → IsOrdered ps → named ps (keys_of ps) ≡ ps
unfolding IsStrictlySortedBy
all_named [] h = refl
all_named (p ∷ ps) h = rw (same_self p.0) (ap (λ rest. (p.0, p.1) ∷ rest) (named_past p ps (keys_of ps) h.0 ∙ all_named ps h.1))

pub all_members : (d : Document) (ms : doc.Members) (names : Vec (List ℕ)) → Some ms ≡ object_in d → names.items ≡ keys_of (list_of_members ms) → IsOrdered (list_of_members ms) → rest_in d (Some names) 0 ≡ parts_of d
all_members (doc.object ns) ms names is keys ordered =
    let same : ms ≡ ns = cc is in
    ap (λ x. named (list_of_members x) names.items) (sym same) ∙ ap (named (list_of_members ms)) keys ∙ all_named (list_of_members ms) ordered ∙ ap list_of_members same
all_members _ ms names is keys ordered = absurd (cc is)

pub no_members_named : (d : Document) → None ≡ object_in d → rest_in d None 0 ≡ parts_of d
no_members_named (doc.object ms) is = absurd (cc is)
no_members_named (doc.array ds) is = refl
no_members_named _ is = refl

pub past_items : (d : Document) (i : ℕ) → length (parts_of d) ≤ i → part_in d None i ≡ None
past_items (doc.array ds) i h = slice_get_past (list_of_items ds) i (subst (λ n. n ≤ i) (count_nameless ds) h)
past_items _ i h = refl

pub past_names : (d : Document) (names : Vec (List ℕ)) (i : ℕ) → length names.items ≤ i → part_in d (Some names) i ≡ None
past_names (doc.object ms) names i h = ap (option_and_then (λ name. lookup (same_text name) (list_of_members ms))) (slice_get_past names.items i h)
past_names _ names i h = refl

-- ---- the last position

pub last_item : {X : Type 0} (ps : List X) (p : X) → slice_get (ps ++ p ∷ []) (length (ps ++ p ∷ []) - 1) ≡ Some p
last_item {X} ps p =
    let l : length (ps ++ p ∷ []) ≡ length ps + 1 = length-append ps (p ∷ []) in
    let i : length (ps ++ p ∷ []) - 1 ≡ length ps = omega arith in
    ap (slice_get (ps ++ p ∷ [])) i ∙ at_end ps
  where
    at_end : (xs : List X) → slice_get (xs ++ p ∷ []) (length xs) ≡ Some p
    at_end [] = refl
    at_end (x ∷ xs) = at_end xs
