-- A value's document is nested no deeper than the value, and that of a normal form just as deep.
use Rattle.std.proofs.Common.{◌≡◌, refl, ◌∙◌, ap, subst, ℕ, suc, ◌≤◌, max, arith, Bool, true, false, cond, ◌&&◌, List, [], ◌∷◌, filter_map, Option, Some, None, option_map, option_and_then, is_some, Ok}
use Rattle.std.specs.List.{AllByRecursion, cons_option}
use Rattle.std.specs.Ordering.{nat_cmp, match_ordering}
use Rattle.std.specs.declared.cmp.Ordering.{Ordering}
use Rattle.std.specs.declared.cmp.Ordering.TheVariants.{Less, Equal, Greater}
use Rattle.std.specs.Cmp.Lexicographic.{slice_cmp}
use Rattle.std.proofs.lemmas.Bool.{and_parts}
use Rattle.smithy_types.specs.Documents as doc
use Rattle.smithy_types.specs.Documents.{Document, Members, items_of, put, put_all, members_of, list_of_members, nesting, items_nesting, members_nesting}
use Rattle.smithy_types.specs.Maps.{last_named}
use Rattle.smithy_types.specs.Results.{then_try, then_give}
use Rattle.smithy_types.specs.Texts.{same_text, are_distinct}
use Rattle.smithy_ids.specs.declared.shape_type.ShapeType.TheVariants as kind
use Rattle.smithy_schema.specs.Nodes.{Schema, element_of, key_of, value_of}
use Rattle.smithy_serde.specs.DocumentOf.{base64, document_of, elements_of, fields_of, entries_of, entries_behind, field_name, key_text}
use Rattle.smithy_serde.specs.NormalBody.{own_label, entry_writes, field_of, settled, settled_elements, settled_fields, settled_entries}
use Rattle.smithy_serde.specs.Shaped.{is_kind, fits_at, fields_at, has_distinct_fields, named_member, is_shaped, are_shaped, are_fields_shaped, are_entries_shaped}
use Rattle.smithy_serde.specs.StoredValues.{no_label}
use Rattle.smithy_serde.specs.Values as value
use Rattle.smithy_serde.specs.Values.{Label, Scalar, Value, scalar, list, structure, Writes, no_writes, write, writes_of, label_of, keys_of}
use Rattle.smithy_document.proofs.NamedPairs.{try_gave, give_gave, members_ordered, EntriesHave, BehindHave, entries_paired, FieldsHave, fields_paired}
use Rattle.smithy_document.proofs.OrderedPairs.{Pairs, looked, all_put, look_ordered, Beside, Aligned, all_aligned, Related, last_related}
use Rattle.smithy_recovery.specs.Shallow.{value_nesting, writes_nesting}

-- ---- objects

put_within : (n : ℕ) (k : List ℕ) (d : Document) (ms : Members) → nesting d ≤ n → members_nesting ms ≤ n → members_nesting (put k d ms) ≤ n
put_within n k d doc.no_members low all = omega arith
put_within n k d (doc.member l x ms) low all = go (slice_cmp nat_cmp k l) (put_within n k d ms low (omega arith))
  where
    go : (o : Ordering) → members_nesting (put k d ms) ≤ n → members_nesting (match_ordering o (doc.member k d (doc.member l x ms)) (doc.member l d ms) (doc.member l x (put k d ms))) ≤ n
    go Less later = omega arith
    go Equal later = omega arith
    go Greater later = omega arith

-- what is put into an object is nested no deeper than each part
all_within : (n : ℕ) (ps : Pairs Document) (ms : Members) → AllByRecursion (λ p. nesting p.1 ≤ n) ps → members_nesting ms ≤ n → members_nesting (put_all ps ms) ≤ n
all_within n [] ms low all = all
all_within n (p ∷ ps) ms low all = all_within n ps (put p.0 p.1 ms) low.1 (put_within n p.0 p.1 ms low.0 all)

-- and each member of an object is within it
members_within : (n : ℕ) (ms : Members) → members_nesting ms ≤ n → AllByRecursion (λ p. nesting p.1 ≤ n) (list_of_members ms)
members_within n doc.no_members low = tt
members_within n (doc.member k d ms) low = (omega arith, members_within n ms (omega arith))

looked_within : (n : ℕ) (name : List ℕ) (ps : Pairs Document) (d : Document) → AllByRecursion (λ p. nesting p.1 ≤ n) ps → looked name ps ≡ Some d → nesting d ≤ n
looked_within n name [] d low e = absurd (cc e)
looked_within n name (p ∷ ps) d low e = go (same_text p.0 name) (looked_within n name ps d low.1) e
  where
    go : (t : Bool) → (looked name ps ≡ Some d → nesting d ≤ n) → cond t (Some p.1) (looked name ps) ≡ Some d → nesting d ≤ n
    go true later h = let same : p.1 ≡ d = cc h in subst (λ x. nesting x ≤ n) same low.0
    go false later h = later h

-- the last document of a name is within the object of the pairs
last_within : (name : List ℕ) (ps : Pairs Document) (d : Document) → last_named name ps ≡ Some d → nesting d ≤ members_nesting (members_of ps)
last_within name ps d e =
    let low = members_within (members_nesting (members_of ps)) (members_of ps) (omega arith) in
    looked_within (members_nesting (members_of ps)) name (all_put ps []) d (subst (AllByRecursion (λ p. nesting p.1 ≤ members_nesting (members_of ps))) (members_ordered ps) low) (look_ordered name ps ∙ e)

-- ---- a document within its value

scalar_within : (s : Scalar) (d : Document) → document_of (scalar s) ≡ Ok d → nesting d ≤ value_nesting (scalar s)
scalar_within (value.document x) d e = let same : x ≡ d = cc e in subst (λ y. nesting y ≤ nesting x) same (omega arith)
scalar_within (value.boolean b) d e = let same : doc.boolean b ≡ d = cc e in subst (λ y. nesting y ≤ 0) same (omega arith)
scalar_within (value.whole width z) d e = let same : doc.number (doc.number_of z) ≡ d = cc e in subst (λ y. nesting y ≤ 0) same (omega arith)
scalar_within (value.big_integer t) d e = let same : doc.string t ≡ d = cc e in subst (λ y. nesting y ≤ 0) same (omega arith)
scalar_within (value.big_decimal t) d e = let same : doc.string t ≡ d = cc e in subst (λ y. nesting y ≤ 0) same (omega arith)
scalar_within (value.text t) d e = let same : doc.string t ≡ d = cc e in subst (λ y. nesting y ≤ 0) same (omega arith)
scalar_within (value.blob bytes) d e = let same : doc.string (base64 bytes) ≡ d = cc e in subst (λ y. nesting y ≤ 0) same (omega arith)
scalar_within (value.timestamp z) d e = let same : doc.number (doc.number_of z) ≡ d = cc e in subst (λ y. nesting y ≤ 0) same (omega arith)
scalar_within value.null d e = let same : doc.null ≡ d = cc e in subst (λ y. nesting y ≤ 0) same (omega arith)

mutual
  pub document_within : (v : Value) (d : Document) → document_of v ≡ Ok d → nesting d ≤ value_nesting v
  document_within (scalar s) d e = scalar_within s d e
  document_within (list ws) d e =
      let g = give_gave (elements_of ws) (λ ds. doc.array (items_of ds)) d e in
      let r : Ok (doc.array (items_of g.x)) ≡ Ok d = g.rest in
      let same : doc.array (items_of g.x) ≡ d = cc r in
      let low = elements_within ws g.x g.first in
      subst (λ x. nesting x ≤ suc (writes_nesting ws)) same (omega (arith, low))
  document_within (value.map ws) d e =
      let g = give_gave (entries_of ws) (λ ps. doc.object (members_of ps)) d e in
      let r : Ok (doc.object (members_of g.x)) ≡ Ok d = g.rest in
      let same : doc.object (members_of g.x) ≡ d = cc r in
      let low = all_within (writes_nesting ws) g.x doc.no_members (entries_within (writes_nesting ws) ws g.x (omega arith) g.first) (omega arith) in
      subst (λ x. nesting x ≤ suc (writes_nesting ws)) same (omega (arith, low))
  document_within (structure ws) d e =
      let g = give_gave (fields_of ws) (λ ps. doc.object (members_of ps)) d e in
      let r : Ok (doc.object (members_of g.x)) ≡ Ok d = g.rest in
      let same : doc.object (members_of g.x) ≡ d = cc r in
      let low = all_within (writes_nesting ws) g.x doc.no_members (fields_within (writes_nesting ws) ws g.x (omega arith) g.first) (omega arith) in
      subst (λ x. nesting x ≤ suc (writes_nesting ws)) same (omega (arith, low))

  elements_within : (ws : Writes) (ds : List Document) → elements_of ws ≡ Ok ds → items_nesting (items_of ds) ≤ writes_nesting ws
  elements_within no_writes [] e = omega arith
  elements_within no_writes (d ∷ ds) e = absurd (cc e)
  elements_within (write l v ws) ds e =
      let g = try_gave (document_of v) (λ d. then_give (elements_of ws) λ xs. d ∷ xs) ds e in
      let h = give_gave (elements_of ws) (λ xs. g.x ∷ xs) ds g.rest in
      let r : Ok (g.x ∷ h.x) ≡ Ok ds = h.rest in
      let same : g.x ∷ h.x ≡ ds = cc r in
      let one = document_within v g.x g.first in
      let rest = elements_within ws h.x h.first in
      subst (λ xs. items_nesting (items_of xs) ≤ max (value_nesting v) (writes_nesting ws)) same (omega (arith, one, rest))

  fields_within : (n : ℕ) (ws : Writes) (ps : Pairs Document) → writes_nesting ws ≤ n → fields_of ws ≡ Ok ps → AllByRecursion (λ p. nesting p.1 ≤ n) ps
  fields_within n no_writes [] low e = tt
  fields_within n no_writes (p ∷ ps) low e = absurd (cc e)
  fields_within n (write l v ws) ps low e =
      let g = try_gave (document_of v) (λ d. then_try (field_name l) λ name. then_give (fields_of ws) λ qs. (name, d) ∷ qs) ps e in
      let h = try_gave (field_name l) (λ name. then_give (fields_of ws) λ qs. (name, g.x) ∷ qs) ps g.rest in
      let j = give_gave (fields_of ws) (λ qs. (h.x, g.x) ∷ qs) ps h.rest in
      let r : Ok ((h.x, g.x) ∷ j.x) ≡ Ok ps = j.rest in
      let same : (h.x, g.x) ∷ j.x ≡ ps = cc r in
      let one = document_within v g.x g.first in
      subst (AllByRecursion (λ p. nesting p.1 ≤ n)) {x = (h.x, g.x) ∷ j.x} same (omega (arith, low, one), fields_within n ws j.x (omega (arith, low)) j.first)

  entries_within : (n : ℕ) (ws : Writes) (ps : Pairs Document) → writes_nesting ws ≤ n → entries_of ws ≡ Ok ps → AllByRecursion (λ p. nesting p.1 ≤ n) ps
  entries_within n no_writes [] low e = tt
  entries_within n no_writes (p ∷ ps) low e = absurd (cc e)
  entries_within n (write k key ws) ps low e =
      let g = try_gave (document_of key) (λ d. then_try (key_text d) λ t. entries_behind t ws) ps e in
      let h = try_gave (key_text g.x) (λ t. entries_behind t ws) ps g.rest in
      behind_within n h.x ws ps (omega (arith, low)) h.rest

  behind_within : (n : ℕ) (key : List ℕ) (ws : Writes) (ps : Pairs Document) → writes_nesting ws ≤ n → entries_behind key ws ≡ Ok ps → AllByRecursion (λ p. nesting p.1 ≤ n) ps
  behind_within n key no_writes ps low e = absurd (cc e)
  behind_within n key (write l v ws) ps low e =
      let g = try_gave (document_of v) (λ d. then_give (entries_of ws) λ qs. (key, d) ∷ qs) ps e in
      let h = give_gave (entries_of ws) (λ qs. (key, g.x) ∷ qs) ps g.rest in
      let r : Ok ((key, g.x) ∷ h.x) ≡ Ok ps = h.rest in
      let same : (key, g.x) ∷ h.x ≡ ps = cc r in
      let one = document_within v g.x g.first in
      subst (AllByRecursion (λ p. nesting p.1 ≤ n)) {x = (key, g.x) ∷ h.x} same (omega (arith, low, one), entries_within n ws h.x (omega (arith, low)) h.first)

-- ---- a normal form within its document

abbrev Within : Option Schema → Value → Type 0
Within here v = (d : Document) → is_shaped here v ≡ true → document_of v ≡ Ok d → value_nesting (settled here v) ≤ nesting d

abbrev EachWithin : Option Schema → Writes → Type 0
EachWithin element no_writes = Unit {0}
EachWithin element (write l v ws) = Within element v × EachWithin element ws

-- beside each name a value within its document
abbrev HasDepth : Beside Value Document
HasDepth name s d = value_nesting s ≤ nesting d

null_low : (here : Option Schema) → value_nesting (settled here (scalar value.null)) ≤ 0
null_low here = go (is_kind kind.Document here)
  where
    go : (t : Bool) → value_nesting (cond t (scalar (value.document doc.null)) (scalar value.null)) ≤ 0
    go true = omega arith
    go false = omega arith

scalar_low : (here : Option Schema) (s : Scalar) → Within here (scalar s)
scalar_low here value.null = λ d shaped e. let low = null_low here in omega (arith, low)
scalar_low here (value.document x) = λ d shaped e. let same : x ≡ d = cc e in subst (λ y. nesting x ≤ nesting y) same (omega arith)
scalar_low here _ = λ d shaped e. omega arith

elements_low : (element : Option Schema) (ws : Writes) (ds : List Document) → EachWithin element ws → are_shaped element ws ≡ true → elements_of ws ≡ Ok ds → writes_nesting (settled_elements element ws) ≤ items_nesting (items_of ds)
elements_low element no_writes ds low shaped e = omega arith
elements_low element (write l v ws) ds low shaped e =
    let g = try_gave (document_of v) (λ d. then_give (elements_of ws) λ xs. d ∷ xs) ds e in
    let h = give_gave (elements_of ws) (λ xs. g.x ∷ xs) ds g.rest in
    let r : Ok (g.x ∷ h.x) ≡ Ok ds = h.rest in
    let same : g.x ∷ h.x ≡ ds = cc r in
    let s = and_parts (is_shaped element v) (are_shaped element ws) shaped in
    let one = low.0 g.x s.0 g.first in
    let rest = elements_low element ws h.x low.1 s.1 h.first in
    subst (λ xs. max (value_nesting (settled element v)) (writes_nesting (settled_elements element ws)) ≤ items_nesting (items_of xs)) same (omega (arith, one, rest))

list_low : (here : Option Schema) (ws : Writes) → EachWithin (option_and_then element_of here) ws → Within here (list ws)
list_low here ws low d shaped e =
    let element = option_and_then element_of here in
    let a = and_parts (fits_at here (list ws) && is_some element) (are_shaped element ws) shaped in
    let g = give_gave (elements_of ws) (λ ds. doc.array (items_of ds)) d e in
    let r : Ok (doc.array (items_of g.x)) ≡ Ok d = g.rest in
    let same : doc.array (items_of g.x) ≡ d = cc r in
    let rest = elements_low element ws g.x low a.1 g.first in
    subst (λ x. suc (writes_nesting (settled_elements element ws)) ≤ nesting x) same (omega (arith, rest))

entries_low : (k l : Label) (n : ℕ) (es : Pairs Value) (ps : Pairs Document) → Aligned HasDepth es ps → AllByRecursion (λ p. nesting p.1 ≤ n) ps → writes_nesting (entry_writes k l es) ≤ n
entries_low k l n [] [] aligned low = omega arith
entries_low k l n [] (p ∷ ps) aligned low = absurd aligned
entries_low k l n (e ∷ es) [] aligned low = absurd aligned
entries_low k l n (e ∷ es) (p ∷ ps) aligned low =
    let one = aligned.1 in
    let here = low.0 in
    let rest = entries_low k l n es ps aligned.2 low.1 in
    omega (arith, one, here, rest)

map_low : (here : Option Schema) (ws : Writes) → EntriesHave (Within (option_and_then value_of here)) ws → Within here (value.map ws)
map_low here ws low d shaped e =
    let values = option_and_then value_of here in
    let k = own_label (option_and_then key_of here) no_label in
    let l = own_label values no_label in
    let a = and_parts (fits_at here (value.map ws) && is_kind kind.String (option_and_then key_of here) && is_some values && are_distinct (keys_of ws)) (are_entries_shaped values ws) shaped in
    let g = give_gave (entries_of ws) (λ ps. doc.object (members_of ps)) d e in
    let r : Ok (doc.object (members_of g.x)) ≡ Ok d = g.rest in
    let same : doc.object (members_of g.x) ≡ d = cc r in
    let paired = entries_paired HasDepth (Within values) values (λ name v x t sh h. t x sh h) ws g.x low a.1 g.first in
    let n = members_nesting (members_of g.x) in
    let within = subst (AllByRecursion (λ p. nesting p.1 ≤ n)) (members_ordered g.x) (members_within n (members_of g.x) (omega arith)) in
    let rest = entries_low k l n (all_put (settled_entries values ws) []) (all_put g.x []) (all_aligned HasDepth (settled_entries values ws) g.x [] [] paired tt) within in
    subst (λ x. suc (writes_nesting (entry_writes k l (all_put (settled_entries values ws) []))) ≤ nesting x) same (omega (arith, rest))

-- the last value of each name is within the object
abbrev AreLow : ℕ → Pairs Value → Type 0
AreLow n fields = (name : List ℕ) (u : Value) → last_named name fields ≡ Some u → value_nesting u ≤ n

related_low : (n : ℕ) (name : List ℕ) (x : Option Value) (y : Option Document) (u : Value) → Related HasDepth name x y → x ≡ Some u → ((d : Document) → y ≡ Some d → nesting d ≤ n) → value_nesting u ≤ n
related_low n name None y u related e low = absurd (cc e)
related_low n name (Some v) None u related e low = absurd related
related_low n name (Some v) (Some d) u related e low =
    let same : v ≡ u = cc e in
    let one = related in
    let here = low d refl in
    subst (λ w. value_nesting w ≤ n) same (omega (arith, one, here))

fields_low : (n : ℕ) (fields : Pairs Value) → AreLow n fields → (ms : List Schema) → writes_nesting (writes_of (filter_map (field_of fields) ms)) ≤ n
fields_low n fields low [] = omega arith
fields_low n fields low (m ∷ ms) = go m.node.member_name (fields_low n fields low ms)
  where
    later : List value.Write
    later = filter_map (field_of fields) ms

    go : (o : Option (List ℕ)) → writes_nesting (writes_of later) ≤ n
        → writes_nesting (writes_of (cons_option (option_map (λ v. record { label = label_of m; value = v }) (option_and_then (λ name. last_named name fields) o)) later)) ≤ n
    go None rest = rest
    go (Some name) rest = by (last_named name fields) refl
      where
        by : (o : Option Value) → last_named name fields ≡ o → writes_nesting (writes_of (cons_option (option_map (λ v. record { label = label_of m; value = v }) o) later)) ≤ n
        by None e = rest
        by (Some v) e = let one = low name v e in omega (arith, one, rest)

-- the fields of a structure are within the object that its document is
record Object (here : Option Schema) (ws : Writes) (d : Document) : Type 0 where
  n : ℕ
  is : suc n ≡ nesting d
  low : AreLow n (settled_fields here ws)

structure_object : (here : Option Schema) (ws : Writes) (d : Document) → FieldsHave Within here ws → is_shaped here (structure ws) ≡ true → document_of (structure ws) ≡ Ok d → Object here ws d
structure_object here ws d low shaped e =
    let a = and_parts (fits_at here (structure ws) && has_distinct_fields here) (are_fields_shaped here ws) shaped in
    let g = give_gave (fields_of ws) (λ ps. doc.object (members_of ps)) d e in
    let r : Ok (doc.object (members_of g.x)) ≡ Ok d = g.rest in
    let same : doc.object (members_of g.x) ≡ d = cc r in
    let paired = fields_paired HasDepth Within here (λ name v x t there sh h. t x sh h) ws g.x low a.1 g.first in
    record {
      n = members_nesting (members_of g.x);
      is = ap nesting same;
      low = λ name u has.
          related_low (members_nesting (members_of g.x)) name (last_named name (settled_fields here ws)) (last_named name g.x) u
          (last_related HasDepth name (settled_fields here ws) g.x paired) has (last_within name g.x);
    }

structure_low : (here : Option Schema) (ws : Writes) → FieldsHave Within here ws → Within here (structure ws)
structure_low here ws low d shaped e =
    let o = structure_object here ws d low shaped e in
    let rest = fields_low o.n (settled_fields here ws) o.low (fields_at here) in
    let is = o.is in
    omega (arith, rest, is)

mutual
  within : (here : Option Schema) (v : Value) → Within here v
  within here (scalar s) = scalar_low here s
  within here (list ws) = list_low here ws (each_within (option_and_then element_of here) ws)
  within here (value.map ws) = map_low here ws (entries_are_within (option_and_then value_of here) ws)
  within here (structure ws) = structure_low here ws (fields_are_within here ws)

  each_within : (element : Option Schema) (ws : Writes) → EachWithin element ws
  each_within element no_writes = tt
  each_within element (write l v ws) = (within element v, each_within element ws)

  entries_are_within : (values : Option Schema) (ws : Writes) → EntriesHave (Within values) ws
  entries_are_within values no_writes = tt
  entries_are_within values (write k key ws) = behind_are_within values ws

  behind_are_within : (values : Option Schema) (ws : Writes) → BehindHave (Within values) ws
  behind_are_within values no_writes = tt
  behind_are_within values (write l v ws) = (within values v, entries_are_within values ws)

  fields_are_within : (here : Option Schema) (ws : Writes) → FieldsHave Within here ws
  fields_are_within here no_writes = tt
  fields_are_within here (write l v ws) = (within (named_member here l.member_name) v, fields_are_within here ws)

-- the normal form of a value that follows its node is no deeper than the value's document
pub settled_within : (n : Schema) (v : Value) (d : Document) → is_shaped (Some n) v ≡ true → document_of v ≡ Ok d → value_nesting (settled (Some n) v) ≤ nesting d
settled_within n v d shaped e = within (Some n) v d shaped e

-- and what it has of a field is one level less
pub field_within : (n : Schema) (ws : Writes) (d : Document) (name : List ℕ) (u : Value) → is_shaped (Some n) (structure ws) ≡ true → document_of (structure ws) ≡ Ok d
    → last_named name (settled_fields (Some n) ws) ≡ Some u → suc (value_nesting u) ≤ nesting d
field_within n ws d name u shaped e has =
    let o = structure_object (Some n) ws d (fields_are_within (Some n) ws) shaped e in
    let low = o.low name u has in
    let is = o.is in
    omega (arith, low, is)
