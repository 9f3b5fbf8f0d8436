-- The document of a value that follows its node is canonical.
use Rattle.smithy_document.proofs.Common.{◌≡◌, refl, sym, ap, subst, ◌∙◌, ℕ, true, ◌&&◌, List, [], ◌∷◌, Option, Some, option_and_then, is_some, Result, Ok, ℤ, pos, negsuc, nat_cmp, match_ordering, Ordering, Less, Equal, Greater, slice_cmp, and_parts, and_from, are_distinct, then_give, Document, Members, items_of, put, put_all, members_of, number_of, is_canonical_number, is_canonical, are_canonical_items, are_canonical_members, Schema, element_of, key_of, value_of, Scalar, Value, Writes, scalar, list, structure, no_writes, write, keys_of, DocumentFault, document_of, elements_of, entries_of, fields_of, scalar_document, is_shaped, are_shaped, are_fields_shaped, are_entries_shaped, fits_at, has_distinct_fields, is_kind, named_member}
use Rattle.smithy_types.specs.Documents as doc
use Rattle.smithy_ids.specs.declared.shape_type.ShapeType.TheVariants as kind
use Rattle.smithy_serde.specs.Values as value
use Rattle.smithy_document.proofs.FieldOrder.{Named}
use Rattle.smithy_document.proofs.NamedPairs.{try_gave, give_gave, EntriesHave, BehindHave, entries_paired, FieldsHave, fields_paired}
use Rattle.smithy_document.proofs.OrderedPairs.{Pairs, Beside, Aligned}

abbrev Canonical : Option Schema → Value → Type 0
Canonical here v = (d : Document) → is_shaped here v ≡ true → document_of v ≡ Ok d → is_canonical d ≡ true

pub number_canonical : (z : ℤ) → is_canonical_number (number_of z) ≡ true
number_canonical (pos n) = refl
number_canonical (negsuc n) = refl

scalar_canonical : (here : Option Schema) (x : Scalar) → is_shaped here (scalar x) ≡ true → is_canonical (scalar_document x) ≡ true
scalar_canonical here (value.whole w z) e = number_canonical z
scalar_canonical here (value.timestamp z) e = number_canonical z
scalar_canonical here (value.document d) e = (and_parts (fits_at here (scalar (value.document d))) (is_canonical d) e).1
scalar_canonical here _ e = refl

-- ---- lists

abbrev EachCanonical : Option Schema → Writes → Type 0
EachCanonical element no_writes = Unit {0}
EachCanonical element (write l v ws) = Canonical element v × EachCanonical element ws

elements_canonical : (element : Option Schema) (ws : Writes) (ds : List Document) → EachCanonical element ws → are_shaped element ws ≡ true → elements_of ws ≡ Ok ds → are_canonical_items (items_of ds) ≡ true
elements_canonical element no_writes ds each shaped e = let same : [] ≡ ds = cc e in ap (λ xs. are_canonical_items (items_of xs)) (sym same)
elements_canonical element (write l v ws) ds each shaped e =
    let g = try_gave (document_of v) (λ d. then_give (elements_of ws) λ es. d ∷ es) ds e in
    let h = give_gave (elements_of ws) (λ es. g.x ∷ es) ds g.rest in
    let r : Ok (g.x ∷ h.x) ≡ Ok ds = h.rest in
    let same : g.x ∷ h.x ≡ ds = cc r in
    let s = and_parts (is_shaped element v) (are_shaped element ws) shaped in
    ap (λ xs. are_canonical_items (items_of xs)) (sym same)
    ∙ and_from (is_canonical g.x) (are_canonical_items (items_of h.x)) (each.0 g.x s.0 g.first) (elements_canonical element ws h.x each.1 s.1 h.first)

-- ---- maps and structures

abbrev HasCanonical : Beside Value Document
HasCanonical name s d = is_canonical d ≡ true

pub put_canonical : (k : List ℕ) (d : Document) (ms : Members) → is_canonical d ≡ true → are_canonical_members ms ≡ true → are_canonical_members (put k d ms) ≡ true
put_canonical k d doc.no_members one all = and_from (is_canonical d) true one refl
put_canonical k d (doc.member l x ms) one all = go (slice_cmp nat_cmp k l) (put_canonical k d ms one parts.1)
  where
    parts : (is_canonical x ≡ true) × (are_canonical_members ms ≡ true)
    parts = and_parts (is_canonical x) (are_canonical_members ms) all

    go : (o : Ordering) → are_canonical_members (put k d ms) ≡ true → are_canonical_members (match_ordering o (doc.member k d (doc.member l x ms)) (doc.member l d ms) (doc.member l x (put k d ms))) ≡ true
    go Less rest = and_from (is_canonical d) (is_canonical x && are_canonical_members ms) one all
    go Equal rest = and_from (is_canonical d) (are_canonical_members ms) one parts.1
    go Greater rest = and_from (is_canonical x) (are_canonical_members (put k d ms)) parts.0 rest

all_canonical : (fs : List Named) (ps : Pairs Document) (ms : Members) → Aligned HasCanonical fs ps → are_canonical_members ms ≡ true → are_canonical_members (put_all ps ms) ≡ true
all_canonical [] [] ms aligned all = all
all_canonical [] (p ∷ ps) ms aligned all = absurd aligned
all_canonical (f ∷ fs) [] ms aligned all = absurd aligned
all_canonical (f ∷ fs) (p ∷ ps) ms aligned all = all_canonical fs ps (put p.0 p.1 ms) aligned.2 (put_canonical p.0 p.1 ms aligned.1 all)

-- ---- all of them

gave_canonical : {A : Type 0} (r : Result A DocumentFault) (f : A → Document) (d : Document) → ((x : A) → r ≡ Ok x → is_canonical (f x) ≡ true) → then_give r f ≡ Ok d → is_canonical d ≡ true
gave_canonical r f d each e =
    let g = give_gave r f d e in
    let h : Ok (f g.x) ≡ Ok d = g.rest in
    let same : f g.x ≡ d = cc h in
    subst (λ x. is_canonical x ≡ true) same (each g.x g.first)

mutual
  canonical : (here : Option Schema) (v : Value) → Canonical here v
  canonical here (scalar x) d shaped e = let same : scalar_document x ≡ d = cc e in ap is_canonical (sym same) ∙ scalar_canonical here x shaped
  canonical here (list ws) d shaped e =
      let element : Option Schema = option_and_then element_of here in
      let a = and_parts (fits_at here (list ws) && is_some element) (are_shaped element ws) shaped in
      gave_canonical (elements_of ws) (λ ds. doc.array (items_of ds)) d (λ ds is. elements_canonical element ws ds (each_canonical element ws) a.1 is) e
  canonical here (value.map ws) d shaped e =
      let values : Option Schema = option_and_then value_of here in
      let a = and_parts (fits_at here (value.map ws) && is_kind kind.String (option_and_then key_of here) && is_some values && are_distinct (keys_of ws)) (are_entries_shaped values ws) shaped in
      gave_canonical (entries_of ws) (λ ps. doc.object (members_of ps)) d
      (λ ps is. all_canonical _ ps doc.no_members (entries_paired HasCanonical (Canonical values) values (λ name v x has sh h. has x sh h) ws ps (entries_canonical values ws) a.1 is) refl) e
  canonical here (structure ws) d shaped e =
      let a = and_parts (fits_at here (structure ws) && has_distinct_fields here) (are_fields_shaped here ws) shaped in
      gave_canonical (fields_of ws) (λ ps. doc.object (members_of ps)) d
      (λ ps is. all_canonical _ ps doc.no_members (fields_paired HasCanonical Canonical here (λ name v x has there sh h. has x sh h) ws ps (fields_canonical here ws) a.1 is) refl) e

  each_canonical : (element : Option Schema) (ws : Writes) → EachCanonical element ws
  each_canonical element no_writes = tt
  each_canonical element (write l v ws) = (canonical element v, each_canonical element ws)

  entries_canonical : (values : Option Schema) (ws : Writes) → EntriesHave (Canonical values) ws
  entries_canonical values no_writes = tt
  entries_canonical values (write k key ws) = behind_canonical values ws

  behind_canonical : (values : Option Schema) (ws : Writes) → BehindHave (Canonical values) ws
  behind_canonical values no_writes = tt
  behind_canonical values (write l v ws) = (canonical values v, entries_canonical values ws)

  fields_canonical : (here : Option Schema) (ws : Writes) → FieldsHave Canonical here ws
  fields_canonical here no_writes = tt
  fields_canonical here (write l v ws) = (canonical (named_member here l.member_name) v, fields_canonical here ws)

pub canonical_document : (n : Schema) (v : Value) (d : Document) → is_shaped (Some n) v ≡ true → document_of v ≡ Ok d → is_canonical d ≡ true
canonical_document n v d shaped e = canonical (Some n) v d shaped e
