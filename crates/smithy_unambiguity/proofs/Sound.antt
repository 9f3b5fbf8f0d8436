-- The document of a shaped value is one that a codec tells apart: canonical, and in range.
use Rattle.std.specs.Prelude.{int_le, int_lt, neg_ℤ}
use Rattle.smithy_unambiguity.proofs.Common.{◌≡◌, refl, sym, ◌∙◌, ap, subst, ℕ, ◌^◌, ◌<◌, arith, Bool, true, false, cond, ◌&&◌, List, [], ◌∷◌, find, filter_map, Option, Some, None, option_map, option_and_then, is_some, Result, Ok, ℤ, pos, negsuc, AllByRecursion, cons_option, option_map_or, is_utf8, and_parts, and_from, lt-ltb, same_text, are_distinct, then_give, Document, Members, items_of, list_of_members, number_of, is_canonical, IsSound, Node, Table, Schema, node_at, at_place, element_of, key_of, value_of, shape, has_utf8, Scalar, Value, Writes, no_writes, write, keys_of, is_signed_within, is_number_in_range, is_in_range, is_document_in_range, are_items_in_range, are_members_in_range, is_before, is_sound, DocumentFault, document_of, elements_of, fields_of, scalar_document, base64, settled_fields, settled_entries, is_shaped, are_shaped, are_fields_shaped, are_entries_shaped, fits_at, has_distinct_fields, named_member, is_named, is_kind, Stands, try_gave, give_gave, members_ordered, EntriesHave, BehindHave, entries_paired, FieldsHave, fields_paired, Pairs, Behind, Ascends, all_ascend, up_tail, Beside, Aligned, big_integer-utf8, big_decimal-utf8, ascii_utf8}
use Rattle.std.specs.Ordering.{match_ordering}
use Rattle.std.specs.Cmp.Lexicographic.{same_text as same_from_test}
use Rattle.std.proofs.lemmas.Int.{ints}
use Rattle.base64.specs.Engines.{standard}
use Rattle.base64.proofs.EngineFacts.{IsAscii-encode_of}
use Rattle.smithy_types.specs.Documents as doc
use Rattle.smithy_types.specs.Documents.{members_of}
use Rattle.smithy_ids.specs.declared.shape_type.ShapeType.TheVariants as kind
use Rattle.smithy_serde.specs.Values as value
use Rattle.smithy_serde.specs.DocumentOf.{entries_of}
use Rattle.smithy_document.proofs.ShapedCanonical.{canonical_document}
use Rattle.smithy_document.proofs.StandingNodes.{Standing, stands_cited, stands_shape, found_stands}
use Rattle.smithy_unambiguity.proofs.PairLemmas.{AllPairs, ordered_all}
use Rattle.smithy_unambiguity.proofs.Settled.{shaped_range, entries_keep_shape, fields_keep_shape}
use Rattle.smithy_unambiguity.proofs.WellMadeNodes.{has_texts}
use Rattle.smithy_strings.proofs.Widths.{long_width}

-- the name of a member is UTF-8
found_utf8 : (t : Table) (name : List ℕ) (places : List ℕ) → IsSound t → is_some (find (is_named (Some name)) (filter_map (at_place t) places)) ≡ true → is_utf8 name ≡ true
found_utf8 t name [] sound there = absurd (cc there)
found_utf8 t name (p ∷ places) sound there = go (node_at t p) refl there (found_utf8 t name places sound)
  where
    own : (o : Option (List ℕ)) → has_utf8 o ≡ true → option_map_or (same_text name) o false ≡ true → is_utf8 name ≡ true
    own None h q = absurd (cc q)
    own (Some n) h q = ap is_utf8 (same_from_test name n (sym q)) ∙ h

    by : (n : Node) (b : Bool) (later : Option Schema) → has_utf8 n.member_name ≡ true → option_map_or (same_text name) n.member_name false ≡ b → is_some (cond b (Some (record { table = t; node = n })) later) ≡ true → (is_some later ≡ true → is_utf8 name ≡ true) → is_utf8 name ≡ true
    by n true later text is h rest = own n.member_name text is
    by n false later text is h rest = rest h

    go : (o : Option Node) → node_at t p ≡ o → is_some (find (is_named (Some name)) (cons_option (option_map (λ n. record { table = t; node = n }) o) (filter_map (at_place t) places))) ≡ true
        → (is_some (find (is_named (Some name)) (filter_map (at_place t) places)) ≡ true → is_utf8 name ≡ true) → is_utf8 name ≡ true
    go None is h rest = rest h
    go (Some n) is h rest = by n (option_map_or (same_text name) n.member_name false) (find (is_named (Some name)) (filter_map (at_place t) places)) (has_texts n (sound.whole p n is)).name refl h rest

-- Pairs.

abbrev HasUtf8 : List ℕ → Type 0
HasUtf8 name = is_utf8 name ≡ true

abbrev HasRange : Document → Type 0
HasRange d = is_document_in_range d ≡ true

before_first : (name : List ℕ) (ms : Members) → Behind name (list_of_members ms) → is_before name ms ≡ true
before_first name doc.no_members behind = refl
before_first name (doc.member l d ms) behind = ap (λ o. match_ordering o true false false) behind.0

members_in_range : (ms : Members) → Ascends (list_of_members ms) → AllPairs HasUtf8 HasRange (list_of_members ms) → are_members_in_range ms ≡ true
members_in_range doc.no_members up all = refl
members_in_range (doc.member k d ms) up all =
    and_from (is_utf8 k && is_document_in_range d && is_before k ms) (are_members_in_range ms)
    (and_from (is_utf8 k && is_document_in_range d) (is_before k ms) (and_from (is_utf8 k) (is_document_in_range d) all.0.0 all.0.1) (before_first k ms up))
    (members_in_range ms (up_tail k (list_of_members ms) up) all.1)

object_in_range : (ps : Pairs Document) → AllPairs HasUtf8 HasRange ps → are_members_in_range (members_of ps) ≡ true
object_in_range ps all =
    let same = sym (members_ordered ps) in
    members_in_range (members_of ps) (subst Ascends same (all_ascend ps [] tt)) (subst (AllPairs HasUtf8 HasRange) same (ordered_all HasUtf8 HasRange ps all))

-- the document of a value
abbrev OfRange : Beside Value Document
OfRange name s d = HasRange d

pairs_in_range : (P : List ℕ × Value → Type 0) → ((e : List ℕ × Value) → P e → HasUtf8 e.0) → (es : Pairs Value) (ps : Pairs Document) → AllByRecursion P es → Aligned OfRange es ps → AllPairs HasUtf8 HasRange ps
pairs_in_range P f [] [] all aligned = tt
pairs_in_range P f [] (p ∷ ps) all aligned = absurd aligned
pairs_in_range P f (e ∷ es) [] all aligned = absurd aligned
pairs_in_range P f (e ∷ es) (p ∷ ps) all aligned = ((ap is_utf8 (sym aligned.0) ∙ f e all.0, aligned.1), pairs_in_range P f es ps all.1 aligned.2)

-- Numbers.

long_in_range : (z : ℤ) → is_signed_within (2 ^ 63) z ≡ true → is_number_in_range (number_of z) ≡ true
long_in_range (pos n) e =
    let p = and_parts (int_le (neg_ℤ (pos (2 ^ 63))) (pos n)) (int_lt (pos n) (pos (2 ^ 63))) e in
    let small : n < 2 ^ 63 = grind (arith, ints) in
    lt-ltb n (2 ^ 64) (omega (arith, small))
long_in_range (negsuc n) e = e

scalar_in_range : (x : Scalar) → is_in_range (value.scalar x) ≡ true → HasRange (scalar_document x)
scalar_in_range (value.boolean b) e = refl
scalar_in_range (value.whole w z) e = long_in_range z (long_width w z e)
scalar_in_range (value.big_integer t) e = big_integer-utf8 t e
scalar_in_range (value.big_decimal t) e = big_decimal-utf8 t e
scalar_in_range (value.text t) e = e
scalar_in_range (value.blob bytes) e = ascii_utf8 (base64 bytes) (IsAscii-encode_of standard bytes)
scalar_in_range (value.timestamp z) e = long_in_range z e
scalar_in_range (value.document d) e = e
scalar_in_range value.null e = refl

-- Values.

abbrev InRange : Option Schema → Value → Type 0
InRange here v = Standing here → (d : Document) → is_shaped here v ≡ true → document_of v ≡ Ok d → HasRange d

abbrev EachInRange : Option Schema → Writes → Type 0
EachInRange element no_writes = Unit {0}
EachInRange element (write l v ws) = InRange element v × EachInRange element ws

gave_range : {A : Type 0} (r : Result A DocumentFault) (f : A → Document) (d : Document) → ((x : A) → r ≡ Ok x → HasRange (f x)) → then_give r f ≡ Ok d → HasRange d
gave_range r f d each e =
    let g = give_gave r f d e in
    let h : Ok (f g.x) ≡ Ok d = g.rest in
    let same : f g.x ≡ d = cc h in
    subst HasRange same (each g.x g.first)

elements_in_range : (element : Option Schema) (ws : Writes) (ds : List Document) → Standing element → EachInRange element ws → are_shaped element ws ≡ true → elements_of ws ≡ Ok ds → are_items_in_range (items_of ds) ≡ true
elements_in_range element no_writes ds stands each shaped e = let same : [] ≡ ds = cc e in ap (λ xs. are_items_in_range (items_of xs)) (sym same)
elements_in_range element (write l v ws) ds stands each shaped e =
    let g = try_gave (document_of v) (λ d. then_give (elements_of ws) λ es. d ∷ es) ds e in
    let h = give_gave (elements_of ws) (λ es. g.x ∷ es) ds g.rest in
    let r : Ok (g.x ∷ h.x) ≡ Ok ds = h.rest in
    let same : g.x ∷ h.x ≡ ds = cc r in
    let s = and_parts (is_shaped element v) (are_shaped element ws) shaped in
    ap (λ xs. are_items_in_range (items_of xs)) (sym same)
    ∙ and_from (is_document_in_range g.x) (are_items_in_range (items_of h.x)) (each.0 stands g.x s.0 g.first) (elements_in_range element ws h.x stands each.1 s.1 h.first)

list_in_range : (here : Option Schema) (ws : Writes) → EachInRange (option_and_then element_of here) ws → InRange here (value.list ws)
list_in_range None ws each stands d shaped e = absurd stands
list_in_range (Some n) ws each stands d shaped e =
    let a = and_parts (fits_at (Some n) (value.list ws) && is_some (element_of n)) (are_shaped (element_of n) ws) shaped in
    let there = (and_parts (fits_at (Some n) (value.list ws)) (is_some (element_of n)) a.0).1 in
    gave_range (elements_of ws) (λ ds. doc.array (items_of ds)) d (λ ds is. elements_in_range (element_of n) ws ds (stands_cited n n.node.element stands.table there) each a.1 is) e

map_in_range : (here : Option Schema) (ws : Writes) → EntriesHave (InRange (option_and_then value_of here)) ws → InRange here (value.map ws)
map_in_range None ws each stands d shaped e = absurd stands
map_in_range (Some n) ws each stands d shaped e =
    let a = and_parts (fits_at (Some n) (value.map ws) && is_kind kind.String (key_of n) && is_some (value_of n) && are_distinct (keys_of ws)) (are_entries_shaped (value_of n) ws) shaped in
    let b = and_parts (fits_at (Some n) (value.map ws) && is_kind kind.String (key_of n) && is_some (value_of n)) (are_distinct (keys_of ws)) a.0 in
    let there = (and_parts (fits_at (Some n) (value.map ws) && is_kind kind.String (key_of n)) (is_some (value_of n)) b.0).1 in
    let stands_there = stands_cited n n.node.value stands.table there in
    gave_range (entries_of ws) (λ ps. doc.object (members_of ps)) d
    (λ ps is. object_in_range ps (pairs_in_range _ (λ e own. own.0) (settled_entries (value_of n) ws) ps (entries_keep_shape (value_of n) ws a.1)
    (entries_paired OfRange (InRange (value_of n)) (value_of n) (λ name v x has sh h. has stands_there x sh h) ws ps each a.1 is))) e

structure_in_range : (here : Option Schema) (ws : Writes) → FieldsHave InRange here ws → InRange here (value.structure ws)
structure_in_range None ws each stands d shaped e = absurd stands
structure_in_range (Some n) ws each stands d shaped e =
    let a = and_parts (fits_at (Some n) (value.structure ws) && has_distinct_fields (Some n)) (are_fields_shaped (Some n) ws) shaped in
    let table = (stands_shape n stands).table in
    gave_range (fields_of ws) (λ ps. doc.object (members_of ps)) d
    (λ ps is. object_in_range ps (pairs_in_range _ (λ f own. found_utf8 (shape n).table f.0 (shape n).node.members table own.known) (settled_fields (Some n) ws) ps (fields_keep_shape (Some n) ws a.1)
    (fields_paired OfRange InRange (Some n) (λ name v x has there sh h. has (found_stands (shape n).table (Some name) (shape n).node.members table there) x sh h) ws ps each a.1 is))) e

mutual
  in_range : (here : Option Schema) (v : Value) → InRange here v
  in_range here (value.scalar x) = λ stands d shaped e. let same : scalar_document x ≡ d = cc e in subst HasRange same (scalar_in_range x (shaped_range here (value.scalar x) shaped))
  in_range here (value.list ws) = list_in_range here ws (each_in_range (option_and_then element_of here) ws)
  in_range here (value.map ws) = map_in_range here ws (entries_in_range (option_and_then value_of here) ws)
  in_range here (value.structure ws) = structure_in_range here ws (fields_in_range here ws)

  each_in_range : (element : Option Schema) (ws : Writes) → EachInRange element ws
  each_in_range element no_writes = tt
  each_in_range element (write l v ws) = (in_range element v, each_in_range element ws)

  entries_in_range : (values : Option Schema) (ws : Writes) → EntriesHave (InRange values) ws
  entries_in_range values no_writes = tt
  entries_in_range values (write k key ws) = behind_in_range values ws

  behind_in_range : (values : Option Schema) (ws : Writes) → BehindHave (InRange values) ws
  behind_in_range values no_writes = tt
  behind_in_range values (write l v ws) = (in_range values v, entries_in_range values ws)

  fields_in_range : (here : Option Schema) (ws : Writes) → FieldsHave InRange here ws
  fields_in_range here no_writes = tt
  fields_in_range here (write l v ws) = (in_range (named_member here l.member_name) v, fields_in_range here ws)

pub sound : (n : Schema) (v : Value) (d : Document) → Stands n → is_shaped (Some n) v ≡ true → document_of v ≡ Ok d → is_sound d ≡ true
sound n v d stands shaped e = and_from (is_canonical d) (is_document_in_range d) (canonical_document n v d shaped e) (in_range (Some n) v stands d shaped e)
