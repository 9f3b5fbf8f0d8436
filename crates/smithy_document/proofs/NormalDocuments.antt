-- The normal form of a value that follows its node has the value's document.
use Rattle.smithy_document.proofs.Common.{◌≡◌, refl, sym, ap, ◌∙◌, ℕ, Bool, true, false, cond, ◌&&◌, List, [], ◌∷◌, find, filter_map, Option, Some, None, option_map, option_and_then, is_some, ok_or, Ok, cons_option, option_map_or, option_or, and_parts, same_text, are_distinct, then_try, then_give, Document, Members, items_of, members_of, list_of_members, Schema, element_of, key_of, value_of, Label, Scalar, Value, Write, Writes, scalar, list, structure, no_writes, write, writes_of, label_of, keys_of, no_member_name, document_of, elements_of, entries_of, fields_of, field_name, settled, settled_elements, settled_fields, settled_entries, own_label, entry_writes, is_shaped, are_shaped, are_fields_shaped, are_entries_shaped, fits_at, fields_at, has_distinct_fields, named_member, is_named, is_kind, no_label, last_named, field_of, same_self, Pairs, last_of, all_put, look_ordered, all_ascend, last_ascending, known_by_names, or_none}
use Rattle.std.specs.Cmp.Lexicographic.{same_text as same_from_test}
use Rattle.smithy_types.specs.Documents as doc
use Rattle.smithy_ids.specs.declared.shape_type.ShapeType.TheVariants as kind
use Rattle.smithy_serde.specs.Values as value
use Rattle.smithy_document.proofs.FieldOrder.{Named}
use Rattle.smithy_document.proofs.NamedPairs.{try_gave, give_gave, entries_ordered, members_ordered, EntriesHave, BehindHave, entries_paired, FieldsHave, fields_paired}
use Rattle.smithy_document.proofs.OrderedPairs.{Beside, Aligned, all_aligned, Related, last_related}

-- ---- objects by their names

abbrev object_of : Pairs Document → Members
object_of [] = doc.no_members
object_of (p ∷ ps) = doc.member p.0 p.1 (object_of ps)

object_back : (ms : Members) → object_of (list_of_members ms) ≡ ms
object_back doc.no_members = refl
object_back (doc.member l d ms) = ap (doc.member l d) (object_back ms)

-- objects with the same last documents are the same
by_names : (ps qs : Pairs Document) → ((name : List ℕ) → last_of name ps ≡ last_of name qs) → members_of ps ≡ members_of qs
by_names ps qs same =
    let lists : all_put ps [] ≡ all_put qs [] =
    known_by_names (all_put ps []) (all_put qs []) (all_ascend ps [] tt) (all_ascend qs [] tt) (λ name. look_ordered name ps ∙ same name ∙ sym (look_ordered name qs)) in
    sym (object_back (members_of ps)) ∙ ap object_of (members_ordered ps ∙ lists ∙ sym (members_ordered qs)) ∙ object_back (members_of qs)

put_twice : (ps : Pairs Document) → members_of (all_put ps []) ≡ members_of ps
put_twice ps = by_names (all_put ps []) ps (λ name. last_ascending name (all_put ps []) (all_ascend ps [] tt) ∙ look_ordered name ps)

-- ---- nulls and lists

abbrev Keeps : Option Schema → Value → Type 0
Keeps here v = (d : Document) → is_shaped here v ≡ true → document_of v ≡ Ok d → document_of (settled here v) ≡ Ok d

abbrev EachKeeps : Option Schema → Writes → Type 0
EachKeeps element no_writes = Unit {0}
EachKeeps element (write l v ws) = Keeps element v × EachKeeps element ws

null_keeps : (here : Option Schema) → Keeps here (scalar value.null)
null_keeps here d shaped e = go (is_kind kind.Document here)
  where
    go : (t : Bool) → document_of (cond t (scalar (value.document doc.null)) (scalar value.null)) ≡ Ok d
    go true = e
    go false = e

scalar_keeps : (here : Option Schema) (x : Scalar) → Keeps here (scalar x)
scalar_keeps here value.null = null_keeps here
scalar_keeps here _ = λ d shaped e. e

elements_keep : (element : Option Schema) (ws : Writes) (ds : List Document) → EachKeeps element ws → are_shaped element ws ≡ true → elements_of ws ≡ Ok ds → elements_of (settled_elements element ws) ≡ Ok ds
elements_keep element no_writes ds keep shaped e = e
elements_keep element (write l v ws) ds keep shaped e =
    let g = try_gave (document_of v) (λ d. then_give (elements_of ws) λ es. d ∷ es) ds e in
    let h = give_gave (elements_of ws) (λ es. g.x ∷ es) ds g.rest in
    let s = and_parts (is_shaped element v) (are_shaped element ws) shaped in
    ap (λ r. then_try r λ d. then_give (elements_of (settled_elements element ws)) λ es. d ∷ es) (keep.0 g.x s.0 g.first)
    ∙ ap (λ r. then_give r λ es. g.x ∷ es) (elements_keep element ws h.x keep.1 s.1 h.first) ∙ h.rest

list_keeps : (here : Option Schema) (ws : Writes) → EachKeeps (option_and_then element_of here) ws → Keeps here (list ws)
list_keeps here ws keep d shaped e =
    let a = and_parts (fits_at here (list ws) && is_some (option_and_then element_of here)) (are_shaped (option_and_then element_of here) ws) shaped in
    let g = give_gave (elements_of ws) (λ ds. doc.array (items_of ds)) d e in
    ap (λ r. then_give r λ ds. doc.array (items_of ds)) (elements_keep (option_and_then element_of here) ws g.x keep a.1 g.first) ∙ g.rest

-- ---- maps

-- a value has this document
abbrev HasDocument : Beside Value Document
HasDocument name s d = document_of s ≡ Ok d

entries_kept : (k l : Label) (es : List Named) (ps : Pairs Document) → Aligned HasDocument es ps → entries_of (entry_writes k l es) ≡ Ok ps
entries_kept k l [] [] aligned = refl
entries_kept k l [] (p ∷ ps) aligned = absurd aligned
entries_kept k l (e ∷ es) [] aligned = absurd aligned
entries_kept k l (e ∷ es) (p ∷ ps) aligned =
    ap (λ r. then_try r λ x. then_give (entries_of (entry_writes k l es)) λ qs. (e.0, x) ∷ qs) aligned.1
    ∙ ap (λ r. then_give r λ qs. (e.0, p.1) ∷ qs) (entries_kept k l es ps aligned.2)
    ∙ ap (λ x. Ok ((x, p.1) ∷ ps)) aligned.0

map_keeps : (here : Option Schema) (ws : Writes) → EntriesHave (Keeps (option_and_then value_of here)) ws → Keeps here (value.map ws)
map_keeps here ws keep d shaped e =
    let values = option_and_then value_of here in
    let a = and_parts (fits_at here (value.map ws) && is_kind kind.String (option_and_then key_of here) && is_some values && are_distinct (keys_of ws)) (are_entries_shaped values ws) shaped in
    let g = give_gave (entries_of ws) (λ ps. doc.object (members_of ps)) d e in
    let paired = entries_paired HasDocument (Keeps values) values (λ name v x t sh h. t x sh h) ws g.x keep a.1 g.first in
    let aligned = all_aligned HasDocument (settled_entries values ws) g.x [] [] paired tt in
    let k = own_label (option_and_then key_of here) no_label in
    let l = own_label values no_label in
    ap (λ es. document_of (value.map (entry_writes k l es))) (entries_ordered (settled_entries values ws))
    ∙ ap (λ r. then_give r λ ps. doc.object (members_of ps)) (entries_kept k l (all_put (settled_entries values ws) []) (all_put g.x []) aligned)
    ∙ ap (λ ms. Ok (doc.object ms)) (put_twice g.x) ∙ g.rest

-- ---- structures

-- a value has this document, and its name is a member's
abbrev HasField : List Schema → Beside Value Document
HasField nodes name s d = (document_of s ≡ Ok d) × (is_some (find (is_named (Some name)) nodes) ≡ true)

same_turned : (a b : List ℕ) → same_text a b ≡ same_text b a
same_turned a b = go (same_text a b) (same_text b a) refl refl
  where
    go : (s t : Bool) → same_text a b ≡ s → same_text b a ≡ t → s ≡ t
    go true true p q = refl
    go false false p q = refl
    go true false p q = let same = same_from_test a b (sym p) in sym (same_self b) ∙ ap (same_text b) (sym same) ∙ q
    go false true p q = let same = same_from_test b a (sym q) in sym p ∙ ap (same_text a) same ∙ same_self a

-- the fields of a structure's writes, member by member: the last documents of the members' names
record Kept (fields : List Named) (ps : Pairs Document) (ms : List Schema) : Type 0 where
  qs : Pairs Document
  is : fields_of (writes_of (filter_map (field_of fields) ms)) ≡ Ok qs
  last : (name : List ℕ) → last_of name qs ≡ cond (is_some (find (is_named (Some name)) ms)) (last_of name ps) None

fields_kept : (nodes : List Schema) (fields : List Named) (ps : Pairs Document) → ((name : List ℕ) → Related (HasField nodes) name (last_named name fields) (last_of name ps))
    → (ms : List Schema) → Kept fields ps ms
fields_kept nodes fields ps related [] = record { qs = []; is = refl; last = λ name. refl }
fields_kept nodes fields ps related (m ∷ ms) = go m.node.member_name refl (fields_kept nodes fields ps related ms)
  where
    later : List Write
    later = filter_map (field_of fields) ms

    field : Option (List ℕ) → Option Write
    field name = option_map (λ v. record { label = label_of m; value = v }) (option_and_then (λ n. last_named n fields) name)

    skip : (t : Bool) (f : Option Schema) (o q : Option Document) → q ≡ cond (is_some f) o None → (t ≡ true → o ≡ None) → q ≡ cond (is_some (cond t (Some m) f)) o None
    skip true None o q h none = h ∙ sym (none refl)
    skip true (Some s) o q h none = h
    skip false f o q h none = h

    joins : (t : Bool) (f : Option Schema) (d : Document) (o q : Option Document) → q ≡ cond (is_some f) o None → (t ≡ true → o ≡ Some d) → option_or q (cond t (Some d) None) ≡ cond (is_some (cond t (Some m) f)) o None
    joins true None d o q h same = ap (λ x. option_or x (Some d)) h ∙ sym (same refl)
    joins true (Some s) d o q h same = ap (λ x. option_or x (Some d)) (h ∙ same refl) ∙ sym (same refl)
    joins false f d o q h same = or_none q ∙ h

    by : (n : List ℕ) (x : Option Value) (y : Option Document) → m.node.member_name ≡ Some n → last_named n fields ≡ x → last_of n ps ≡ y → Related (HasField nodes) n x y → Kept fields ps ms → Kept fields ps (m ∷ ms)
    by n None (Some d) en ex ey related rest = absurd related
    by n (Some v) None en ex ey related rest = absurd related
    by n None None en ex ey related rest = record {
      qs = rest.qs;
      is =
          ap (λ o. fields_of (writes_of (cons_option (field o) later))) en
          ∙ ap (λ x. fields_of (writes_of (cons_option (option_map (λ v. record { label = label_of m; value = v }) x) later))) ex ∙ rest.is;
      last = λ name.
          skip (same_text name n) (find (is_named (Some name)) ms) (last_of name ps) (last_of name rest.qs) (rest.last name) (λ t. ap (λ k. last_of k ps) (same_from_test name n (sym t)) ∙ ey)
          ∙ ap (λ o. cond (is_some (cond (option_map_or (same_text name) o false) (Some m) (find (is_named (Some name)) ms))) (last_of name ps) None) (sym en);
    }
    by n (Some v) (Some d) en ex ey related rest = record {
      qs = (n, d) ∷ rest.qs;
      is =
          ap (λ o. fields_of (writes_of (cons_option (field o) later))) en
          ∙ ap (λ x. fields_of (writes_of (cons_option (option_map (λ v. record { label = label_of m; value = v }) x) later))) ex
          ∙ ap (λ r. then_try r λ x. then_try (field_name (label_of m)) λ name. then_give (fields_of (writes_of later)) λ qs. (name, x) ∷ qs) related.0
          ∙ ap (λ o. then_try (ok_or o (no_member_name m.node.full_name)) λ name. then_give (fields_of (writes_of later)) λ qs. (name, d) ∷ qs) en
          ∙ ap (λ r. then_give r λ qs. (n, d) ∷ qs) rest.is;
      last = λ name.
          ap (λ t. option_or (last_of name rest.qs) (cond t (Some d) None)) (same_turned n name)
          ∙ joins (same_text name n) (find (is_named (Some name)) ms) d (last_of name ps) (last_of name rest.qs) (rest.last name) (λ t. ap (λ k. last_of k ps) (same_from_test name n (sym t)) ∙ ey)
          ∙ ap (λ o. cond (is_some (cond (option_map_or (same_text name) o false) (Some m) (find (is_named (Some name)) ms))) (last_of name ps) None) (sym en);
    }

    go : (n : Option (List ℕ)) → m.node.member_name ≡ n → Kept fields ps ms → Kept fields ps (m ∷ ms)
    go None en rest = record {
      qs = rest.qs;
      is = ap (λ o. fields_of (writes_of (cons_option (field o) later))) en ∙ rest.is;
      last = λ name. rest.last name ∙ ap (λ o. cond (is_some (cond (option_map_or (same_text name) o false) (Some m) (find (is_named (Some name)) ms))) (last_of name ps) None) (sym en);
    }
    go (Some n) en rest = by n (last_named n fields) (last_of n ps) en refl refl (related n) rest

never : (t : Bool) → ◌≡◌ {A = Option Document} (cond t None None) None
never true = refl
never false = refl

structure_keeps : (here : Option Schema) (ws : Writes) → FieldsHave Keeps here ws → Keeps here (structure ws)
structure_keeps here ws keep d shaped e =
    let nodes = fields_at here in
    let fields = settled_fields here ws in
    let a = and_parts (fits_at here (structure ws) && has_distinct_fields here) (are_fields_shaped here ws) shaped in
    let g = give_gave (fields_of ws) (λ ps. doc.object (members_of ps)) d e in
    let paired = fields_paired (HasField nodes) Keeps here (λ name v x t there sh h. (t x sh h, there)) ws g.x keep a.1 g.first in
    let related = λ (name : List ℕ). last_related (HasField nodes) name fields g.x paired in
    let kept = fields_kept nodes fields g.x related nodes in
    ap (λ r. then_give r λ ps. doc.object (members_of ps)) kept.is
    ∙ ap (λ ms. Ok (doc.object ms)) (by_names kept.qs g.x (λ name. kept.last name ∙ all_there nodes name (last_named name fields) (last_of name g.x) (related name))) ∙ g.rest
  where
    all_there : (nodes : List Schema) (name : List ℕ) (x : Option Value) (y : Option Document) → Related (HasField nodes) name x y → cond (is_some (find (is_named (Some name)) nodes)) y None ≡ y
    all_there nodes name None (Some d) related = absurd related
    all_there nodes name (Some v) None related = absurd related
    all_there nodes name None None related = never (is_some (find (is_named (Some name)) nodes))
    all_there nodes name (Some v) (Some x) related = ap (λ t. cond t (Some x) None) related.1

-- ---- all of them

mutual
  keeps : (here : Option Schema) (v : Value) → Keeps here v
  keeps here (scalar x) = scalar_keeps here x
  keeps here (list ws) = list_keeps here ws (each_keeps (option_and_then element_of here) ws)
  keeps here (value.map ws) = map_keeps here ws (entries_keep (option_and_then value_of here) ws)
  keeps here (structure ws) = structure_keeps here ws (fields_keep here ws)

  each_keeps : (element : Option Schema) (ws : Writes) → EachKeeps element ws
  each_keeps element no_writes = tt
  each_keeps element (write l v ws) = (keeps element v, each_keeps element ws)

  entries_keep : (values : Option Schema) (ws : Writes) → EntriesHave (Keeps values) ws
  entries_keep values no_writes = tt
  entries_keep values (write k key ws) = behind_keep values ws

  behind_keep : (values : Option Schema) (ws : Writes) → BehindHave (Keeps values) ws
  behind_keep values no_writes = tt
  behind_keep values (write l v ws) = (keeps values v, entries_keep values ws)

  fields_keep : (here : Option Schema) (ws : Writes) → FieldsHave Keeps here ws
  fields_keep here no_writes = tt
  fields_keep here (write l v ws) = (keeps (named_member here l.member_name) v, fields_keep here ws)

pub normal_document : (n : Schema) (v : Value) (d : Document) → is_shaped (Some n) v ≡ true → document_of v ≡ Ok d → document_of (settled (Some n) v) ≡ Ok d
normal_document n v d shaped e = keeps (Some n) v d shaped e
