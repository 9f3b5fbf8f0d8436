-- Names with their values beside names with their documents.
use Rattle.std.proofs.Common.{unwrap_or}
use Rattle.smithy_document.proofs.Common.{◌≡◌, refl, sym, ap, subst, ◌∙◌, ℕ, true, ◌&&◌, List, [], ◌∷◌, Option, Some, None, is_some, ok_or, Result, Ok, Err, nat_cmp, match_ordering, Ordering, Less, Equal, Greater, slice_cmp, and_parts, with_value, then_try, then_give, Document, Members, put, put_all, members_of, list_of_members, Schema, Label, Value, Writes, scalar, no_writes, write, text_of_key, is_in_range, fits, fits_in_range, DocumentFault, no_member_name, document_of, entries_of, entries_behind, fields_of, field_name, key_text, settled, settled_fields, settled_entries, settled_behind, in_key_order, is_shaped, are_fields_shaped, are_entries_shaped, are_values_shaped, named_member}
use Rattle.smithy_types.specs.Documents as doc
use Rattle.smithy_ids.specs.declared.shape_type.ShapeType.TheVariants as kind
use Rattle.smithy_serde.specs.Values as value
use Rattle.smithy_document.proofs.FieldOrder.{Named}
use Rattle.smithy_document.proofs.OrderedPairs.{Pairs, all_put, Beside, Aligned}

-- ---- steps that went well

pub record Gave {A B : Type 0} (r : Result A DocumentFault) (f : A → Result B DocumentFault) (y : B) : Type 0 where
  pub x : A
  pub first : r ≡ Ok x
  pub rest : f x ≡ Ok y

pub try_gave : {A B : Type 0} (r : Result A DocumentFault) (f : A → Result B DocumentFault) (y : B) → then_try r f ≡ Ok y → Gave r f y
try_gave (Ok x) f y e = record { x = x; first = refl; rest = e }
try_gave (Err x) f y e = absurd (cc e)

pub give_gave : {A B : Type 0} (r : Result A DocumentFault) (f : A → B) (y : B) → then_give r f ≡ Ok y → Gave r (λ x. Ok (f x)) y
give_gave (Ok x) f y e = record { x = x; first = refl; rest = e }
give_gave (Err x) f y e = absurd (cc e)

-- ---- the order of entries and members is that of pairs

pub entries_ordered : (fs : List Named) → in_key_order fs ≡ all_put fs []
entries_ordered fs = refl

members_put : (k : List ℕ) (d : Document) (ms : Members) → list_of_members (put k d ms) ≡ with_value k d (list_of_members ms)
members_put k d doc.no_members = refl
members_put k d (doc.member l x ms) = go (slice_cmp nat_cmp k l) (members_put k d ms)
  where
    go : (o : Ordering) → list_of_members (put k d ms) ≡ with_value k d (list_of_members ms)
        → list_of_members (match_ordering o (doc.member k d (doc.member l x ms)) (doc.member l d ms) (doc.member l x (put k d ms)))
        ≡ match_ordering o ((k, d) ∷ (l, x) ∷ list_of_members ms) ((l, d) ∷ list_of_members ms) ((l, x) ∷ with_value k d (list_of_members ms))
    go Less rest = refl
    go Equal rest = refl
    go Greater rest = ap (λ ps. (l, x) ∷ ps) rest

pub members_all : (ps : Pairs Document) (ms : Members) → list_of_members (put_all ps ms) ≡ all_put ps (list_of_members ms)
members_all [] ms = refl
members_all (p ∷ ps) ms = members_all ps (put p.0 p.1 ms) ∙ ap (all_put ps) (members_put p.0 p.1 ms)

pub members_ordered : (ps : Pairs Document) → list_of_members (members_of ps) ≡ all_put ps []
members_ordered ps = members_all ps doc.no_members

-- ---- keys and names

-- what a String's node takes is a text
pub text_form : (v : Value) → fits kind.String v ≡ true → (t : List ℕ) × (v ≡ scalar (value.text t))
text_form (scalar (value.text t)) e = (t, refl)
text_form (scalar (value.whole value.byte z)) e = absurd (cc e)
text_form (scalar (value.whole value.short z)) e = absurd (cc e)
text_form (scalar (value.whole value.integer z)) e = absurd (cc e)
text_form (scalar (value.whole value.long z)) e = absurd (cc e)
text_form _ e = absurd (cc e)

pub key_told : (key : Value) (x : Document) (n : List ℕ) → fits_in_range kind.String key ≡ true → document_of key ≡ Ok x → key_text x ≡ Ok n → text_of_key key ≡ n
key_told key x n fit p q =
    let t = text_form key (and_parts (is_in_range key) (fits kind.String key) fit).1 in
    let one : Ok (doc.string t.0) ≡ Ok x = ap document_of (sym t.1) ∙ p in
    let two : doc.string t.0 ≡ x = cc one in
    let three : Ok t.0 ≡ Ok n = ap key_text two ∙ q in
    ap text_of_key t.1 ∙ cc three

pub name_told : (l : Label) (name : List ℕ) → field_name l ≡ Ok name → l.member_name ≡ Some name
name_told l name e = go l.member_name e
  where
    go : (o : Option (List ℕ)) → ok_or o (no_member_name l.full_name) ≡ Ok name → o ≡ Some name
    go None h = absurd (cc h)
    go (Some n) h = let same : n ≡ name = cc h in ap Some same

-- ---- maps and structures

abbrev mutual
  pub EntriesHave : (Value → Type 0) → Writes → Type 0
  EntriesHave T no_writes = Unit {0}
  EntriesHave T (write k key ws) = BehindHave T ws

  pub BehindHave : (Value → Type 0) → Writes → Type 0
  BehindHave T no_writes = Unit {0}
  BehindHave T (write l v ws) = T v × EntriesHave T ws

-- what a value at a node and its document give by its name
abbrev EntryPairs : Beside Value Document → (Value → Type 0) → Option Schema → Type 0
EntryPairs R T values = (name : List ℕ) (v : Value) (d : Document) → T v → is_shaped values v ≡ true → document_of v ≡ Ok d → R name (settled values v) d

mutual
  pub entries_paired : (R : Beside Value Document) (T : Value → Type 0) (values : Option Schema) → EntryPairs R T values → (ws : Writes) (ps : List (List ℕ × Document)) → EntriesHave T ws → are_entries_shaped values ws ≡ true
      → entries_of ws ≡ Ok ps → Aligned R (settled_entries values ws) ps
  entries_paired R T values each no_writes [] have shaped e = tt
  entries_paired R T values each no_writes (p ∷ ps) have shaped e = absurd (cc e)
  entries_paired R T values each (write k key ws) ps have shaped e =
      let s = and_parts (fits_in_range kind.String key) (are_values_shaped values ws) shaped in
      let g = try_gave (document_of key) (λ d. then_try (key_text d) λ n. entries_behind n ws) ps e in
      let h = try_gave (key_text g.x) (λ n. entries_behind n ws) ps g.rest in
      let same = key_told key g.x h.x s.0 g.first h.first in
      behind_paired R T values each (text_of_key key) ws ps have s.1 (ap (λ n. entries_behind n ws) same ∙ h.rest)

  behind_paired : (R : Beside Value Document) (T : Value → Type 0) (values : Option Schema) → EntryPairs R T values → (key : List ℕ) (ws : Writes) (ps : List (List ℕ × Document)) → BehindHave T ws
      → are_values_shaped values ws ≡ true → entries_behind key ws ≡ Ok ps → Aligned R (settled_behind values key ws) ps
  behind_paired R T values each key no_writes ps have shaped e = absurd (cc e)
  behind_paired R T values each key (write l v ws) ps have shaped e =
      let s = and_parts (is_shaped values v) (are_entries_shaped values ws) shaped in
      let g = try_gave (document_of v) (λ d. then_give (entries_of ws) λ qs. (key, d) ∷ qs) ps e in
      let h = give_gave (entries_of ws) (λ qs. (key, g.x) ∷ qs) ps g.rest in
      let r : Ok ((key, g.x) ∷ h.x) ≡ Ok ps = h.rest in
      let same : (key, g.x) ∷ h.x ≡ ps = cc r in
      subst (Aligned R ((key, settled values v) ∷ settled_entries values ws)) same
      (refl, each key v g.x have.0 s.0 g.first, entries_paired R T values each ws h.x have.1 s.1 h.first)

abbrev pub FieldsHave : (Option Schema → Value → Type 0) → Option Schema → Writes → Type 0
FieldsHave T here no_writes = Unit {0}
FieldsHave T here (write l v ws) = T (named_member here l.member_name) v × FieldsHave T here ws

-- the same of a structure's value, by the member of its name
abbrev FieldPairs : Beside Value Document → (Option Schema → Value → Type 0) → Option Schema → Type 0
FieldPairs R T here =
    (name : List ℕ) (v : Value) (d : Document) → T (named_member here (Some name)) v → is_some (named_member here (Some name)) ≡ true → is_shaped (named_member here (Some name)) v ≡ true → document_of v ≡ Ok d
    → R name (settled (named_member here (Some name)) v) d

pub fields_paired : (R : Beside Value Document) (T : Option Schema → Value → Type 0) (here : Option Schema) → FieldPairs R T here → (ws : Writes) (ps : List (List ℕ × Document)) → FieldsHave T here ws
    → are_fields_shaped here ws ≡ true → fields_of ws ≡ Ok ps → Aligned R (settled_fields here ws) ps
fields_paired R T here each no_writes [] have shaped e = tt
fields_paired R T here each no_writes (p ∷ ps) have shaped e = absurd (cc e)
fields_paired R T here each (write l v ws) ps have shaped e =
    let s = and_parts (is_some (named_member here l.member_name) && is_shaped (named_member here l.member_name) v) (are_fields_shaped here ws) shaped in
    let s2 = and_parts (is_some (named_member here l.member_name)) (is_shaped (named_member here l.member_name) v) s.0 in
    let g = try_gave (document_of v) (λ d. then_try (field_name l) λ name. then_give (fields_of ws) λ qs. (name, d) ∷ qs) ps e in
    let h = try_gave (field_name l) (λ name. then_give (fields_of ws) λ qs. (name, g.x) ∷ qs) ps g.rest in
    let j = give_gave (fields_of ws) (λ qs. (h.x, g.x) ∷ qs) ps h.rest in
    let r : Ok ((h.x, g.x) ∷ j.x) ≡ Ok ps = j.rest in
    let same : (h.x, g.x) ∷ j.x ≡ ps = cc r in
    let name = name_told l h.x h.first in
    let one = each h.x v g.x (subst (λ o. T (named_member here o) v) name have.0) (ap (λ o. is_some (named_member here o)) (sym name) ∙ s2.0) (ap (λ o. is_shaped (named_member here o) v) (sym name) ∙ s2.1) g.first in
    subst (Aligned R (settled_fields here (write l v ws))) {x = (h.x, g.x) ∷ j.x} same
    (ap (λ o. unwrap_or o []) name, subst (λ o. R (unwrap_or o []) (settled (named_member here o) v) g.x) (sym name) one, fields_paired R T here each ws j.x have.1 s.1 j.first)
