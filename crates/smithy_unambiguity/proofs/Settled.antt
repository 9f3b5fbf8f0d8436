-- The normal form of a shaped value is shaped.
use Rattle.smithy_unambiguity.proofs.Common.{◌≡◌, refl, sym, ◌∙◌, ap, subst, ℕ, ◌⊎◌, inl, inr, Bool, true, false, ◌&&◌, List, [], ◌∷◌, filter_map, Option, Some, None, option_map, option_and_then, unwrap_or, is_some, if◌then◌else◌, AllByRecursion, cons_option, option_or, is_utf8, and_parts, and_from, same_text, are_distinct, one_kind, Schema, element_of, key_of, value_of, Label, Value, Writes, no_writes, write, writes_of, label_of, keys_of, text_of_key, is_in_range, are_writes_in_range, fits, fits_in_range, written_kind, kind_takes, is_shaped, are_shaped, are_fields_shaped, are_entries_shaped, are_values_shaped, fits_at, fields_at, has_distinct_fields, named_member, is_kind, settled, settled_elements, settled_fields, settled_entries, settled_behind, own_label, in_key_order, entry_writes, structure_value, last_named, field_of, text_form, entries_ordered, Pairs, all_put, ⊎_elim}
use Rattle.std.specs.Cmp.Lexicographic.{same_text as same_from_test}
use Rattle.smithy_types.specs.Documents as doc
use Rattle.smithy_ids.specs.declared.shape_type.ShapeType.TheVariants as kind
use Rattle.smithy_serde.specs.Values as value
use Rattle.smithy_document.proofs.ShapedDocuments.{none_named}
use Rattle.smithy_unambiguity.proofs.PairLemmas.{AllPairs, ordered_all, names, ascending_distinct, ordered_ascends}

in_range : (here : Option Schema) (v : Value) → fits_at here v ≡ true → is_in_range v ≡ true
in_range None v p = absurd (cc p)
in_range (Some s) v p = (and_parts (is_in_range v) (fits s.node.kind v) p).0

-- what is shaped is null, or fits
pub shaped_fits : (here : Option Schema) (v : Value) → is_shaped here v ≡ true → (v ≡ (value.scalar value.null)) ⊎ (fits_at here v ≡ true)
shaped_fits here (value.scalar value.null) e = inl refl
shaped_fits here (value.scalar (value.document d)) e = inr (and_parts (fits_at here (value.scalar (value.document d))) _ e).0
shaped_fits here (value.list ws) e = inr (and_parts (fits_at here (value.list ws)) _ (and_parts _ _ e).0).0
shaped_fits here (value.map ws) e = inr (and_parts (fits_at here (value.map ws)) _ (and_parts _ _ (and_parts _ _ (and_parts _ _ e).0).0).0).0
shaped_fits here (value.structure ws) e = inr (and_parts (fits_at here (value.structure ws)) _ (and_parts _ _ e).0).0
shaped_fits here _ e = inr e

-- a shaped value is in range
pub shaped_range : (here : Option Schema) (v : Value) → is_shaped here v ≡ true → is_in_range v ≡ true
shaped_range here v e = ⊎_elim (ap is_in_range) (in_range here v) (shaped_fits here v e)

-- another value of the same written kind fits too
fits_as : (here : Option Schema) (v w : Value) → fits_at here v ≡ true → written_kind v ≡ written_kind w → is_in_range w ≡ true → fits_at here w ≡ true
fits_as None v w fit same range = absurd (cc fit)
fits_as (Some s) v w fit same range =
    and_from (is_in_range w) (fits s.node.kind w) range
    (ap (λ o. unwrap_or (option_map (kind_takes s.node.kind) o) false) (sym same) ∙ (and_parts (is_in_range v) (fits s.node.kind v) fit).1)

pub key_utf8 : (key : Value) → fits_in_range kind.String key ≡ true → is_utf8 (text_of_key key) ≡ true
key_utf8 key e =
    let parts = and_parts (is_in_range key) (fits kind.String key) e in
    let x = text_form key parts.1 in
    let range : is_utf8 x.0 ≡ true = ap is_in_range (sym x.1) ∙ parts.0 in
    ap (λ k. is_utf8 (text_of_key k)) x.1 ∙ range

-- Entries of a map, as they are kept: each key is UTF-8, and each value is shaped.

abbrev pub AreEntries : Option Schema → Pairs Value → Type 0
AreEntries values es = AllPairs (λ k. is_utf8 k ≡ true) (λ v. is_shaped values v ≡ true) es

ordered_entries : (values : Option Schema) (es : Pairs Value) → AreEntries values es → AreEntries values (in_key_order es)
ordered_entries values es all = subst (AreEntries values) (sym (entries_ordered es)) (ordered_all (λ k. is_utf8 k ≡ true) (λ v. is_shaped values v ≡ true) es all)

entries_are_shaped : (values : Option Schema) (k l : Label) (es : Pairs Value) → AreEntries values es → are_entries_shaped values (entry_writes k l es) ≡ true
entries_are_shaped values k l [] all = refl
entries_are_shaped values k l (e ∷ es) all =
    let rest = entries_are_shaped values k l es all.1 in
    let key : fits_in_range kind.String (value.scalar (value.text e.0)) ≡ true = and_from (is_utf8 e.0) true all.0.0 refl in
    and_from (fits_in_range kind.String (value.scalar (value.text e.0))) (is_shaped values e.1 && are_entries_shaped values (entry_writes k l es)) key
    (and_from (is_shaped values e.1) (are_entries_shaped values (entry_writes k l es)) all.0.1 rest)

entries_in_range : (values : Option Schema) (k l : Label) (es : Pairs Value) → AreEntries values es → are_writes_in_range (entry_writes k l es) ≡ true
entries_in_range values k l [] all = refl
entries_in_range values k l (e ∷ es) all =
    let rest = entries_in_range values k l es all.1 in
    and_from (is_utf8 e.0) (is_in_range e.1 && are_writes_in_range (entry_writes k l es)) all.0.0
    (and_from (is_in_range e.1) (are_writes_in_range (entry_writes k l es)) (shaped_range values e.1 all.0.1) rest)

ordered_distinct : (es : Pairs Value) → are_distinct (names (in_key_order es)) ≡ true
ordered_distinct es = ap (λ fs. are_distinct (names fs)) (entries_ordered es) ∙ ascending_distinct (all_put es []) (ordered_ascends es)

pub keys_of-entry_writes : (k l : Label) (es : Pairs Value) → keys_of (entry_writes k l es) ≡ names es
keys_of-entry_writes k l [] = refl
keys_of-entry_writes k l (e ∷ es) = ap (λ ks. e.0 ∷ ks) (keys_of-entry_writes k l es)

-- Fields of a structure, as they are kept: each has a member, by which its value is shaped.

pub record IsField (here : Option Schema) (f : List ℕ × Value) : Type 0 where
  pub known : is_some (named_member here (Some f.0)) ≡ true
  pub shaped : is_shaped (named_member here (Some f.0)) f.1 ≡ true

pub last_field : (here : Option Schema) (name : List ℕ) (fields : Pairs Value) (v : Value) → AllByRecursion (IsField here) fields → last_named name fields ≡ Some v → IsField here (name, v)
last_field here name [] v all e = absurd (cc e)
last_field here name (f ∷ fields) v all e = go (last_named name fields) refl (λ v. last_field here name fields v all.1) e
  where
    go : (o : Option Value) → last_named name fields ≡ o → ((v : Value) → last_named name fields ≡ Some v → IsField here (name, v)) → option_or o (if same_text f.0 name then Some f.1 else None) ≡ Some v → IsField here (name, v)
    go (Some w) is rest h = let same : w ≡ v = cc h in rest v (is ∙ ap Some same)
    go None is rest h = by (same_text f.0 name) refl h
      where
        by : (t : Bool) → same_text f.0 name ≡ t → (if t then Some f.1 else None) ≡ Some v → IsField here (name, v)
        by false e q = absurd (cc q)
        by true e q =
            let names = same_from_test f.0 name (sym e) in
            let values : f.1 ≡ v = cc q in
            record {
              known = subst (λ (n : List ℕ). is_some (named_member here (Some n)) ≡ true) names all.0.known;
              shaped = ap (λ n. is_shaped (named_member here (Some n)) v) (sym names) ∙ ap (is_shaped (named_member here (Some f.0))) (sym values) ∙ all.0.shaped;
            }

fields_are_shaped : (here : Option Schema) (fields : Pairs Value) (ms : List Schema) → AllByRecursion (IsField here) fields → are_fields_shaped here (writes_of (filter_map (field_of fields) ms)) ≡ true
fields_are_shaped here fields [] all = refl
fields_are_shaped here fields (m ∷ ms) all = go m.node.member_name refl (fields_are_shaped here fields ms all)
  where
    go : (o : Option (List ℕ)) → m.node.member_name ≡ o → are_fields_shaped here (writes_of (filter_map (field_of fields) ms)) ≡ true
        → are_fields_shaped here (writes_of (cons_option (option_map (λ v. record { label = label_of m; value = v }) (option_and_then (λ name. last_named name fields) o)) (filter_map (field_of fields) ms))) ≡ true
    go None is done = done
    go (Some name) is done = by (last_named name fields) refl
      where
        by : (o : Option Value) → last_named name fields ≡ o → are_fields_shaped here (writes_of (cons_option (option_map (λ v. record { label = label_of m; value = v }) o) (filter_map (field_of fields) ms))) ≡ true
        by None e = done
        by (Some v) e =
            let field = last_field here name fields v all e in
            let known : is_some (named_member here m.node.member_name) ≡ true = ap (λ n. is_some (named_member here n)) is ∙ field.known in
            let shaped : is_shaped (named_member here m.node.member_name) v ≡ true = ap (λ n. is_shaped (named_member here n) v) is ∙ field.shaped in
            and_from (is_some (named_member here m.node.member_name) && is_shaped (named_member here m.node.member_name) v) (are_fields_shaped here (writes_of (filter_map (field_of fields) ms)))
            (and_from (is_some (named_member here m.node.member_name)) (is_shaped (named_member here m.node.member_name) v) known shaped) done

pub fields_range : (here : Option Schema) (ws : Writes) → are_fields_shaped here ws ≡ true → are_writes_in_range ws ≡ true
fields_range here no_writes e = refl
fields_range here (write l v ws) e =
    let a = and_parts (is_some (named_member here l.member_name) && is_shaped (named_member here l.member_name) v) (are_fields_shaped here ws) e in
    let b = and_parts (is_some (named_member here l.member_name)) (is_shaped (named_member here l.member_name) v) a.0 in
    and_from (is_in_range v) (are_writes_in_range ws) (shaped_range (named_member here l.member_name) v b.1) (fields_range here ws a.1)

null_shaped : (here : Option Schema) (t : Bool) → is_kind kind.Document here ≡ t → is_shaped here (if t then value.scalar (value.document doc.null) else (value.scalar value.null)) ≡ true
null_shaped here false e = refl
null_shaped None true e = absurd (cc e)
null_shaped (Some s) true e =
    let same = one_kind s.node.kind kind.Document e in
    ap (λ k. fits_in_range k (value.scalar (value.document doc.null)) && true) same

each_in_range : (element : Option Schema) (ws : Writes) → are_shaped element ws ≡ true → are_writes_in_range ws ≡ true
each_in_range element no_writes e = refl
each_in_range element (write l v ws) e =
    let parts = and_parts (is_shaped element v) (are_shaped element ws) e in
    and_from (is_in_range v) (are_writes_in_range ws) (shaped_range element v parts.0) (each_in_range element ws parts.1)

field_kept : (here : Option Schema) (name : Option (List ℕ)) (v : Value) → is_some (named_member here name) ≡ true → is_shaped (named_member here name) v ≡ true → IsField here (unwrap_or name [], v)
field_kept here None v known shaped = let q : false ≡ true = sym (ap is_some (none_named (fields_at here))) ∙ known in absurd (cc q)
field_kept here (Some name) v known shaped = record { known = known; shaped = shaped }

mutual
  keeps_shape : (here : Option Schema) (v : Value) → is_shaped here v ≡ true → is_shaped here (settled here v) ≡ true
  keeps_shape here (value.scalar value.null) e = null_shaped here (is_kind kind.Document here) refl
  keeps_shape here (value.list ws) e =
      let element : Option Schema = option_and_then element_of here in
      let a = and_parts (fits_at here (value.list ws) && is_some element) (are_shaped element ws) e in
      let b = and_parts (fits_at here (value.list ws)) (is_some element) a.0 in
      let inside = each_keeps_shape element ws a.1 in
      let fit = fits_as here (value.list ws) (value.list (settled_elements element ws)) b.0 refl (each_in_range element (settled_elements element ws) inside) in
      and_from (fits_at here (value.list (settled_elements element ws)) && is_some element) (are_shaped element (settled_elements element ws))
      (and_from (fits_at here (value.list (settled_elements element ws))) (is_some element) fit b.1) inside
  keeps_shape here (value.map ws) e =
      let values : Option Schema = option_and_then value_of here in
      let keys : Bool = is_kind kind.String (option_and_then key_of here) in
      let a = and_parts (fits_at here (value.map ws) && keys && is_some values && are_distinct (keys_of ws)) (are_entries_shaped values ws) e in
      let b = and_parts (fits_at here (value.map ws) && keys && is_some values) (are_distinct (keys_of ws)) a.0 in
      let c = and_parts (fits_at here (value.map ws) && keys) (is_some values) b.0 in
      let d = and_parts (fits_at here (value.map ws)) keys c.0 in
      let es : Pairs Value = in_key_order (settled_entries values ws) in
      let k : Label = own_label (option_and_then key_of here) _ in
      let l : Label = own_label values _ in
      let all = ordered_entries values (settled_entries values ws) (entries_keep_shape values ws a.1) in
      let now : Writes = entry_writes k l es in
      let fit = fits_as here (value.map ws) (value.map now) d.0 refl (entries_in_range values k l es all) in
      let distinct : are_distinct (keys_of now) ≡ true = ap are_distinct (keys_of-entry_writes k l es) ∙ ordered_distinct (settled_entries values ws) in
      and_from (fits_at here (value.map now) && keys && is_some values && are_distinct (keys_of now)) (are_entries_shaped values now)
      (and_from (fits_at here (value.map now) && keys && is_some values) (are_distinct (keys_of now))
      (and_from (fits_at here (value.map now) && keys) (is_some values) (and_from (fits_at here (value.map now)) keys fit d.1) c.1) distinct)
      (entries_are_shaped values k l es all)
  keeps_shape here (value.structure ws) e =
      let a = and_parts (fits_at here (value.structure ws) && has_distinct_fields here) (are_fields_shaped here ws) e in
      let b = and_parts (fits_at here (value.structure ws)) (has_distinct_fields here) a.0 in
      let all = fields_are_shaped here (settled_fields here ws) (fields_at here) (fields_keep_shape here ws a.1) in
      let now : Value = structure_value here (settled_fields here ws) in
      let fit = fits_as here (value.structure ws) now b.0 refl (fields_range here (writes_of (filter_map (field_of (settled_fields here ws)) (fields_at here))) all) in
      and_from (fits_at here now && has_distinct_fields here) (are_fields_shaped here (writes_of (filter_map (field_of (settled_fields here ws)) (fields_at here))))
      (and_from (fits_at here now) (has_distinct_fields here) fit b.1) all
  keeps_shape here _ e = e

  each_keeps_shape : (element : Option Schema) (ws : Writes) → are_shaped element ws ≡ true → are_shaped element (settled_elements element ws) ≡ true
  each_keeps_shape element no_writes e = refl
  each_keeps_shape element (write l v ws) e =
      let parts = and_parts (is_shaped element v) (are_shaped element ws) e in
      and_from (is_shaped element (settled element v)) (are_shaped element (settled_elements element ws)) (keeps_shape element v parts.0) (each_keeps_shape element ws parts.1)

  pub entries_keep_shape : (values : Option Schema) (ws : Writes) → are_entries_shaped values ws ≡ true → AreEntries values (settled_entries values ws)
  entries_keep_shape values no_writes e = tt
  entries_keep_shape values (write k key ws) e =
      let parts = and_parts (fits_in_range kind.String key) (are_values_shaped values ws) e in
      behind_keeps_shape values (text_of_key key) ws (key_utf8 key parts.0) parts.1

  behind_keeps_shape : (values : Option Schema) (key : List ℕ) (ws : Writes) → is_utf8 key ≡ true → are_values_shaped values ws ≡ true → AreEntries values (settled_behind values key ws)
  behind_keeps_shape values key no_writes utf8 e = tt
  behind_keeps_shape values key (write l v ws) utf8 e =
      let parts = and_parts (is_shaped values v) (are_entries_shaped values ws) e in
      ((utf8, keeps_shape values v parts.0), entries_keep_shape values ws parts.1)

  pub fields_keep_shape : (here : Option Schema) (ws : Writes) → are_fields_shaped here ws ≡ true → AllByRecursion (IsField here) (settled_fields here ws)
  fields_keep_shape here no_writes e = tt
  fields_keep_shape here (write l v ws) e =
      let a = and_parts (is_some (named_member here l.member_name) && is_shaped (named_member here l.member_name) v) (are_fields_shaped here ws) e in
      let b = and_parts (is_some (named_member here l.member_name)) (is_shaped (named_member here l.member_name) v) a.0 in
      (field_kept here l.member_name (settled (named_member here l.member_name) v) b.0 (keeps_shape (named_member here l.member_name) v b.1), fields_keep_shape here ws a.1)

pub settled_shaped : (here : Option Schema) (v : Value) → is_shaped here v ≡ true → is_shaped here (settled here v) ≡ true
settled_shaped here v e = keeps_shape here v e
